use Rattle.std.proofs.Common.{◌≡◌, ◌==◌, ◌∙◌, ap, map, string_bytes, subst}
use Rattle.std.specs.Prelude.{IfOk}
use Rattle.std.specs.List.{slice_split}
use Rattle.fttcan_run_c.proofs.Cutting.{words-of-no-text, words-of-text}
use Rattle.fttcan_run_c.proofs.words.words_of.Goals as goal

pub returns-in-Ok : goal.returns-in-Ok
returns-in-Ok c = record {
  words = subst (λ parts. IfOk c.words_in.result (λ words. map string_bytes words.items ≡ parts))
      (ap (slice_split (λ byte. byte == 0)) c.in-Ok.ensures.cases.0 ∙ words-of-text c.args.bytes.now c.in-Ok.ensures.cases.1) c.words_in.ensures.words;
}

pub returns-in-Err : goal.returns-in-Err
returns-in-Err c = record { words = ap (map string_bytes) c.new.ensures.items ∙ words-of-no-text c.args.bytes.now c.in-Err.ensures.cases.0 }
