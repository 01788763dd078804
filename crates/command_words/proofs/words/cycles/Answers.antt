use Rattle.std.proofs.Common.{◌∙◌, ap, codes, option_and_then, unwrap_or}
use Rattle.std.specs.Str.Parse.{ParsesUnsigned, ExplainsUnsignedError, HasUnsignedDigitsIfOk}
use Rattle.clap.specs.Words.{found_of, one_text}
use Rattle.clap.proofs.WalkLemmas.{one_text-rows}
use Rattle.command_words.specs.Words.{number_in}
use Rattle.command_words.proofs.WordLemmas.{read_number_of}
use Rattle.command_words.proofs.words.cycles.Goals as goal

pub returns : goal.returns
returns c =
    let found = found_of c.args.matches.now in
    record {
      cycles = c.unwrap_or.ensures ∙ ap (λ number. unwrap_or number 0)
          (read_number_of (λ t x. ParsesUnsigned 16 10 t x × ExplainsUnsignedError 10 t x × HasUnsignedDigitsIfOk t x) 16
          (one_text found (codes "at")) c.get_one.result (λ t x is. is.0) c.get_one.ensures.none c.get_one.ensures.value
          ∙ ap (option_and_then (number_in 16)) (one_text-rows found (codes "at")));
    }
