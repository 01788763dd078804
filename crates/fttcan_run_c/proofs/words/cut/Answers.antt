use Rattle.std.proofs.Common.{None, Some, arith}
use Rattle.std.proofs.lemmas.Str.Pattern.{split_parts}
use Rattle.fttcan_run_c.proofs.Cutting.{word-alone, word-in-front}
use Rattle.fttcan_run_c.proofs.words.cut.Goals as goal

pub returns-in-Some-clause-words : goal.returns-in-Some-clause-words
returns-in-Some-clause-words c =
    let parts = split_parts 0 c.args.text.now (Some (c.in-Some.word, c.in-Some.rest)) c.in-Some.ensures.cases (omega arith) in
    rw parts.0 (word-in-front _ _ parts.1)

pub returns-in-None-clause-words : goal.returns-in-None-clause-words
returns-in-None-clause-words c = word-alone _ (split_parts 0 c.args.text.now None c.in-None.ensures.cases (omega arith))
