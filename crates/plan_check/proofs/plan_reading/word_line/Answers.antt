use Rattle.std.specs.Cmp.Lexicographic.{other_text}
use Rattle.text_fields.proofs.Shared.{line-is, no_line}
use Rattle.plan_check.proofs.plan_reading.word_line.Goals as goal

pub returns-in_err-line-clause-none : goal.returns-in_err-line-clause-none
returns-in_err-line-clause-none c =
    rw c.from_residual.ensures (λ after is. no_line c.args.text.now c.args.word.now after c.in_err-line.ensures.none is)

pub returns-else-eq-clause-none : goal.returns-else-eq-clause-none
returns-else-eq-clause-none c = λ after is.
    let same = line-is c.args.text.now c.in_ok-line.line.now c.in_ok-line.after.now c.args.word.now after c.in_ok-line.ensures.split c.in_ok-line.ensures.line
    c.requires.word is in
    other_text c.in_ok-line.line.now c.args.word.now c.if-eq.ensures same
