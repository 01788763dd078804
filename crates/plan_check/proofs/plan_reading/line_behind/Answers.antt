use Rattle.std.proofs.Common.{◌++◌, ◌∷◌, ◌∙◌, ap, sym}
use Rattle.std.proofs.lemmas.List.{append_cancel_left}
use Rattle.plan_check.proofs.TextLines.{stripped-none, stripped-some}
use Rattle.text_fields.proofs.Shared.{line-is, no_feed-append, no_line}
use Rattle.plan_check.proofs.plan_reading.line_behind.Goals as goal

pub returns-in_err-line-clause-none : goal.returns-in_err-line-clause-none
returns-in_err-line-clause-none c =
    rw c.from_residual.ensures
    (λ said after clean is. no_line c.args.text.now (c.args.word.now ++ said) after c.in_err-line.ensures.none is)

pub returns-in_err-said-clause-none : goal.returns-in_err-said-clause-none
returns-in_err-said-clause-none c =
    rw c.from_residual-in_err-said.ensures
    (λ said after clean is.
    stripped-none c.in_ok-line.line.now c.args.word.now said c.in_err-said.ensures.cases
    (line-is c.args.text.now c.in_ok-line.line.now c.in_ok-line.after.now (c.args.word.now ++ said) after c.in_ok-line.ensures.split
    c.in_ok-line.ensures.line (no_feed-append c.args.word.now said c.requires.word clean) is))

pub returns-clause-found : goal.returns-clause-found
returns-clause-found c =
    c.in_ok-line.ensures.split
    ∙ ap (λ line. line ++ 10 ∷ c.in_ok-line.after.now)
    (stripped-some c.in_ok-line.line.now c.args.word.now c.in_ok-said.said.now c.in_ok-said.ensures.cases.0 c.in_ok-said.ensures.cases.1)

pub returns-clause-only : goal.returns-clause-only
returns-clause-only c = λ said after clean is.
    let rest = stripped-some c.in_ok-line.line.now c.args.word.now c.in_ok-said.said.now c.in_ok-said.ensures.cases.0
    c.in_ok-said.ensures.cases.1 in
    let line = line-is c.args.text.now c.in_ok-line.line.now c.in_ok-line.after.now (c.args.word.now ++ said) after c.in_ok-line.ensures.split
    c.in_ok-line.ensures.line (no_feed-append c.args.word.now said c.requires.word clean) is in
    append_cancel_left c.args.word.now c.in_ok-said.said.now said (sym rest ∙ line)
