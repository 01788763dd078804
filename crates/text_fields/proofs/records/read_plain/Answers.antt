use Rattle.std.proofs.Common.{◌≡◌, ◌<◌, ◌==◌, ◌∙◌, false, get_or, length, sym, arith}
use Rattle.std.proofs.lemmas.Bool.Decides.{nat_tests}
use Rattle.std.proofs.lemmas.List.{nil_from_length}
use Rattle.text_fields.proofs.PlainCuts.{begins, first-record, length-ends, no-record}
use Rattle.text_fields.proofs.records.read_plain.Goals as goal

pub returns-then-is_empty-clause-none : goal.returns-then-is_empty-clause-none
returns-then-is_empty-clause-none c = λ _.
    let line = c.behind_ends-line.result.now in
    let none : length line ≡ 0 = grind (arith, nat_tests, c.is_empty.ensures, c.if-is_empty.true) in
    no-record c.args.text.now (sym c.behind_ends-line.ensures.value ∙ nil_from_length line none)

pub cut-requires : goal.cut-requires
cut-requires c =
    let line = c.behind_ends-line.result.now in
    let some : 0 < length line = grind (arith, nat_tests, c.is_empty.ensures, c.if-is_empty.false) in
    record { begun = rw c.behind_ends-line.ensures.value (begins c.args.text.now (rw c.behind_ends-line.ensures.value at some)) }

pub returns-clause-one : goal.returns-clause-one
returns-clause-one c = λ _.
    let line = c.behind_ends-line.result.now in
    let some : 0 < length line = grind (arith, nat_tests, c.is_empty.ensures, c.if-is_empty.false) in
    let first : (get_or line 0 0 == 0xEF) ≡ false = grind (arith, nat_tests, c.if-line.false) in
    first-record c.args.text.now line _ c.in_ok-count.behind.now c.behind_ends-line.ensures.value some first c.in_ok-count.ensures.cut

pub returns-clause-fewer : goal.returns-clause-fewer
returns-clause-fewer c = λ _.
    let least = rw (sym c.behind_ends-line.ensures.value) at (length-ends c.args.text.now) in
    omega (arith, c.in_ok-count.ensures.cut.fewer, least)
