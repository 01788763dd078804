use Rattle.std.proofs.Common.{◌≡◌, ◌∙◌, length, sym, ap, arith, length-drop}
use Rattle.std.specs.Cmp.Lexicographic.{other_text}
use Rattle.saved_state.specs.Bytes.{AreBytesOf}
use Rattle.master_core.specs.declared.saved.Saved.{Saved}
use Rattle.saved_state.proofs.Standing.{behind-first, none-few, one-state, same-bytes}
use Rattle.saved_state.proofs.reading.read.Goals.{In-Some}
use Rattle.saved_state.proofs.reading.read.Goals as goal

-- what was found is the state that has the bytes
found-is : (c : In-Some) → (saved : Saved) → AreBytesOf saved c.args.bytes.now → c.in-Some.saved ≡ saved
found-is c saved are =
    let ns = c.in_ok-numbers.numbers.items in
    let of = rw c.in-Some.is at c.in_ok-saved.ensures.state in
    let rest = behind-first c.as_slice.result.now ns c.as_slice.ensures.value in
    one-state saved c.args.bytes.now ns _ c.in-Some.saved c.in_ok-numbers.ensures.numbers are rest of

pub returns-in_default-clause-none : goal.returns-in_default-clause-none
returns-in_default-clause-none c = λ _ saved are.
    let few = ap length c.as_slice.ensures.value in
    none-few saved c.args.bytes.now c.in_ok-numbers.numbers.items c.in_ok-numbers.ensures.numbers are (omega (arith, few, c.in_default.len_below))

pub returns-in_default-2-clause-none : goal.returns-in_default-2-clause-none
returns-in_default-2-clause-none c = λ _ saved are.
    let ns = c.in_ok-numbers.numbers.items in
    let few = c.in_ok-saved.ensures.none c.in_default-2.is in
    let rest = ap length (behind-first c.as_slice.result.now ns c.as_slice.ensures.value) in
    none-few saved c.args.bytes.now ns c.in_ok-numbers.ensures.numbers are (omega (arith, few, rest, length-drop 1 ns))

pub returns-clause-none : goal.returns-clause-none
returns-clause-none c = λ _ saved are.
    let same = same-bytes saved c.in-Some.saved c.args.bytes.now c.in_ok-again.again.items (found-is (goal.at.returns-clause-none c).In-Some saved are) are c.in_ok-again.ensures.bytes in
    other_text c.as_slice-2.result.now c.args.bytes.now c.if-eq.ensures (c.as_slice-2.ensures.value ∙ same)

pub returns-then-eq-clause-only : goal.returns-then-eq-clause-only
returns-then-eq-clause-only c = λ other are. sym (found-is (goal.at.returns-then-eq-clause-only c).In-Some other are)
