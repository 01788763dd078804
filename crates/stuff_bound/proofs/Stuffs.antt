-- What a sender puts on the wire is stuffed, and nothing else is, both newest first.
use Rattle.std.proofs.Common.{◌≡◌, ℕ, ◌+◌, ◌*◌, ◌<◌, ◌≤◌, Bool, true, false, not, List, [], ◌∷◌, length, get_or, take, reverse, refl, sym, ap, ◌∙◌, inl, inr, arith}
use Rattle.std.proofs.lemmas.Grind.{common_steps}
use Rattle.std.proofs.lemmas.Bool.{cases_lt, cond-true, cond-false}
use Rattle.std.proofs.lemmas.List.{reverse-reverse, length-reverse, reverse-append, take_more}
use Rattle.std.proofs.lemmas.Bool.Decides.{nat_tests}
use Rattle.stuff_bound.specs.Stuffing.{run, at_stuff_place, HasNoSix, without_stuff, Stuffs, with_opposite, with_stuff, stuffed}

-- one more bit makes the run at most one longer
pub run-more : (bit : Bool) (sent : List Bool) → run (bit ∷ sent) ≤ run sent + 1
run-more bit sent = grind (arith, nat_tests)

pub run_positive : (bit : Bool) (sent : List Bool) → 0 < run (bit ∷ sent)
run_positive bit sent = grind (arith, nat_tests)

-- the opposite bit begins a new run
pub run-not : (bit : Bool) (sent : List Bool) → run (not bit ∷ bit ∷ sent) ≡ 1
run-not bit sent = grind arith

pub with_opposite-below : (sent : List Bool) → run sent < 5 → with_opposite sent ≡ sent
with_opposite-below sent below = grind (arith, nat_tests)

-- what holds of one more bit and, where it is the fifth equal one, of it with its opposite holds of what is sent
pub with_opposite_cases : (P : List Bool → Type 0) (bit : Bool) (sent : List Bool) → (run (bit ∷ sent) < 5 → P (bit ∷ sent)) → (5 ≤ run (bit ∷ sent) → P (not bit ∷ bit ∷ sent)) → P (with_opposite (bit ∷ sent))
with_opposite_cases P bit sent below full = grind (arith, cases_lt, with_opposite-below)

-- a bit at a stuff place is left out, and any other one stays
pub without_stuff-full : (bit : Bool) (sent : List Bool) → 5 ≤ run sent → without_stuff (bit ∷ sent) ≡ without_stuff sent
without_stuff-full bit sent full = grind (arith, nat_tests)

pub without_stuff-below : (bit : Bool) (sent : List Bool) → run sent < 5 → without_stuff (bit ∷ sent) ≡ bit ∷ without_stuff sent
without_stuff-below bit sent below = grind (arith, nat_tests)

-- what a sender puts on the wire does not end with five equal bits
pub run-with_stuff-below : (plain : List Bool) → run (with_stuff plain) < 5
run-with_stuff-below [] = omega arith
run-with_stuff-below (bit ∷ plain) = grind (arith, with_opposite_cases, run-not)

-- nor has it six equal neighbours
pub HasNoSix-with_stuff : (plain : List Bool) → HasNoSix (with_stuff plain)
HasNoSix-with_stuff [] = tt
HasNoSix-with_stuff (bit ∷ plain) =
    let sent = with_stuff plain in
    let more : run (bit ∷ sent) < 6 = omega (arith, run-more bit sent, run-with_stuff-below plain) in
    with_opposite_cases HasNoSix bit sent (λ _. (more, HasNoSix-with_stuff plain))
    (λ _. (rw run-not (omega arith), (more, HasNoSix-with_stuff plain)))

-- and without its stuff places it is what was sent
pub without_stuff-with_stuff : (plain : List Bool) → without_stuff (with_stuff plain) ≡ plain
without_stuff-with_stuff [] = refl
without_stuff-with_stuff (bit ∷ plain) =
    let sent = with_stuff plain in
    let stays : without_stuff (bit ∷ sent) ≡ bit ∷ plain = without_stuff-below bit sent (run-with_stuff-below plain) ∙ ap (λ rest. bit ∷ rest) (without_stuff-with_stuff plain) in
    with_opposite_cases (λ wire. without_stuff wire ≡ bit ∷ plain) bit sent (λ _. stays)
    (λ full. without_stuff-full (not bit) (bit ∷ sent) full ∙ stays)

-- a bit behind five equal ones is their opposite, where no six are equal
opposite_behind_five : (bit : Bool) (sent : List Bool) → 5 ≤ run sent → run (bit ∷ sent) < 6 → bit ∷ sent ≡ with_opposite sent
opposite_behind_five bit sent full below = grind arith

run_behind_five : (bit : Bool) (sent : List Bool) → 5 ≤ run sent → run (bit ∷ sent) < 6 → run (bit ∷ sent) < 5
run_behind_five bit sent full below = grind (arith, nat_tests)

-- a sender of what is left puts the same on the wire, and the opposite bit behind it where five equal ones end it
pub with_stuff-without_stuff : (sent : List Bool) → HasNoSix sent → with_stuff (without_stuff sent) ≡ with_opposite sent
with_stuff-without_stuff [] no_six = refl
with_stuff-without_stuff (bit ∷ sent) no_six =
    let before = with_stuff-without_stuff sent no_six.1 in
    elim (cases_lt (run sent) 5) [
      | inl h ↦
          ap with_stuff (without_stuff-below bit sent h)
          ∙ ap (λ wire. with_opposite (bit ∷ wire)) (before ∙ with_opposite-below sent h)
      | inr h ↦
          ap with_stuff (without_stuff-full bit sent h) ∙ before ∙ sym (opposite_behind_five bit sent h no_six.0)
          ∙ sym (with_opposite-below (bit ∷ sent) (run_behind_five bit sent h no_six.0))
    ]

-- no other list stuffs what was sent
pub with_stuff_only : (wire plain : List Bool) → HasNoSix wire → run wire < 5 → without_stuff wire ≡ plain → wire ≡ with_stuff plain
with_stuff_only wire plain no_six below left = grind (arith, with_opposite-below, with_stuff-without_stuff)

-- the same in the order of sending
pub Stuffs_from_sent : (wire plain : List Bool) → reverse wire ≡ with_stuff (reverse plain) → Stuffs wire plain
Stuffs_from_sent wire plain e = grind (arith, HasNoSix-with_stuff, run-with_stuff-below, without_stuff-with_stuff)

pub Stuffs-stuffed : (plain : List Bool) → Stuffs (stuffed plain) plain
Stuffs-stuffed plain = Stuffs_from_sent (stuffed plain) plain (reverse-reverse (with_stuff (reverse plain)))

pub stuffed_only : (wire plain : List Bool) → Stuffs wire plain → wire ≡ stuffed plain
stuffed_only wire plain h = grind (arith, reverse-reverse, with_stuff_only)

pub plain_only : (wire first second : List Bool) → Stuffs wire first → Stuffs wire second → first ≡ second
plain_only wire first second h k =
    sym (reverse-reverse first) ∙ ap reverse (sym h.left ∙ k.left) ∙ reverse-reverse second

-- four bits at least stand before each stuff bit that no earlier stuff bit had before it
pub length-with_stuff-most : (plain : List Bool) → 4 * length (with_stuff plain) + run (with_stuff plain) ≤ 5 * length plain
length-with_stuff-most [] = omega arith
length-with_stuff-most (bit ∷ plain) =
    let sent = with_stuff plain in
    let before = length-with_stuff-most plain in
    grind (arith, with_opposite_cases, run-more, run-not)

pub length-with_stuff-least : (plain : List Bool) → length plain ≤ length (with_stuff plain)
length-with_stuff-least [] = omega arith
length-with_stuff-least (bit ∷ plain) =
    with_opposite_cases (λ wire. length (bit ∷ plain) ≤ length wire) bit (with_stuff plain)
    (λ _. omega (arith, length-with_stuff-least plain)) (λ _. omega (arith, length-with_stuff-least plain))

pub run-with_stuff_positive : (plain : List Bool) → 0 < length plain → 0 < run (with_stuff plain)
run-with_stuff_positive [] some = absurd (omega arith)
run-with_stuff_positive (bit ∷ plain) some = grind (arith, with_opposite_cases, run_positive)

pub length-stuffed-least : (plain : List Bool) → length plain ≤ length (stuffed plain)
length-stuffed-least plain = grind (arith, length-with_stuff-least, length-reverse)

pub length-stuffed-most : (plain : List Bool) → 0 < length plain → 4 * length (stuffed plain) + 1 ≤ 5 * length plain
length-stuffed-most plain some = grind (arith, length-reverse, length-with_stuff-most, run-with_stuff_positive)

-- a loop over the bits to be sent: one more bit, with its opposite or without
pub reverse-take_more : (bits : List Bool) (i : ℕ) (d : Bool) → i < length bits → reverse (take (i + 1) bits) ≡ get_or bits i d ∷ reverse (take i bits)
reverse-take_more bits i d inside = grind (arith, common_steps, take_more, reverse-append)

pub with_stuff_more-full : (bits : List Bool) (i : ℕ) (d : Bool) → i < length bits → at_stuff_place (get_or bits i d ∷ with_stuff (reverse (take i bits))) ≡ true → with_stuff (reverse (take (i + 1) bits)) ≡ not (get_or bits i d) ∷ get_or bits i d ∷ with_stuff (reverse (take i bits))
with_stuff_more-full bits i d inside full = ap with_stuff (reverse-take_more bits i d inside) ∙ cond-true _ _ _ full

pub with_stuff_more-below : (bits : List Bool) (i : ℕ) (d : Bool) → i < length bits → at_stuff_place (get_or bits i d ∷ with_stuff (reverse (take i bits))) ≡ false → with_stuff (reverse (take (i + 1) bits)) ≡ get_or bits i d ∷ with_stuff (reverse (take i bits))
with_stuff_more-below bits i d inside below = ap with_stuff (reverse-take_more bits i d inside) ∙ cond-false _ _ _ below
