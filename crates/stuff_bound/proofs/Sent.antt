-- What a sender is given and what it has sent, bit by bit and eight at once.
use Rattle.std.proofs.Common.{◌≡◌, ℕ, zero, suc, ◌+◌, ◌*◌, ◌/◌, ◌%◌, ◌^◌, ◌<◌, ◌≤◌, ◌==◌, Bool, not, cond, List, ◌∷◌, ◌++◌, length, reverse, refl, sym, ap, subst, arith, lit<}
use Rattle.std.specs.Prelude.{nat_le}
use Rattle.std.proofs.lemmas.Bool.{cases_lt}
use Rattle.std.proofs.lemmas.Bool.Decides.{nat_tests}
use Rattle.std.proofs.lemmas.List.{reverse-append, length-reverse}
use Rattle.stuff_bound.specs.Stuffing.{run, last_bit, with_stuff, stuffed}
use Rattle.stuff_bound.specs.Fields.{bits}
use Rattle.stuff_bound.specs.Sending.{sender_state, HasSent, behind_run, bit_step, one_more, steps, step_at}
use Rattle.stuff_bound.proofs.Stuffs.{run-not, with_opposite-below, run-with_stuff-below, length-stuffed-most}

-- what stands behind one more bit: its state, and a stuff bit where it is the fifth equal one
behind-below : (count : ℕ) (bit : Bool) → count < 5 → behind_run count bit ≡ count + cond bit 5 0
unfolding behind_run
behind-below count bit below = grind (arith, nat_tests)

behind-full : (count : ℕ) (bit : Bool) → 5 ≤ count → behind_run count bit ≡ 16 + (1 + cond (not bit) 5 0)
unfolding behind_run
behind-full count bit full = grind (arith, nat_tests)

-- a state is the run and the bit that was sent last
last_of_state : (bit : Bool) (count : ℕ) → count < 5 → nat_le 5 (count + cond bit 5 0) ≡ bit
last_of_state bit count below = grind (arith, nat_tests)

run_of_state : (bit : Bool) (count : ℕ) → count < 5 → (count + cond bit 5 0) % 5 ≡ count
run_of_state bit count below = grind arith

-- the step of one bit is what stands behind the run with it
bit_step-is : (sent : List Bool) (bit : Bool) → run sent < 5 → bit_step (sender_state sent) bit ≡ behind_run (run (bit ∷ sent)) bit
unfolding bit_step
bit_step-is sent bit below = rw (last_of_state (last_bit sent) (run sent) below, run_of_state (last_bit sent) (run sent) below) refl

-- a sender was given one bit more
record Gives (plain : List Bool) (bit : Bool) (step : ℕ) : Type 0 where
  state : step % 16 ≡ sender_state (with_stuff (bit ∷ plain))
  longer : length (with_stuff (bit ∷ plain)) ≡ length (with_stuff plain) + 1 + step / 16

gives : (plain : List Bool) (bit : Bool) → Gives plain bit (bit_step (sender_state (with_stuff plain)) bit)
gives plain bit =
    grind (arith, run-with_stuff-below, bit_step-is, cases_lt, behind-below, with_opposite-below, behind-full, lit<, run-not)

-- one bit more, behind those that were given so far
one_more-sent : (plain : List Bool) (bit : Bool) (stuff_bits step : ℕ) → HasSent plain (step % 16) (stuff_bits + step / 16) → HasSent (bit ∷ plain) (one_more step bit % 16) (stuff_bits + one_more step bit / 16)
unfolding one_more
one_more-sent plain bit stuff_bits step h =
    let next : ℕ = bit_step (step % 16) bit in
    let is : next ≡ bit_step (sender_state (with_stuff plain)) bit = ap (λ state. bit_step state bit) h.at in
    let more : Gives plain bit next = subst (λ (n : ℕ). Gives plain bit n) (sym is) (gives plain bit) in
    grind arith

-- nothing was given
none-sent : (plain : List Bool) (state stuff_bits : ℕ) → HasSent plain state stuff_bits → HasSent plain (state % 16) (stuff_bits + state / 16)
none-sent plain state stuff_bits h = grind (arith, run-with_stuff-below)

steps-last : (width marked state : ℕ) → marked < 2 → steps (suc width) marked state ≡ state
unfolding steps
steps-last width marked state small = grind (arith, nat_tests)

steps-next : (width marked state : ℕ) → 2 ≤ marked → steps (suc width) marked state ≡ one_more (steps width (marked / 2) state) (marked % 2 == 1)
unfolding steps
steps-next width marked state more = grind (arith, nat_tests)

bits-newest : (width value : ℕ) (plain : List Bool) → reverse (bits (suc width) value) ++ plain ≡ (value % 2 == 1) ∷ (reverse (bits width (value / 2)) ++ plain)
unfolding bits
bits-newest width value plain = grind (arith, reverse-append)

-- the bits behind the leading 1 were given
pub steps-sent : (room width value state stuff_bits : ℕ) (plain : List Bool) → width ≤ room → value < 2 ^ width → HasSent plain state stuff_bits
    → HasSent (reverse (bits width value) ++ plain) (steps room (2 ^ width + value) state % 16) (stuff_bits + steps room (2 ^ width + value) state / 16)
unfolding steps bits
steps-sent zero zero value state stuff_bits plain few small h = none-sent plain state stuff_bits h
steps-sent zero (suc width) value state stuff_bits plain few small h = absurd (omega arith)
steps-sent (suc room) zero value state stuff_bits plain few small h =
    rw (steps-last room (2 ^ 0 + value) state (omega arith)) (none-sent plain state stuff_bits h)
steps-sent (suc room) (suc width) value state stuff_bits plain few small h =
    let half : (2 ^ suc width + value) / 2 ≡ 2 ^ width + value / 2 = omega arith in
    let odd : (2 ^ suc width + value) % 2 ≡ value % 2 = omega arith in
    let before = steps-sent room width (value / 2) state stuff_bits plain (omega arith) (omega arith) h in
    let more = one_more-sent _ (value % 2 == 1) stuff_bits _ before in
    rw (steps-next room (2 ^ suc width + value) state (omega arith), half, odd, bits-newest width value plain) more

-- what the entry of the table says happens
pub entry-sent : (width value marked state stuff_bits step : ℕ) (plain : List Bool) → width ≤ 8 → value < 2 ^ width → state < 10 → marked ≡ 2 ^ width + value → step ≡ step_at (16 * marked + state)
    → HasSent plain state stuff_bits → HasSent (reverse (bits width value) ++ plain) (step % 16) (stuff_bits + step / 16)
unfolding step_at
entry-sent width value marked state stuff_bits step plain few small in_range marked_is step_is h =
    let row : (16 * marked + state) / 16 ≡ 2 ^ width + value = omega arith in
    let column : (16 * marked + state) % 16 ≡ state = omega arith in
    rw (step_is, row, column) (steps-sent 8 width value state stuff_bits plain few small h)

-- ---- each step leads to a state

behind_run-small : (count : ℕ) (bit : Bool) → behind_run count bit % 16 < 10
behind_run-small count bit = grind (arith, cases_lt, behind-below, behind-full)

low-small : (higher next : ℕ) → next % 16 < 10 → (higher * 16 + next) % 16 < 10
low-small higher next small = omega arith

one_more-small : (step : ℕ) (bit : Bool) → one_more step bit % 16 < 10
unfolding one_more bit_step
one_more-small step bit = low-small (step / 16) _ (behind_run-small _ bit)

steps-small : (width marked state : ℕ) → state < 10 → steps width marked state % 16 < 10
unfolding steps
steps-small width marked state small = grind (arith, cases_lt, steps-last, steps-next, one_more-small)

pub step_at-small : (marked state : ℕ) → state < 10 → step_at (16 * marked + state) % 16 < 10
unfolding step_at
step_at-small marked state small = grind (arith, steps-small)

-- what it sent is the stuffing of what it was given
pub HasSent-length : (plain : List Bool) (state stuff_bits : ℕ) → HasSent (reverse plain) state stuff_bits → length (stuffed plain) ≡ length plain + stuff_bits
HasSent-length plain state stuff_bits h = grind (arith, length-reverse)

-- so its stuff bits are fewer than a quarter of that
pub HasSent-fewer : (plain : List Bool) (state stuff_bits : ℕ) → HasSent (reverse plain) state stuff_bits → 0 < length plain → 4 * stuff_bits + 1 ≤ length plain
HasSent-fewer plain state stuff_bits h some =
    omega (arith, HasSent-length plain state stuff_bits h, length-stuffed-most plain some)
