-- Words for the contracts of a sender that is given many plain bits at once.
use Rattle.std.specs.Prelude.{◌≡◌, ℕ, zero, suc, ◌+◌, ◌*◌, ◌/◌, ◌%◌, ◌==◌}
use Rattle.std.specs.Prelude.{nat_lt, nat_le, Bool, if◌then◌else◌, List, length, reverse}
use Rattle.std.specs.Bool.{beq}
use Rattle.stuff_bound.specs.Stuffing.{last_bit, run, with_stuff}

-- the state of a sender: how many equal bits it sent last, 0 to 4, and 5 more where these are recessive
abbrev pub sender_state : List Bool → ℕ
sender_state sent = run sent + (if last_bit sent then 5 else 0)

-- what a sender keeps: its state, and how many stuff bits it has sent
pub record Counted : Type 0 where
  pub state : ℕ
  pub stuff_bits : ℕ

-- a sender that was given these plain bits, newest first, is in this state and has sent so many stuff bits
pub record HasSent (plain : List Bool) (state stuff_bits : ℕ) : Type 0 where
  pub at : state ≡ sender_state (with_stuff plain)
  pub longer : length (with_stuff plain) ≡ length plain + stuff_bits

-- a sender that keeps this was given these plain bits, in the order of sending
abbrev pub WasGiven : Counted → List Bool → Type 0
WasGiven kept plain = HasSent (reverse plain) kept.state kept.stuff_bits

-- ---- what one entry of the table of steps says: the next state, and 16 for each stuff bit that was sent on the way

-- behind a run of so many of this bit: the opposite bit behind five
unfoldable pub behind_run : ℕ → Bool → ℕ
behind_run count bit =
    if nat_le 5 count then 16 + 1 + (if bit then 0 else 5) else count + (if bit then 5 else 0)

-- one bit, from a state
unfoldable pub bit_step : ℕ → Bool → ℕ
bit_step state bit = behind_run (if beq bit (nat_le 5 state) then state % 5 + 1 else 1) bit

-- one bit more
unfoldable pub one_more : ℕ → Bool → ℕ
one_more step bit = step / 16 * 16 + bit_step (step % 16) bit

-- the bits of `marked` behind its leading 1, of which there are `width` at most, from a state
unfoldable pub steps : ℕ → ℕ → ℕ → ℕ
steps zero marked state = state
steps (suc width) marked state =
    if nat_lt marked 2 then state else one_more (steps width (marked / 2) state) (marked % 2 == 1)

-- the entry at a place of the table
unfoldable pub step_at : ℕ → ℕ
step_at place = steps 8 (place / 16) (place % 16)
