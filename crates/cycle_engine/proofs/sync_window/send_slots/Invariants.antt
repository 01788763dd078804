use Rattle.std.proofs.Common.{◌≡◌, ℕ, [], ◌∷◌, ◌+◌, ◌*◌, ◌≤◌, ◌++◌, ◌||◌, drop, false, length, true, vec_len, vec_capacity}
use Rattle.bit_sets.specs.Sets.{has_bit}
use Rattle.cycle_engine.specs.SyncWindow.{back_to_back, by_slots, due_among, is_among}
use Rattle.cycle_engine.proofs.sync_window.send_slots.Given as goal

-- what is put so far, with the frames of the slots that are left, is all that is to be put
abbrev pub invariant-loop-slot : goal.invariant-loop-slot
invariant-loop-slot l = record {
  all : l.out.items ++ back_to_back (by_slots (due_among (l.node.state ∷ []) l.left)) l.at l.until
      ≡ l.fn.out.items ++ back_to_back (by_slots (due_among (l.node.state ∷ []) l.fn.set)) l.from l.until;
  among : (slot : ℕ) → has_bit l.left slot ≡ true → has_bit l.fn.set slot ≡ true;
  few : l.from + 47 * vec_len l.out ≤ l.at + 47 * vec_len l.fn.out;
  left : (slot : ℕ) → has_bit l.fn.set slot
      ≡ (is_among slot (drop (length l.fn.out.items) l.out.items) || has_bit l.left slot);
  apart : (slot : ℕ) → has_bit l.left slot ≡ true → is_among slot (drop (length l.fn.out.items) l.out.items) ≡ false;
  long : length l.fn.out.items ≤ length l.out.items;
  more : vec_len l.fn.out ≤ vec_len l.out;
  capacity : vec_capacity l.fn.out ≤ vec_capacity l.out;
}

abbrev pub decreases-loop-slot : goal.decreases-loop-slot
decreases-loop-slot l = l.left
