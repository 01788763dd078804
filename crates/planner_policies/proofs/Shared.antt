-- What proofs of the crates above may take from here: lemmas about the definitions of this crate.
pub use Rattle.planner_policies.proofs.Steps.{alike-from_same, left-alike, missed-alike, pending-alike, planned-alike}
pub use Rattle.planner_policies.proofs.Filling.{Agree, AreAlike, taken-alike, taken-all, taken-fits, taken-more, taken-pending, same-test}
pub use Rattle.planner_policies.proofs.Going.{before-first, before-next, on-missed, on-pending, on-planned, pending-test, same-missed, same-pending, same-planned, state-left, state-missed, state-planned}
pub use Rattle.planner_policies.proofs.Fits.{good-cycle, held-is, left-valid, planned-fits, planned-sendable, valid-along}
pub use Rattle.planner_policies.proofs.Loops.{loop-pending, loop-planned, never-missed}
pub use Rattle.planner_policies.proofs.AllFitting.{all-planned, any-between, cost-between, put-somewhere}
pub use Rattle.planner_policies.proofs.Cycles.{planned-set, planned-width, split-of}
pub use Rattle.planner_policies.proofs.DueSlots.{IsSplit, has_slot, instance-with, last-is, slots-contain}
pub use Rattle.planner_policies.proofs.Held.{held-parts}
pub use Rattle.planner_policies.proofs.Lines.{same-read, take-same}
pub use Rattle.planner_policies.proofs.Rows.{IsLineOf, IsMore, due_in-of, fresh, line_of-more, line_of-none, line_of-start, more-of, room-for, sends-test, sends_of, stands-in, whole_line-of}
pub use Rattle.planner_policies.proofs.TakenEach.{cost_of}
