use Rattle.std.proofs.Common.{◌≡◌, ◌≤◌, length, take, vec_len, vec_capacity}
use Rattle.node_model.specs.Kept.{AreSlotsOf, kept_of}
use Rattle.node_model.proofs.entries.keep_own.Given as goal

abbrev pub invariant-loop-p : goal.invariant-loop-p
invariant-loop-p l = record {
  own : l.entries.items ≡ kept_of l.all l.number (take l.p-index l.placed);
  slots : AreSlotsOf l.entries.items l.slots;
  few : vec_len l.entries ≡ length (kept_of l.all l.number (take l.p-index l.placed));
  capacity : vec_capacity l.fn.entries ≤ vec_capacity l.entries;
}
