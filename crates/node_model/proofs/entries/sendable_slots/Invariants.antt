use Rattle.std.proofs.Common.{◌≡◌, ℕ, ◌&&◌, nat_eq, is_some, take}
use Rattle.std.specs.List.{list_any}
use Rattle.requirement_table.specs.Instance.{instance_of}
use Rattle.bit_sets.specs.Sets.{has_bit}
use Rattle.node_model.specs.Kept.{AreReady, AreSendableIn}
use Rattle.node_model.proofs.entries.sendable_slots.Given as goal

abbrev pub invariant-loop-p : goal.invariant-loop-p
invariant-loop-p l = record {
  slots : (slot : ℕ) → has_bit l.slots slot
      ≡ list_any (λ p. nat_eq p.entry.slot slot && is_some (instance_of p l.cycle)) (take l.p-index l.entries);
  sendable : AreSendableIn l.cycle l.slots l.ready;
  ready : AreReady l.entries l.ready;
}
