-- The slots that a node is to send in the cycle that is open for it, and their instances.
use Rattle.std.proofs.Common.{◌≡◌, ℕ, ◌<◌, ◌≤◌, ◌||◌, true, false, Option, None, Some, option_map, List, [], get_or, ◌∙◌, arith}
use Rattle.std.specs.Prelude.{IfSome}
use Rattle.std.specs.Option.{option_map_or}
use Rattle.std.proofs.lemmas.Bool.{false≢true, lt-ltb}
use Rattle.requirement_table.specs.declared.entries.Placed.{Placed}
use Rattle.requirement_table.specs.Instance.{bytes_of, payload}
use Rattle.bit_sets.specs.Sets.{has_bit, set_of, most_slots}
use Rattle.requirement_table.specs.Table.{instance_in}
use Rattle.bit_sets.proofs.Shared.{has_bit-set_of}
use Rattle.node_model.specs.Node.{NodeState, is_due}
use Rattle.node_model.specs.Kept.{AreReady, HaveInstances, KnowsDue, KnowsInstances, opened_of, sends_from}
use Rattle.node_model.specs.Window.{is_due_slot}
use Rattle.node_model.specs.declared.cycle.Open.{Open}
use Rattle.node_model.specs.declared.entries.Ready.{Ready}
use Rattle.node_model.proofs.Ready.{known-slot}

-- a set of slots with those of an open cycle
pub with-due : (node : NodeState) (o : Open) (others result : ℕ) → node.opened ≡ Some (opened_of o) → KnowsDue node.entries o
    → result ≡ set_of most_slots (λ slot. has_bit others slot || has_bit o.due slot)
    → (slot : ℕ) → slot < most_slots → has_bit result slot ≡ (has_bit others slot || is_due_slot node slot)
with-due node o others result open_cycle knows is slot within = grind (arith, has_bit-set_of, lt-ltb)

pub due-known : (entries left : List Placed) (slots : List Ready) (d : Ready) (current : Option Open) (slot next : ℕ) → slot < most_slots
    → IfSome current (KnowsDue entries) → IfSome current (KnowsInstances slots)
    → HaveInstances entries (sends_from (option_map opened_of current) next) left → AreReady left slots
    → option_map_or (λ x. is_due entries x slot) (option_map opened_of current) false ≡ true
    → (option_map_or (λ x. option_map_or bytes_of (instance_in entries slot x.cycle) []) (option_map opened_of current) []
    ≡ payload (get_or slots slot d).length (get_or slots slot d).number) × ((get_or slots slot d).length ≤ 8)
due-known entries left slots d None slot next within knows told have ready due = absurd (false≢true due)
due-known entries left slots d (Some o) slot next within knows told have ready due =
    let known = known-slot left slots slot o.cycle d ready (told slot (knows slot within ∙ due)) in
    let same : instance_in left slot o.cycle ≡ instance_in entries slot o.cycle = have slot o.cycle (omega arith) in (grind (arith, option_map))
