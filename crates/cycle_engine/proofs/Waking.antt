-- When a node offers something next.
use Rattle.std.proofs.Common.{ℕ, List, [], Option, arith}
use Rattle.std.specs.List.{cons_option}
use Rattle.bus_line.specs.Stations.{IsWake}
use Rattle.node_model.specs.Node.{IsNextOffer, NodeState, node_offer}

abbrev offered_by : NodeState → ℕ → List ℕ
offered_by node later = cons_option (node_offer node later) []

pub IsWake-one : (node : NodeState) (at : ℕ) (next : Option ℕ) → IsNextOffer node at next → IsWake (offered_by node) at next
IsWake-one node at next never = grind arith
