-- What holds of the node of a table between two lines.
use Rattle.std.specs.Prelude.{◌≡◌}
use Rattle.trigger_kind.specs.Kind.{opening_identifier}
use Rattle.cycle_cases.specs.declared.one_node.HeardOpenings.{HeardOpenings}

-- the node's next cycle is the number of frames that opened one for it
pub record CountsCycles (opened : HeardOpenings) : Type 0 where
  pub next : opened.node.state.next ≡ opened.cycles
  pub opening : opened.opening ≡ opening_identifier opened.node.state.layout.slots
