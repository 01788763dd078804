-- Words of the reader of system files, for its parts: the places of its keys, and when a fault is the first of some.
use Rattle.std.specs.Prelude.{◌≡◌, ◌≢◌, ℕ, ◌<◌, ◌≤◌, ◌&&◌}
use Rattle.std.specs.Prelude.{nat_le, pos, if◌then◌else◌, Bool, List, [], ◌∷◌, Option, Some, None, codes}
use Rattle.std.specs.Borrow.{Bor}
use Rattle.std.specs.BTreeMap.{BTreeMap}
use Rattle.std.specs.Prelude.{String}
use Rattle.std.specs.declared.alloc.Global.{Global}
use Rattle.profile.specs.Limits.{greatest_identifier, least_asynchronous, most_nodes}
use Rattle.toml.specs.Data.{Data, integer, Members, no_members}
use Rattle.toml.specs.View.{table_view}
use Rattle.toml.specs.declared.value.Value.{Value}
use Rattle.async_window.specs.declared.request.Owner.{Owner}
use Rattle.trigger_kind.specs.Kind.{IsSlots}
use Rattle.cycle_layout.specs.Layout.{IsCycleLength, IsTurnaround, IsWindow}
use Rattle.system_file.specs.declared.system.BusNumbers.{BusNumbers}
use Rattle.system_file.specs.declared.system.Plan.{Plan}
use Rattle.system_file.specs.SystemFile.{cycle_row, turnaround_row, window_row, nodes_row, slots_row, policy_row}
use Rattle.system_file.specs.SystemFile.{fill_of, fill_row, horizon_row, number_of, policy_of}
use Rattle.system_file.specs.SystemFile.{text_in, value_of}
use Rattle.system_file.specs.SystemFile.{in_element, is_integer, is_text, is_table, is_array}
use Rattle.system_file.specs.declared.system_fault.SystemFault.{SystemFault}
use Rattle.system_file.specs.declared.system_fault.SystemFault.TheVariants as wrong
use Rattle.system_file.specs.declared.system_sections.TomlKind.{TomlKind}
use Rattle.system_file.specs.declared.system_sections.TomlKind.TheVariants as kinds
use Rattle.system_file.specs.declared.system_sections.Place.{Place}
use Rattle.system_file.specs.declared.system_sections.Place.TheVariants as places

-- what stands in a path before a key of this place
abbrev pub prefix_of : Place → List ℕ
prefix_of places.Top = []
prefix_of places.Bus = codes "bus."
prefix_of places.Plan = codes "plan."
prefix_of (places.Element index) = in_element index

-- whether a value is of this kind
abbrev pub is_kind : TomlKind → Data → Bool
is_kind kinds.Integer = is_integer
is_kind kinds.Text = is_text
is_kind kinds.Table = is_table
is_kind kinds.Array = is_array

-- the members of a table, where there is one
abbrev pub members_at : Option (Bor (BTreeMap (String Global) Value)) → Members
members_at None = no_members
members_at (Some found) = table_view found.now

abbrev pub first_key : List (List ℕ) → Option (List ℕ)
first_key [] = None
first_key (key ∷ rest) = Some key

abbrev pub first_fault : List SystemFault → Option SystemFault
first_fault [] = None
first_fault (fault ∷ rest) = Some fault

-- the fault is the first of these, unless memory ran out
pub record IsFirstSystemFault (faults : List SystemFault) (fault : SystemFault) : Type 0 where
  pub first : (fault ≡ wrong.Memory → ⊥) → first_fault faults ≡ Some fault

-- the number that a value is, where it is from low to high
abbrev pub whole_in : ℕ → ℕ → Data → Option ℕ
whole_in low high (integer (pos number)) = if nat_le low number && nat_le number high then Some number else None
whole_in low high _ = None

abbrev pub id_of_owner : Owner → ℕ
id_of_owner owner = owner.id

-- the numbers of `bus` are those that the table sets, and they are in range
pub record IsBusOf (table : Members) (bus : BusNumbers) : Type 0 where
  pub cycle : bus.cycle ≡ number_of cycle_row table
  pub turnaround : bus.turnaround ≡ number_of turnaround_row table
  pub window : bus.window ≡ number_of window_row table
  pub nodes : bus.nodes ≡ number_of nodes_row table
  pub slots : bus.slots ≡ number_of slots_row table

pub record AreBusNumbers (bus : BusNumbers) : Type 0 where
  pub cycle : IsCycleLength bus.cycle
  pub turnaround : IsTurnaround bus.turnaround
  pub window : IsWindow bus.window
  pub some_nodes : 1 ≤ bus.nodes
  pub few_nodes : bus.nodes ≤ most_nodes
  pub slots : IsSlots bus.slots

-- the values of `plan` are those that the table sets
pub record IsPlanSet (table : Members) (plan : Plan) : Type 0 where
  pub policy : plan.policy ≡ policy_of (text_in (value_of policy_row table))
  pub horizon : plan.horizon ≡ number_of horizon_row table
  pub fill : plan.fill ≡ fill_of (text_in (value_of fill_row table))

-- the owner is one of so many nodes, and its identifier is an asynchronous one
pub record IsOwner (nodes : ℕ) (owner : Owner) : Type 0 where
  pub least : least_asynchronous ≤ owner.id
  pub greatest : owner.id ≤ greatest_identifier
  pub known_node : owner.node < nodes

abbrev pub HaveOtherIds : Owner → Owner → Type 0
HaveOtherIds one other = one.id ≢ other.id
