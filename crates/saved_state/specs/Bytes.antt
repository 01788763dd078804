-- The bytes of a saved state.
use Rattle.std.specs.Prelude.{◌≡◌, ℕ, ◌/◌, ◌%◌, ◌^◌, ◌<◌, Bool, true, false, List, [], ◌∷◌, ◌++◌, Option, Some, None, IfSome, All}
use Rattle.std.specs.List.{flat_map}
use Rattle.std.specs.Int.{to_le_bytes, w64}
use Rattle.requirement_table.specs.declared.entries.Placed.{Placed}
use Rattle.planner_policies.specs.declared.Policy.{Policy}
use Rattle.planner_policies.specs.declared.Policy.TheVariants.{Rm, Dm, Edf}
use Rattle.planner_policies.specs.declared.Fill.{Fill}
use Rattle.planner_policies.specs.declared.Fill.TheVariants.{Prefix, Skip}
use Rattle.planner_policies.specs.declared.state.PlanState.{PlanState}
use Rattle.admission_rules.specs.declared.Rules.{Rules}
use Rattle.master_core.specs.declared.saved.Saved.{Saved}
use Rattle.saved_state.specs.Checksum.{checksum}

abbrev pub policy_number : Policy → ℕ
policy_number Rm = 0
policy_number Dm = 1
policy_number Edf = 2

abbrev pub fill_number : Fill → ℕ
fill_number Prefix = 0
fill_number Skip = 1

abbrev pub bool_number : Bool → ℕ
bool_number false = 0
bool_number true = 1

-- whether there is an end
abbrev pub has_number : Option ℕ → ℕ
has_number None = 0
has_number (Some end) = 1

-- the end, or 0
abbrev pub end_number : Option ℕ → ℕ
end_number None = 0
end_number (Some end) = end

-- the ten numbers of a placed entry
abbrev pub placed_numbers : Placed → List ℕ
placed_numbers p =
    p.entry.slot ∷ p.entry.node ∷ p.entry.length ∷ p.entry.phase ∷ p.entry.period ∷ p.entry.deadline ∷ p.entry.priority
    ∷ p.origin ∷ has_number p.end ∷ end_number p.end ∷ []

-- those of a list, one behind the other
abbrev pub list_numbers : List Placed → List ℕ
list_numbers placed = flat_map placed_numbers placed

-- the version of the form
abbrev pub form : ℕ
form = 1

-- the numbers of a state without its list
abbrev pub head_numbers : Rules → PlanState → ℕ → Bool → Bool → List ℕ
head_numbers rules state accepted forgets learns =
    form ∷ rules.nodes ∷ rules.slots ∷ policy_number rules.policy ∷ fill_number rules.fill ∷ rules.window ∷ rules.horizon
    ∷ state.cycle ∷ state.pending % 2 ^ 64 ∷ state.pending / 2 ^ 64
    ∷ accepted ∷ bool_number forgets ∷ bool_number learns ∷ []

-- the numbers of a state, in their order
abbrev pub numbers_of : Saved → List ℕ
numbers_of saved =
    head_numbers saved.rules saved.state saved.accepted saved.forgets saved.learns ++ list_numbers saved.placed

-- numbers below 2^64 as bytes: eight each, the least significant one first
abbrev pub bytes_of_numbers : List ℕ → List ℕ
bytes_of_numbers numbers = flat_map (to_le_bytes w64) numbers

-- the bytes of a state: the checksum of all others as a number, and the numbers
unfoldable pub bytes_of : Saved → List ℕ
bytes_of saved = to_le_bytes w64 (checksum (bytes_of_numbers (numbers_of saved))) ++ bytes_of_numbers (numbers_of saved)

-- the numbers of a placed entry are in the ranges of their types
pub record IsTypedPlaced (p : Placed) : Type 0 where
  pub slot : p.entry.slot < 2 ^ 8
  pub node : p.entry.node < 2 ^ 8
  pub len : p.entry.length < 2 ^ 8
  pub phase : p.entry.phase < 2 ^ 16
  pub period : p.entry.period < 2 ^ 16
  pub deadline : p.entry.deadline < 2 ^ 16
  pub priority : p.entry.priority < 2 ^ 8
  pub origin : p.origin < 2 ^ 64
  pub end : IfSome p.end (λ end. end < 2 ^ 64)

-- so are those of a state without its list
pub record IsTypedHead (rules : Rules) (state : PlanState) (accepted : ℕ) : Type 0 where
  pub nodes : rules.nodes < 2 ^ 8
  pub slots : rules.slots < 2 ^ 8
  pub window : rules.window < 2 ^ 32
  pub horizon : rules.horizon < 2 ^ 64
  pub cycle : state.cycle < 2 ^ 64
  pub pending : state.pending < 2 ^ 96
  pub changes : accepted < 2 ^ 64

-- and those of a state
pub record IsTypedSaved (saved : Saved) : Type 0 where
  pub head : IsTypedHead saved.rules saved.state saved.accepted
  pub placed : All IsTypedPlaced saved.placed

-- *Bytes of a state*
pub record AreBytesOf (saved : Saved) (bytes : List ℕ) : Type 0 where
  pub typed : IsTypedSaved saved
  pub are : bytes ≡ bytes_of saved
