-- What a filling takes of rows in an order: words for contracts inside the crate.
--
-- In the order of a policy of entries rows go by their own numbers (`nat_le`), else by the last cycles of their instances.
use Rattle.std.specs.Prelude.{◌≡◌, ℕ, ◌+◌, ◌-◌, ◌<◌, ◌≤◌, Bool, true, false, ◌&&◌, ◌||◌, not, nat_eq, nat_le}
use Rattle.std.specs.Prelude.{if◌then◌else◌, List, [], ◌∷◌, get_or, length, sum_by}
use Rattle.std.specs.List.{list_any}
use Rattle.requirement_table.specs.declared.entries.Placed.{Placed}
use Rattle.bit_sets.specs.Sets.{has_bit}
use Rattle.planner_policies.specs.declared.Fill.{Fill}
use Rattle.planner_policies.specs.declared.due.Due.{Due}
use Rattle.planner_policies.specs.Due.{IsSetOf, is_due_by, taken_of}
use Rattle.planner_policies.specs.Plan.{by_number}
use Rattle.release_wheel.specs.declared.wheel.Wheel.{Wheel}
use Rattle.release_wheel.specs.Wheel.{cost_at, cost_below, slot_at}

-- rows go by a number that each has, and those of one number by their own
abbrev pub goes_by : (ℕ → ℕ) → ℕ → ℕ → Bool
goes_by number one other = by_number (number one) (number other) (nat_le one other)

-- the last cycle of the instance of a row that has something to send in the cycle of the wheel
abbrev pub last_of : Wheel → ℕ → ℕ
last_of w row = if has_bit w.dues.always.rows row then w.cycle else get_or w.rows.lasts.items row 0

-- a row of a set goes before all others of it
pub record IsFirstRow (goes : ℕ → ℕ → Bool) (test : ℕ → Bool) (row : ℕ) : Type 0 where
  pub stands : test row ≡ true
  pub first : (other : ℕ) → test other ≡ true → goes row other ≡ true

-- what is kept of the instances of rows, each of its own row; rows in their order are in key order
pub record AreOfRows (entries : List Placed) (goes : ℕ → ℕ → Bool) (dues : ℕ → Due) : Type 0 where
  pub slot : (row : ℕ) → (dues row).slot ≡ slot_at entries row
  pub cost : (row : ℕ) → (dues row).cost ≡ cost_at entries row
  pub ordered : (one other : ℕ) → one < length entries → other < length entries → goes one other ≡ true
      → is_due_by (dues one) (dues other) ≡ true

-- what is kept of the instances of the rows of a set, in key order: that of the first row, and then those of the others
abbrev pub IsLineOfRows : (ℕ → Due) → (ℕ → Bool) → List Due → Type 0
IsLineOfRows dues test [] = (row : ℕ) → test row ≡ false
IsLineOfRows dues test (due ∷ line) =
    (row : ℕ) × IsFirstRow (λ one other. is_due_by (dues one) (dues other)) test row × (due ≡ dues row)
    × IsLineOfRows dues (λ other. not (nat_eq row other) && test other) line

-- of each slot at most one row stands in the set
abbrev pub AreOfDistinctSlots : List Placed → ℕ → Type 0
AreOfDistinctSlots entries set = (one other : ℕ) → has_bit set one ≡ true → has_bit set other ≡ true
    → slot_at entries one ≡ slot_at entries other → one ≡ other

-- what a filling takes of the rows of a set in an order within a window, and what it leaves
pub record IsTook (fill : Fill) (window : ℕ) (goes : ℕ → ℕ → Bool) (entries : List Placed) (due left mask width : ℕ)
    : Type 0 where
  pub left_is : (row : ℕ) → has_bit left row ≡ (has_bit due row && not (has_bit mask (slot_at entries row)))
  pub mask_is : (dues : ℕ → Due) (line : List Due) → AreOfRows entries goes dues → IsLineOfRows dues (has_bit due) line
      → IsSetOf mask (taken_of fill window line)
  pub width_is : (dues : ℕ → Due) (line : List Due) → AreOfRows entries goes dues → IsLineOfRows dues (has_bit due) line
      → width ≡ sum_by (λ due. due.cost) (taken_of fill window line)
  pub fits : width ≤ window
  pub cost : cost_below entries (length entries) left + width ≡ cost_below entries (length entries) due

-- what a filling takes of a line so far: what it takes of the rest of the line within the rest of the window is missing
pub record IsTakenSoFar (fill : Fill) (window : ℕ) (line : List Due) (dues : ℕ → Due) (rest : ℕ → Bool) (mask width : ℕ)
    : Type 0 where
  pub back : List Due
  pub of_rest : IsLineOfRows dues rest back
  pub width_is : width + sum_by (λ due. due.cost) (taken_of fill (window - width) back)
      ≡ sum_by (λ due. due.cost) (taken_of fill window line)
  pub slots_are : (slot : ℕ)
      → (has_bit mask slot || list_any (λ due. nat_eq due.slot slot) (taken_of fill (window - width) back))
      ≡ list_any (λ due. nat_eq due.slot slot) (taken_of fill window line)

-- what a filling takes so far: the rows of `rest` are still to be looked at, and those of `left` were passed over
pub record IsTaking (fill : Fill) (window : ℕ) (goes : ℕ → ℕ → Bool) (entries : List Placed)
    (due rest left mask width : ℕ) : Type 0 where
  pub kept : (i : ℕ) → has_bit due i ≡ true
      → (has_bit rest i || has_bit left i) ≡ not (has_bit mask (slot_at entries i))
  pub rest_in : (i : ℕ) → has_bit rest i ≡ true → has_bit due i ≡ true
  pub left_in : (i : ℕ) → has_bit left i ≡ true → has_bit due i ≡ true
  pub apart : (i : ℕ) → has_bit rest i ≡ true → has_bit left i ≡ false
  pub fits : width ≤ window
  pub cost : cost_below entries (length entries) rest + cost_below entries (length entries) left + width
      ≡ cost_below entries (length entries) due
  pub taken : (dues : ℕ → Due) (line : List Due) → AreOfRows entries goes dues → IsLineOfRows dues (has_bit due) line
      → IsTakenSoFar fill window line dues (has_bit rest) mask width

-- rows with something to send in the cycle of the wheel, none of which is over
pub record AreDue (w : Wheel) (due : ℕ) : Type 0 where
  pub known : (row : ℕ) → has_bit due row ≡ true → (has_bit w.dues.waiting.rows row || has_bit w.dues.always.rows row) ≡ true
  pub in_time : (row : ℕ) → has_bit w.dues.waiting.rows row ≡ true → w.cycle ≤ get_or w.rows.lasts.items row 0
  pub apart : (row : ℕ) → has_bit w.dues.waiting.rows row ≡ true → has_bit w.dues.always.rows row ≡ false
  pub soonest_is : (row : ℕ) → has_bit w.dues.waiting.rows row ≡ true → w.dues.soonest ≤ get_or w.rows.lasts.items row 0

-- of the rows of a set that are not in `rest` this one goes first by its last cycle, and none of `rest` is before it
pub record IsSoonest (lasts : List ℕ) (rows rest row last : ℕ) : Type 0 where
  pub stands : has_bit rows row ≡ true
  pub last_is : last ≡ get_or lasts row 0
  pub rest_in : (i : ℕ) → has_bit rest i ≡ true → has_bit rows i ≡ true
  pub before : (i : ℕ) → has_bit rest i ≡ true → row ≤ i
  pub first : (i : ℕ) → has_bit rows i ≡ true → has_bit rest i ≡ false → by_number last (get_or lasts i 0) (nat_le row i) ≡ true
