-- A wheel of coming releases, and what waits beside it: words for contracts inside the crate.
--
-- A row is a placed entry, by its place in the order of the policy. Sets of rows are numbers: row i is bit i.
use Rattle.std.specs.Prelude.{◌≡◌, ℕ, zero, suc, ◌+◌, ◌-◌, ◌%◌, ◌<◌, ◌≤◌, Bool, true, false, ◌&&◌, ◌||◌}
use Rattle.std.specs.Prelude.{nat_eq, sum_by}
use Rattle.std.specs.Prelude.{if◌then◌else◌, List, IsPermutation, None, Some, get_or, length, min, not, set}
use Rattle.std.specs.Vec.{vec_capacity}
use Rattle.profile.specs.Limits.{cycles_end}
use Rattle.requirement_table.specs.declared.entries.Placed.{Placed}
use Rattle.requirement_table.specs.Instance.{Exists, MaySend, deadline_of, exists, release_of, worst}
use Rattle.bit_sets.specs.Sets.{has_bit, sum_where}
use Rattle.requirement_table.specs.Table.{IsInRange, IsWellPlaced}
use Rattle.planner_policies.specs.declared.Policy.{Policy}
use Rattle.planner_policies.specs.declared.due.Due.{Due}
use Rattle.release_wheel.specs.declared.dues.Dues.{Dues}
use Rattle.release_wheel.specs.declared.dues.Sum.{Sum}
use Rattle.release_wheel.specs.declared.rows.Rows.{Rows}
use Rattle.release_wheel.specs.declared.wheel.Wheel.{Wheel}
use Rattle.planner_policies.specs.Due.{IsDueOf, IsPlanned, IsSetOf, IsWholeLine, is_held_in, key_with, taken_of}
use Rattle.planner_policies.specs.Ranked.{AreRanked}
use Rattle.planner_policies.specs.Plan.{IsValid, Planning, Ranking, planning_of}

-- whether a row below `n` passes the test
unfoldable pub any_below : ℕ → (ℕ → Bool) → Bool
any_below zero test = false
any_below (suc n) test = any_below n test || test n

-- what stands where there is no row
abbrev pub no_entry : Placed
no_entry = record {
  entry = record { slot = 0; node = 0; length = 0; phase = 0; period = 0; deadline = 0; priority = 0 };
  origin = 0;
  end = None;
}

abbrev pub slot_at : List Placed → ℕ → ℕ
slot_at entries row = (get_or entries row no_entry).entry.slot

-- what an instance of the row costs, in bit times
abbrev pub cost_at : List Placed → ℕ → ℕ
cost_at entries row = worst (get_or entries row no_entry).entry.length

-- what the rows below `n` of the set cost together
abbrev pub cost_below : List Placed → ℕ → ℕ → ℕ
cost_below entries n set = sum_where n (has_bit set) (cost_at entries)

-- no row of the set stands from `n` on
abbrev pub IsBelow : ℕ → ℕ → Type 0
IsBelow n set = (row : ℕ) → has_bit set row ≡ true → row < n

-- these are the slots of the rows below `n` of the set
abbrev pub IsSlotsOf : List Placed → ℕ → ℕ → ℕ → Type 0
IsSlotsOf entries n set mask = (slot : ℕ)
    → has_bit mask slot ≡ any_below n (λ row. has_bit set row && nat_eq (slot_at entries row) slot)

-- a sum is one of rows below `n`: it has their slots, and what they cost together
pub record IsSumOf (entries : List Placed) (n : ℕ) (sum : Sum) : Type 0 where
  pub below : IsBelow n sum.rows
  pub slots : IsSlotsOf entries n sum.rows sum.slots
  pub cost : sum.cost ≡ cost_below entries n sum.rows

-- the row of an entry is added to a sum, where that is wanted
pub record IsAdded (p : Placed) (row : ℕ) (wanted : Bool) (old new : Sum) : Type 0 where
  pub rows : (other : ℕ) → has_bit new.rows other ≡ ((wanted && nat_eq row other) || has_bit old.rows other)
  pub slots : (slot : ℕ) → has_bit new.slots slot
      ≡ ((wanted && nat_eq slot p.entry.slot) || has_bit old.slots slot)
  pub cost : new.cost ≡ old.cost + (if wanted then worst p.entry.length else 0)

-- what is kept of the instance of a row, by its last cycle
abbrev pub due_of_row : Policy → Placed → ℕ → Due
due_of_row policy p last = record {
  key = key_with policy p (last + 1);
  priority = p.entry.priority;
  slot = p.entry.slot;
  cost = worst p.entry.length;
  release = last + 1 - p.entry.deadline;
  last = last;
}

-- the least release at or after a cycle. Where it is not below the entry's end, it may be one before that cycle
pub record IsNextRelease (p : Placed) (c next : ℕ) : Type 0 where
  pub number : ℕ
  pub is : next ≡ release_of p number
  pub reached : Exists p next → c ≤ next
  pub least : (k : ℕ) → c ≤ release_of p k → next ≤ release_of p k

-- from its first release on, which is past, the entry has an instance in each cycle
pub record IsAlways (p : Placed) (c : ℕ) : Type 0 where
  pub period : p.entry.period ≡ 1
  pub live : p.end ≡ None
  pub since : release_of p 0 ≤ c

-- where a row stands before the releases of cycle `c`: it has an instance in each cycle, or its next release is known,
-- and where that comes the row stands at its place of the wheel
pub record IsPlacedAt (c : ℕ) (p : Placed) (always : Bool) (next : ℕ) (found : Bool) : Type 0 where
  pub next_is : always ≡ false → IsNextRelease p c next
  pub on : always ≡ false → Exists p next → found ≡ true
  pub always_is : always ≡ true → IsAlways p c

-- whether a row waits before cycle `c`: its instance was released before, and is not planned yet
pub record IsWaitingAt (before : ℕ → Bool) (c : ℕ) (p : Placed) (waits : Bool) (last soonest : ℕ) : Type 0 where
  pub waits_is : waits ≡ (before p.entry.slot && is_held_in c p)
  pub last_is : waits ≡ true → (k : ℕ) → MaySend p k c → last + 1 ≡ deadline_of p k
  pub soonest_is : waits ≡ true → soonest ≤ last

-- what a row has to send in cycle `c`, when its releases are made
pub record IsDueAt (before : ℕ → Bool) (c : ℕ) (p : Placed) (waits always : Bool) (last soonest : ℕ) : Type 0 where
  pub due : (policy : Policy) → IsDueOf policy before c p
      (if waits || always then Some (due_of_row policy p (if always then c else last)) else None)
  pub apart : waits ≡ true → always ≡ false
  pub soonest_is : waits ≡ true → soonest ≤ last

-- a row that stands at a place of the wheel: its next release comes there, and it has no instance in each cycle yet
pub record IsOnWheel (n row place next : ℕ) (p : Placed) (always : Bool) : Type 0 where
  pub within : row < n
  pub at : next % 64 ≡ place
  pub coming : Exists p next
  pub off : always ≡ false

-- the rows and the places have their sizes, and sets of rows have none but the first `n`
pub record HasRoom (n : ℕ) (rows : Rows) (dues : Dues) : Type 0 where
  pub within : n ≤ length rows.entries.items
  pub few : length rows.entries.items ≤ 128
  pub nexts : length rows.nexts.items ≡ length rows.entries.items
  pub lasts : length rows.lasts.items ≡ length rows.entries.items
  pub places : length rows.places.items ≡ 64
  pub in_range : (row : ℕ) → row < n → IsInRange (get_or rows.entries.items row no_entry)
  pub waiting : IsSumOf rows.entries.items n dues.waiting
  pub always : IsSumOf rows.entries.items n dues.always
  pub on_wheel : (place row : ℕ) → place < 64 → has_bit (get_or rows.places.items place 0) row ≡ true
      → IsOnWheel n row place (get_or rows.nexts.items row 0) (get_or rows.entries.items row no_entry)
      (has_bit dues.always.rows row)

-- a row is this one, at this place
abbrev pub is_there : ℕ → ℕ → ℕ → ℕ → Bool
is_there place row k other = nat_eq place k && nat_eq row other

-- a row that is released in cycle `c` stands where its next release comes, and has the last cycle of its instance
pub record IsMovedOn (p : Placed) (row c last : ℕ) (old new : Rows) : Type 0 where
  pub entries : new.entries.items ≡ old.entries.items
  pub nexts : new.nexts.items ≡ set old.nexts.items row (c + p.entry.period)
  pub lasts : new.lasts.items ≡ set old.lasts.items row last
  pub size : length new.places.items ≡ length old.places.items
  pub places : (k other : ℕ) → k < 64 → has_bit (get_or new.places.items k 0) other
      ≡ ((has_bit (get_or old.places.items k 0) other && not (is_there (c % 64) row k other))
      || (exists p (c + p.entry.period) && is_there ((c + p.entry.period) % 64) row k other))

-- a row has its first release, and from then on an instance in each cycle
pub record IsRowBegun (p : Placed) (row c : ℕ) (old new : Rows) (dues more : Dues) : Type 0 where
  pub rows : new ≡ record old { places = new.places }
  pub size : length new.places.items ≡ length old.places.items
  pub places : (k other : ℕ) → k < 64 → has_bit (get_or new.places.items k 0) other
      ≡ (has_bit (get_or old.places.items k 0) other && not (is_there (c % 64) row k other))
  pub others : more ≡ record dues { always = more.always }
  pub added : IsAdded p row true dues.always more.always

-- a row is released: its instance waits, and the row stands where its next release comes
pub record IsRowReleased (p : Placed) (row c : ℕ) (old new : Rows) (dues more : Dues) : Type 0 where
  pub moved : IsMovedOn p row c (c + p.entry.deadline - 1) old new
  pub others : more ≡ record dues { waiting = more.waiting; soonest = min dues.soonest (c + p.entry.deadline - 1) }
  pub added : IsAdded p row true dues.waiting more.waiting

-- a row is filled in, and where its next release is waited for it stands at the place of that
pub record IsPutDown (p : Placed) (row next last : ℕ) (comes : Bool) (old new : Rows) : Type 0 where
  pub entries : new.entries.items ≡ set old.entries.items row p
  pub nexts : new.nexts.items ≡ set old.nexts.items row next
  pub lasts : new.lasts.items ≡ set old.lasts.items row last
  pub size : length new.places.items ≡ length old.places.items
  pub places : (k other : ℕ) → k < 64 → has_bit (get_or new.places.items k 0) other
      ≡ (has_bit (get_or old.places.items k 0) other || (comes && is_there (next % 64) row k other))

-- a row is filled in at cycle `c`, before which these slots are pending: where it stands, and whether it waits
pub record IsRowSet (p : Placed) (row c pending : ℕ) (old new : Rows) (dues more : Dues) : Type 0 where
  pub begun : Bool
  pub waits : Bool
  pub next : ℕ
  pub last : ℕ
  pub next_is : IsNextRelease p c next
  pub begun_is : begun ≡ true → IsAlways p c
  pub waits_is : waits ≡ (has_bit pending p.entry.slot && is_held_in c p)
  pub last_is : waits ≡ true → (k : ℕ) → MaySend p k c → last + 1 ≡ deadline_of p k
  pub down : IsPutDown p row next last (not begun && exists p next) old new
  pub waiting : IsAdded p row waits dues.waiting more.waiting
  pub always : IsAdded p row begun dues.always more.always
  pub soonest : more.soonest ≡ min dues.soonest last

-- all rows but one are as they were
pub record IsSameBut (row : ℕ) (old new : Rows) (dues more : Dues) : Type 0 where
  pub entry : (i : ℕ) → nat_eq row i ≡ false → get_or new.entries.items i no_entry ≡ get_or old.entries.items i no_entry
  pub next : (i : ℕ) → nat_eq row i ≡ false → get_or new.nexts.items i 0 ≡ get_or old.nexts.items i 0
  pub last : (i : ℕ) → nat_eq row i ≡ false → get_or new.lasts.items i 0 ≡ get_or old.lasts.items i 0
  pub place : (k i : ℕ) → k < 64 → nat_eq row i ≡ false
      → has_bit (get_or new.places.items k 0) i ≡ has_bit (get_or old.places.items k 0) i
  pub waiting : (i : ℕ) → nat_eq row i ≡ false → has_bit more.waiting.rows i ≡ has_bit dues.waiting.rows i
  pub always : (i : ℕ) → nat_eq row i ≡ false → has_bit more.always.rows i ≡ has_bit dues.always.rows i
  pub sooner : more.soonest ≤ dues.soonest

-- the place of the wheel for a cycle has the row
abbrev pub is_found : Rows → ℕ → ℕ → Bool
is_found rows cycle row = has_bit (get_or rows.places.items (cycle % 64) 0) row

abbrev pub RowStandsAt : Rows → Dues → ℕ → ℕ → Type 0
RowStandsAt rows dues c row =
    IsPlacedAt c (get_or rows.entries.items row no_entry) (has_bit dues.always.rows row) (get_or rows.nexts.items row 0)
    (is_found rows (get_or rows.nexts.items row 0) row)

-- a row before the releases of a cycle
abbrev pub TurnedAt : Rows → Dues → (ℕ → Bool) → ℕ → ℕ → Type 0
TurnedAt rows dues before c row =
    RowStandsAt rows dues c row
    × IsWaitingAt before c (get_or rows.entries.items row no_entry) (has_bit dues.waiting.rows row)
    (get_or rows.lasts.items row 0) dues.soonest

-- a row behind them
abbrev pub ReleasedAt : Rows → Dues → (ℕ → Bool) → ℕ → ℕ → Type 0
ReleasedAt rows dues before c row =
    RowStandsAt rows dues (c + 1) row
    × IsDueAt before c (get_or rows.entries.items row no_entry) (has_bit dues.waiting.rows row)
    (has_bit dues.always.rows row) (get_or rows.lasts.items row 0) dues.soonest

-- nothing is released before the cycle `quiet`, and nothing waits
pub record IsQuiet (w : Wheel) : Type 0 where
  pub none_waiting : w.dues.waiting.rows ≡ 0
  pub none_always : w.dues.always.rows ≡ 0
  pub none_coming : (row : ℕ) → row < length w.rows.entries.items
      → Exists (get_or w.rows.entries.items row no_entry) (get_or w.rows.nexts.items row 0)
      → w.quiet ≤ get_or w.rows.nexts.items row 0

-- a wheel before the releases of its cycle
pub record IsTurned (w : Wheel) : Type 0 where
  pub room : HasRoom (length w.rows.entries.items) w.rows w.dues
  pub each : (row : ℕ) → row < length w.rows.entries.items
      → TurnedAt w.rows w.dues (has_bit w.dues.waiting.slots) w.cycle row
  pub quiet_is : w.cycle < w.quiet → IsQuiet w

-- while the releases of a cycle are made, before which these slots were pending: the rows of the set `rest` are still to
-- be looked at
pub record IsReleasing (before : ℕ → Bool) (c rest : ℕ) (rows : Rows) (dues : Dues) : Type 0 where
  pub room : HasRoom (length rows.entries.items) rows dues
  pub place : (row : ℕ) → has_bit rest row ≡ true → is_found rows c row ≡ true
  pub later : (row : ℕ) → row < length rows.entries.items → has_bit rest row ≡ true → TurnedAt rows dues before c row
  pub made : (row : ℕ) → row < length rows.entries.items → has_bit rest row ≡ false
      → ReleasedAt rows dues before c row

-- a wheel when the releases of its cycle are made
pub record IsReleased (before : ℕ → Bool) (w : Wheel) : Type 0 where
  pub room : HasRoom (length w.rows.entries.items) w.rows w.dues
  pub each : (row : ℕ) → row < length w.rows.entries.items → ReleasedAt w.rows w.dues before w.cycle row

-- what the filling of a planning takes of the rows that have something to send, in key order, and what it leaves
pub record IsPart (plan : Planning) (before : ℕ → Bool) (w : Wheel) (left mask width : ℕ) : Type 0 where
  pub line : List Due
  pub whole : IsWholeLine plan w.cycle before line
  pub due : ℕ
  pub due_is : (row : ℕ) → has_bit due row ≡ (has_bit w.dues.waiting.rows row || has_bit w.dues.always.rows row)
  pub left_is : (row : ℕ)
      → has_bit left row ≡ (has_bit due row && not (has_bit mask (slot_at w.rows.entries.items row)))
  pub mask_is : IsSetOf mask (taken_of plan.fill plan.window line)
  pub width_is : width ≡ sum_by (λ due. due.cost) (taken_of plan.fill plan.window line)
  pub fits : width ≤ plan.window
  pub cost : cost_below w.rows.entries.items (length w.rows.entries.items) left + width ≡ w.dues.waiting.cost + w.dues.always.cost

-- the rows are the entries of a ranking, in its order
pub record IsOfRanking (ranking : Ranking) (w : Wheel) : Type 0 where
  pub policy : w.policy ≡ ranking.policy
  pub same : IsPermutation ranking.placed w.rows.entries.items
  pub order : AreRanked ranking.policy w.rows.entries.items

-- a wheel of the entries of a ranking, before the releases of its cycle
pub record IsTurnedFor (ranking : Ranking) (w : Wheel) : Type 0 where
  pub turned : IsTurned w
  pub of_ranking : IsOfRanking ranking w

-- what a releasing and a planning leave as it is: the entries, the policy, and that the rows are kept
pub record IsSameTable (old new : Wheel) : Type 0 where
  pub entries : new.rows.entries.items ≡ old.rows.entries.items
  pub others : new ≡ record old { quiet = new.quiet; cycle = new.cycle; rows = new.rows; dues = new.dues }

-- the releases of a cycle are made, before which these slots were pending in a planning
pub record IsWheelReady (ranking : Ranking) (pending : ℕ) (w : Wheel) : Type 0 where
  pub released : IsReleased (has_bit pending) w
  pub of_ranking : IsOfRanking ranking w
  pub well : IsWellPlaced ranking.placed
  pub valid : IsValid ranking.placed w.cycle pending

-- the cycle of a wheel is planned, and the wheel stands before the releases of the next one
pub record IsPlannedOn (ranking : Ranking) (window pending : ℕ) (old new : Wheel) (mask width : ℕ) : Type 0 where
  pub planned : IsPlanned (planning_of ranking window old.cycle pending) old.cycle (has_bit pending) mask width
      new.dues.waiting.slots
  pub next : new.cycle ≡ old.cycle + 1
  pub turned : IsTurned new
  pub table : IsSameTable old new

-- the rows that are left are not in their last cycle, and none of them is before `soonest`
pub record AreInTime (w : Wheel) (left soonest : ℕ) : Type 0 where
  pub not_always : (row : ℕ) → has_bit left row ≡ true → has_bit w.dues.always.rows row ≡ false
  pub later : (row : ℕ) → has_bit left row ≡ true → w.cycle < get_or w.rows.lasts.items row 0
  pub soonest_is : (row : ℕ) → has_bit left row ≡ true → soonest ≤ get_or w.rows.lasts.items row 0

-- rows have room for so many
pub record HasRoomFor (count : ℕ) (rows : Rows) : Type 0 where
  pub few : count ≤ 128
  pub entries : count ≤ vec_capacity rows.entries
  pub nexts : count ≤ vec_capacity rows.nexts
  pub lasts : count ≤ vec_capacity rows.lasts
  pub places : length rows.places.items ≡ 64

-- the first `n` rows are filled in, at a cycle before which these slots are pending
pub record IsFilledTo (entries : List Placed) (n c pending : ℕ) (rows : Rows) (dues : Dues) : Type 0 where
  pub room : HasRoom n rows dues
  pub size : length rows.entries.items ≡ length entries
  pub same : (row : ℕ) → row < n → get_or rows.entries.items row no_entry ≡ get_or entries row no_entry
  pub each : (row : ℕ) → row < n → TurnedAt rows dues (has_bit pending) c row

-- the entries of a ranking are filled in, in its order, at a cycle before which these slots are pending
pub record AreFilled (ranking : Ranking) (c pending : ℕ) (rows : Rows) (dues : Dues) : Type 0 where
  pub room : HasRoom (length rows.entries.items) rows dues
  pub each : (row : ℕ) → row < length rows.entries.items → TurnedAt rows dues (has_bit pending) c row
  pub slots : dues.waiting.slots ≡ pending
  pub same : IsPermutation ranking.placed rows.entries.items
  pub order : AreRanked ranking.policy rows.entries.items

-- where a planner stands
pub record IsWheelKept (ranking : Ranking) (w : Wheel) : Type 0 where
  pub near : w.cycle ≤ cycles_end
  pub valid : IsValid ranking.placed w.cycle w.dues.waiting.slots
  pub plain : w.turns ≡ false → w.quiet ≡ 0
  pub turned : w.turns ≡ true → IsTurnedFor ranking w
