-- The entries that are near, and where a planner stands: words for contracts inside the crate.
use Rattle.std.specs.Prelude.{◌≡◌, ℕ, ◌-◌, ◌^◌, ◌<◌, ◌≤◌, nat_lt, if◌then◌else◌, Option, None, Some}
use Rattle.profile.specs.Limits.{cycles_end}
use Rattle.requirement_table.specs.Table.{instance_in, near_of, releases_in}
use Rattle.planner_policies.specs.Plan.{IsValid, Ranking}
use Rattle.release_wheel.specs.declared.near.Near.{Near}
use Rattle.release_wheel.specs.declared.wheel.Wheel.{Wheel}
use Rattle.release_wheel.specs.Wheel.{IsWheelKept}

-- two lists of entries have the same instances in a cycle, and are planned by the same policy with the same filling
pub record IsAlike (all some : Ranking) (c : ℕ) : Type 0 where
  pub policy : some.policy ≡ all.policy
  pub fill : some.fill ≡ all.fill
  pub instances : (slot : ℕ) → instance_in some.placed slot c ≡ instance_in all.placed slot c
  pub releases : (slot : ℕ) → releases_in some.placed c slot ≡ releases_in all.placed c slot

-- the cycle before which the entries begin whose rows the wheel has; the greatest number where it has those of all
abbrev pub until_of : Option Near → ℕ
until_of None = 2 ^ 64 - 1
until_of (Some near) = near.until

-- the entries whose rows the wheel has in a cycle
abbrev pub at_wheel : Option Near → Ranking → ℕ → Ranking
at_wheel None all c = all
at_wheel (Some near) all c = if nat_lt c near.until then near.ranked else all

-- the wheel is one of the entries that are near
pub record IsNear (all : Ranking) (near : Near) (w : Wheel) : Type 0 where
  pub since : near.since ≤ w.cycle
  pub entries : near.ranked ≡ record all { placed = near_of near.since near.until all.placed }
  pub kept : IsWheelKept near.ranked w

-- the wheel is one of all entries, or of those that are near until others begin
abbrev pub HasRows : Ranking → Option Near → Wheel → Type 0
HasRows all None w = IsWheelKept all w
HasRows all (Some near) w = w.cycle < near.until → IsNear all near w

-- no entries are taken as near
abbrev pub IsForgotten : Option Near → Type 0
IsForgotten near = (n : Near) → near ≡ Some n → n.until ≡ 0

-- where a planner stands
pub record IsStanding (all : Ranking) (near : Option Near) (w : Wheel) : Type 0 where
  pub end : w.cycle ≤ cycles_end
  pub valid : IsValid all.placed w.cycle w.dues.waiting.slots
  pub rows : HasRows all near w
