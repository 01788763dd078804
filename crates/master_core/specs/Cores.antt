-- *Cores*: what a master keeps whose memory does not grow. A core has no history. Whoever keeps one, or has one in mind,
-- knows by `IsStateOf` that the core is the state after it. Cycles are elementary cycles, counted from 0.
use Rattle.std.specs.Prelude.{◌≡◌, ℕ, ◌+◌, ◌^◌, ◌<◌, ◌≤◌, Bool, true, false, List, [], Option, Some, None, IfSome, All, is_some, length}
use Rattle.std.specs.Prelude.{if◌then◌else◌, option_map}
use Rattle.requirement_table.specs.declared.entries.Order.{Order}
use Rattle.requirement_table.specs.declared.entries.Placed.{Placed}
use Rattle.requirement_table.specs.Instance.{Instance}
use Rattle.bit_sets.specs.Sets.{has_bit, most_slots}
use Rattle.requirement_table.specs.Table.{instance_in, not_over, width_in}
use Rattle.change_protocol.specs.declared.operations.Change.{Change}
use Rattle.change_protocol.specs.Applied.{applied}
use Rattle.change_protocol.specs.Pruned.{pruned}
use Rattle.planner_policies.specs.declared.state.PlanState.{PlanState}
use Rattle.planner_policies.specs.Plan.{Planning, Ranking, mask_at, pending_at}
use Rattle.admission_rules.specs.declared.Rules.{Rules}
use Rattle.admission.specs.declared.verdict.Verdict.{Verdict}
use Rattle.admission.specs.Safe.{IsSafeWithin}
use Rattle.admission.specs.Verdict.{IsVerdict, is_accepted, plan_from, ranking_by, trail_of}
use Rattle.master_core.specs.declared.answered.Answered.{Answered}
use Rattle.master_core.specs.declared.event.Event.{Event}
use Rattle.master_core.specs.declared.saved.Saved.{Saved}
use Rattle.master_core.specs.declared.upcoming.Upcoming.{Upcoming}
use Rattle.master_core.specs.History.{IsLegal, accepted_of, is_changed, next_of, placed_of, plan_of}

-- what contracts see of a core: its rules, the placed entries that it keeps, the next cycle and the set of the slots that
-- are pending before it, the list that the nodes are to learn, the number of changes that were accepted, and whether its
-- `submit` forgets the entries that no answer needs any more
pub record CoreView : Type 0 where
  pub rules : Rules
  pub placed : List Placed
  pub cycle : ℕ
  pub pending : ℕ
  pub learned : Option (List Placed)
  pub accepted : ℕ
  pub forgets : Bool

-- the most entries that are kept by a core that forgets
abbrev pub most_kept : ℕ
most_kept = 4096

-- a core that was not called yet
abbrev pub new_core : Rules → Bool → CoreView
new_core rules forgets = record {
  rules = rules;
  placed = [];
  cycle = 0;
  pending = 0;
  learned = None;
  accepted = 0;
  forgets = forgets;
}

-- the planning that goes on from the next cycle
abbrev pub onward : CoreView → Planning
onward core = plan_from core.rules core.placed core.cycle core.pending

-- what is kept of a list that is planned from a cycle on
abbrev pub kept_by : Bool → ℕ → List Placed → List Placed
kept_by forgets from placed = if forgets then pruned from placed else placed

-- Answers

-- the answer to a change is what is decided of it, planned from the next cycle on
pub record IsAnswered (core : CoreView) (change : Change) (answered : Answered) : Type 0 where
  pub from : answered.from ≡ core.cycle
  pub verdict : IsVerdict core.rules core.placed core.pending core.cycle core.cycle change answered.verdict
  pub trail : answered.trail
      ≡ trail_of (plan_from core.rules (applied core.placed change) core.cycle core.pending) answered.verdict

-- the core after an answer to a change that was planned from the cycle `from` on, where its list is kept whole, or
-- pruned
abbrev pub answered_as : Bool → CoreView → ℕ → Change → Verdict → CoreView
answered_as prunes core from change verdict =
    if is_accepted verdict then record core {
      placed = kept_by prunes from (applied core.placed change);
      learned = Some (kept_by prunes from (applied core.placed change));
      accepted = core.accepted + 1;
    } else core

-- the same, pruned exactly where the core forgets
abbrev pub answered_by : CoreView → ℕ → Change → Verdict → CoreView
answered_by core from change verdict = answered_as core.forgets core from change verdict

-- Openings

-- the order of the next cycle
pub record IsCoreOrder (core : CoreView) (order : Order) : Type 0 where
  pub cycle : order.cycle ≡ core.cycle
  pub mask : order.mask ≡ mask_at (onward core) 0
  pub window : order.l ≡ width_in core.placed core.cycle (has_bit order.mask)
  pub learned : order.learned ≡ core.learned
  -- it can be run
  pub fits : order.l ≤ core.rules.window
  pub slots : order.mask < 2 ^ core.rules.slots
  pub present : (slot : ℕ) → slot < most_slots → has_bit order.mask slot ≡ true
      → (i : Instance) × (instance_in core.placed slot core.cycle ≡ Some i)

-- what is upcoming
pub record IsCoreUpcoming (core : CoreView) (upcoming : Upcoming) : Type 0 where
  pub order : IsCoreOrder core
      (record { cycle = core.cycle; mask = upcoming.mask; l = upcoming.l; learned = core.learned })
  pub next : upcoming.next.cycle ≡ core.cycle + 1
  pub pending : upcoming.next.pending ≡ pending_at (onward core) 1

-- the core after an opening
abbrev pub opened : CoreView → CoreView
opened core = record core {
  cycle = core.cycle + 1;
  pending = pending_at (onward core) 1;
  learned = None;
}

-- What holds of every core

-- the rules are in range, no deadline is missed at any later cycle, and the plan repeats within the horizon; the entries
-- have slots and nodes of the rules, as those of changes have that break no rule; and the nodes are to learn the list or
-- nothing
pub record IsCore (core : CoreView) : Type 0 where
  pub safe : IsSafeWithin core.rules core.placed core.cycle core.pending
  pub known : core.pending < 2 ^ most_slots
  pub slots : All (λ p. p.entry.slot < core.rules.slots) core.placed
  pub nodes : All (λ p. p.entry.node < core.rules.nodes) core.placed
  pub to_learn : IfSome core.learned (λ list. list ≡ core.placed)
  pub few : core.forgets ≡ true → length core.placed ≤ most_kept

-- the plan is made from the entries that were not over by the cycle `since`
pub record IsRanked (core : CoreView) (since : ℕ) (ranked : Ranking) : Type 0 where
  pub passed : since ≤ core.cycle
  pub left : ranked ≡ ranking_by core.rules (not_over since core.placed)

-- Cores as plain data

-- the next cycle, and the slots that are pending before it
abbrev pub state_of : CoreView → PlanState
state_of core = record { cycle = core.cycle; pending = core.pending }

-- what is saved of a core
abbrev pub saved_of : CoreView → Saved
saved_of core = record {
  rules = core.rules;
  placed = core.placed;
  state = state_of core;
  accepted = core.accepted;
  forgets = core.forgets;
  learns = is_some core.learned;
}

-- the core of which this is saved
abbrev pub core_of : Saved → CoreView
core_of saved = record {
  rules = saved.rules;
  placed = saved.placed;
  cycle = saved.state.cycle;
  pending = saved.state.pending;
  learned = if saved.learns then Some saved.placed else None;
  accepted = saved.accepted;
  forgets = saved.forgets;
}

-- the core with all placed entries in place of those that it keeps
abbrev pub with_all : CoreView → List Placed → CoreView
with_all core placed = record core {
  placed = placed;
  learned = if is_some core.learned then Some placed else None;
  forgets = false;
}

-- Histories

-- the list is the whole one, pruned by a cycle that is not above this one
pub record IsPrunedBefore (cycle : ℕ) (whole list : List Placed) : Type 0 where
  pub by : ℕ
  pub early : by ≤ cycle
  pub is : list ≡ pruned by whole

-- what a core keeps of the placed entries: all, or these pruned
abbrev pub IsHeld : Bool → ℕ → List Placed → List Placed → Type 0
IsHeld false cycle whole list = list ≡ whole
IsHeld true cycle whole list = IsPrunedBefore cycle whole list

-- the core is the state after this history, with all placed entries, or with these pruned
pub record IsStateAs (prunes : Bool) (history : List Event) (core : CoreView) : Type 0 where
  pub legal : IsLegal core.rules history
  pub held : IsHeld prunes core.cycle (placed_of history) core.placed
  pub next : core.cycle ≡ next_of history
  pub waiting : core.pending ≡ pending_at (plan_of core.rules (placed_of history)) core.cycle
  pub to_learn : core.learned ≡ (if is_changed history then Some core.placed else None)
  pub counted : core.accepted ≡ accepted_of history

-- *State of a core*: so it is, with all placed entries where the core forgets none
abbrev pub IsStateOf : List Event → CoreView → Type 0
IsStateOf history core = IsStateAs core.forgets history core

-- a core without entries that no later answer needs: its list, and that to be learned, are pruned by a cycle that is not
-- above the next one
pub record IsPruned (old new : CoreView) : Type 0 where
  pub by : ℕ
  pub early : by ≤ old.cycle
  pub is : new ≡ record old { placed = pruned by old.placed; learned = option_map (pruned by) old.learned }
