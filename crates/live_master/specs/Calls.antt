-- What a call of the shared master does to the pass that makes it.
use Rattle.std.specs.Prelude.{◌≡◌, ◌≢◌, ◌⊎◌, ℕ, ◌+◌, ◌*◌, ◌%◌, ◌≤◌, List, [], ◌∷◌, ◌++◌, length, None}
use mathlib.Core.List.{IsPrefix}
use Rattle.turn_lock.specs.Passes.{Known, knowing, refused}
use Rattle.requirement_table.specs.declared.entries.Order.{Order}
use Rattle.change_protocol.specs.declared.operations.Change.{Change}
use Rattle.admission_rules.specs.declared.Rules.{Rules}
use Rattle.admission.specs.declared.verdict.Verdict.{Verdict}
use Rattle.master_core.specs.declared.apart.Snapshot.{Snapshot}
use Rattle.master_core.specs.declared.event.Event.{Event}
use Rattle.master_core.specs.declared.event.Event.TheVariants.{Submit, Look, Open}
use Rattle.master_core.specs.Apart.{IsPlanOf, IsPlannable, PlannedView, from_of, snapshot_of}
use Rattle.master_core.specs.History.{next_of}
use Rattle.master_core.specs.Orders.{IsOrder}
use Rattle.live_master.specs.declared.fault.SettleFault.{SettleFault}
use Rattle.live_master.specs.declared.fault.SettleFault.TheVariants as fault
use Rattle.live_master.specs.declared.fault.TryFault.{TryFault}
use Rattle.live_master.specs.declared.fault.TryFault.TheVariants.{Busy, Memory}

-- another pass held the turn, and this word was found: twice the length of the history then, and one. So it is no less
-- than twice the length of what was seen, and one. The dispatcher finds the turn held only while an operator is out.
-- Nothing else changed
pub record IsTurnRefused (old new : Known Event Rules) (word : ℕ) : Type 0 where
  pub is : new ≡ knowing old (refused word old.view)
  pub odd : word % 2 ≡ 1
  pub least : 2 * length old.view.seen + 1 ≤ word
  pub others : old.view.number ≡ 0 → old.view.out ≢ 0

-- the turn was got, behind what was seen and these events, and let go with no event added. Nothing else changed
pub record GaveBack (old new : Known Event Rules) : Type 0 where
  pub between : List Event
  pub is : new ≡ knowing old (record old.view {
    found = None;
    seen = old.view.seen ++ between;
    taken = old.view.taken ++ (old.view.number, length (old.view.seen ++ between)) ∷ [];
  })

-- the call was answered: the turn was got, behind what was seen and these events, and let go with this event added.
-- Nothing else changed
pub record IsAnsweredInTurn (old new : Known Event Rules) (event : Event) : Type 0 where
  pub between : List Event
  pub is : new ≡ knowing old (record old.view {
    found = None;
    seen = (old.view.seen ++ between) ++ event ∷ [];
    mine = old.view.mine ++ event ∷ [];
    taken = old.view.taken ++ (old.view.number, length (old.view.seen ++ between)) ∷ [];
  })

-- a snapshot was taken: that of the history which the pass has seen then. Nothing else changed
pub record Snapped (rules : Rules) (old new : Known Event Rules) (snapshot : Snapshot) : Type 0 where
  pub gave_back : GaveBack old new
  pub is : snapshot ≡ snapshot_of rules new.view.seen
  pub plannable : IsPlannable snapshot

-- a change was planned from the snapshot at some place of this history
pub record IsPlannedIn (rules : Rules) (history : List Event) (change : Change) (planned : PlannedView) : Type 0 where
  pub front : List Event
  pub begins : IsPrefix front history
  pub plan : IsPlanOf (snapshot_of rules front) change planned

-- a change that was planned apart was answered by this verdict, from the cycle of its plan or from the next one, and
-- left some trail
pub record Settled (old new : Known Event Rules) (change : Change) (planned : PlannedView) (verdict : Verdict)
    : Type 0 where
  pub from : ℕ
  pub trail : List ℕ
  pub answered : IsAnsweredInTurn old new (Submit old.view.number change from verdict trail)
  pub planned_from : from ≡ from_of (old.view.seen ++ answered.between) planned

-- a look was answered
abbrev pub LookedAt : Known Event Rules → Known Event Rules → ℕ → Type 0
LookedAt old new next = IsAnsweredInTurn old new (Look old.view.number next)

-- a cycle was opened by this order, which is that of the history before the opening. No other cycle was opened in
-- between
pub record IsOpenedInTurn (rules : Rules) (old new : Known Event Rules) (order : Order) : Type 0 where
  pub answered : IsAnsweredInTurn old new (Open order.cycle order.mask)
  pub is_order : IsOrder rules (old.view.seen ++ answered.between) order
  pub alone : next_of answered.between ≡ 0

-- a call that tries once was not answered: another pass held the turn, or memory ran out once it was got
abbrev pub Faulted : Known Event Rules → Known Event Rules → TryFault → Type 0
Faulted old new (Busy word) = IsTurnRefused old new word
Faulted old new Memory = GaveBack old new

-- a change that was planned apart was not settled: another pass held the turn, and the plan was handed back, or memory
-- ran out once the turn was got
abbrev pub SettleFaulted : Known Event Rules → Known Event Rules → PlannedView → SettleFault → Type 0
SettleFaulted old new planned (fault.Busy word back) = IsTurnRefused old new word × (back ≡ planned)
SettleFaulted old new planned fault.Memory = GaveBack old new

-- one call after the other
pub record InTurn (first second : Known Event Rules → Known Event Rules → Type 0) (old new : Known Event Rules)
    : Type 0 where
  pub between : Known Event Rules
  pub earlier : first old between
  pub later : second between new

-- a change was answered by this verdict, in two turns: it was planned from the snapshot that was taken in the first
-- one, and settled in the second one. The turns are got in this way, at once or by waiting
pub record Submitted (turn : (Known Event Rules → Known Event Rules → Type 0) → Known Event Rules → Known Event Rules
    → Type 0) (rules : Rules) (old new : Known Event Rules) (change : Change) (verdict : Verdict) : Type 0 where
  pub between : Known Event Rules
  pub looked : turn GaveBack old between
  pub planned : PlannedView
  pub plan : IsPlanOf (snapshot_of rules between.view.seen) change planned
  pub settled : turn (λ one other. Settled one other change planned verdict) between new

-- the turn is got at once
abbrev pub AtOnce : (Known Event Rules → Known Event Rules → Type 0) → Known Event Rules → Known Event Rules → Type 0
AtOnce call = call

-- a change was not answered: the first turn was refused, or the second one; or memory ran out in the first turn, or
-- behind it, or in the second one
abbrev pub SubmitFaulted : Known Event Rules → Known Event Rules → TryFault → Type 0
SubmitFaulted old new (Busy word) =
    IsTurnRefused old new word ⊎ InTurn GaveBack (λ one other. IsTurnRefused one other word) old new
SubmitFaulted old new Memory = GaveBack old new ⊎ InTurn GaveBack GaveBack old new

-- the turn was refused so many times. Nothing else changed
pub record Waited (old new : Known Event Rules) : Type 0 where
  pub times : ℕ
  pub last : ℕ
  pub is : new ≡ knowing old (record old.view { refused = old.view.refused + times; last = last })
  pub never : times ≡ 0 → last ≡ old.view.last

-- the turn was refused so many times, and then the call was made in this way
pub record AfterWaiting (call : Known Event Rules → Known Event Rules → Type 0) (old new : Known Event Rules)
    : Type 0 where
  pub till : Known Event Rules
  pub waited : Waited old till
  pub made : call till new
