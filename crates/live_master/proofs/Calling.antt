-- What a call does to a pass, from the steps that it makes on the turn.
use Rattle.std.proofs.Common.{◌≡◌, ◌⊎◌, inr, ℕ, ◌+◌, ◌≤◌, ◌++◌, ◌∷◌, [], List, None, length, drop, add_assoc, arith, refl, sym, ap, ◌∙◌, subst}
use mathlib.Core.List.{IsPrefix}
use Rattle.std.proofs.lemmas.List.{append-nil}
use Rattle.turn_lock.specs.History.{own}
use Rattle.turn_lock.specs.Passes.{Facts, Known, knowing, granted, committed, refused}
use Rattle.turn_lock.proofs.Shared.{prefix_trans}
use Rattle.requirement_table.specs.declared.entries.Order.{Order}
use Rattle.requirement_table.specs.declared.entries.Placed.{Placed}
use Rattle.change_protocol.specs.declared.operations.Change.{Change}
use Rattle.admission.specs.declared.verdict.Verdict.{Verdict}
use Rattle.admission_rules.specs.declared.Rules.{Rules}
use Rattle.master_core.specs.declared.apart.Snapshot.{Snapshot}
use Rattle.master_core.specs.declared.event.Event.{Event}
use Rattle.master_core.specs.declared.event.Event.TheVariants.{Submit, Open}
use Rattle.master_core.specs.Apart.{CanSettle, IsPlanOf, PlannedView, from_of, snapshot_of}
use Rattle.master_core.specs.CorePlans.{CorePlannedView}
use Rattle.master_core.specs.History.{next_of, placed_of}
use Rattle.master_core.specs.Kept.{kept_from, kept_of}
use Rattle.master_core.specs.Orders.{IsOrder, IsOrderFor, StandsFor, learned_as}
use Rattle.live_master.specs.Callers.{number_of}
use Rattle.live_master.specs.Calls.{AfterWaiting, AtOnce, GaveBack, InTurn, IsAnsweredInTurn, IsOpenedInTurn, IsPlannedIn, IsTurnRefused, Settled, Snapped, Submitted, Waited}
use Rattle.live_master.specs.Kept.{KeptSettled}
use Rattle.live_master.specs.Within.{IsOpenedWithin}
use Rattle.live_master.proofs.Openings.{none_between}
use Rattle.live_master.proofs.Rooms.{few-learned}

drop_found : (found : List Event) (event : Event) → drop (length found) (found ++ event ∷ []) ≡ event ∷ []
drop_found [] event = refl
drop_found (e ∷ es) event = drop_found es event

-- the pass got the turn where this list was found, and let it go with one event more
pub answered : (old new : Known Event Rules) (event : Event) (between : List Event)
    → new ≡ knowing old (committed ((old.view.seen ++ between) ++ event ∷ []) (granted (old.view.seen ++ between) old.view))
    → IsAnsweredInTurn old new event
answered old new event between is = record {
  between = between;
  is = is ∙ ap (λ (l : List Event). knowing old (record old.view {
    found = None;
    seen = (old.view.seen ++ between) ++ event ∷ [];
    mine = old.view.mine ++ l;
    taken = old.view.taken ++ (old.view.number, length (old.view.seen ++ between)) ∷ [];
  })) (drop_found (old.view.seen ++ between) event);
}

opened_at : (rules : Rules) (old new : Known Event Rules) (order : Order) (between : List Event)
    → new ≡ knowing old (committed ((old.view.seen ++ between) ++ Open order.cycle order.mask ∷ []) (granted (old.view.seen ++ between) old.view))
    → IsOrder rules (old.view.seen ++ between) order
    → old.view.number ≡ 0 → Facts number_of old.view → own number_of old.view.number (old.view.seen ++ between) ≡ old.view.mine
    → IsOpenedInTurn rules old new order
unfolding answered
opened_at rules old new order between is ordered zeroth facts owned = record {
  answered = answered old new (Open order.cycle order.mask) between is;
  is_order = ordered;
  alone =
      let at : own number_of 0 old.view.seen ≡ old.view.mine = ap (λ n. own number_of n old.view.seen) (sym zeroth) ∙ facts.own_are in
      let after : own number_of 0 (old.view.seen ++ between) ≡ old.view.mine = ap (λ n. own number_of n (old.view.seen ++ between)) (sym zeroth) ∙ owned in
      none_between old.view.seen between old.view.mine at after;
}

-- the dispatcher's pass got the turn where this list was found, and let it go with an opening more
pub opened : (rules : Rules) (old new : Known Event Rules) (order : Order) (found : List Event) → IsPrefix old.view.seen found
    → new ≡ knowing old (committed (found ++ Open order.cycle order.mask ∷ []) (granted found old.view))
    → IsOrder rules found order
    → old.view.number ≡ 0 → Facts number_of old.view → own number_of old.view.number found ≡ old.view.mine
    → IsOpenedInTurn rules old new order
opened rules old new order found begins is ordered zeroth facts owned =
    let split = begins.1 in
    opened_at rules old new order begins.0
    (is ∙ ap (λ (l : List Event). knowing old (committed (l ++ Open order.cycle order.mask ∷ []) (granted l old.view))) (sym split))
    (subst (λ (l : List Event). IsOrder rules l order) (sym split) ordered)
    zeroth facts
    (ap (λ (l : List Event). own number_of old.view.number l) split ∙ owned)

opened_within_at : (rules : Rules) (old new : Known Event Rules) (order : Order) (entries : ℕ) (between : List Event)
    → new ≡ knowing old (committed ((old.view.seen ++ between) ++ Open order.cycle order.mask ∷ []) (granted (old.view.seen ++ between) old.view))
    → IsOrderFor rules (old.view.seen ++ between) order → order.learned ≡ learned_as (old.view.seen ++ between) (kept_of (old.view.seen ++ between))
    → StandsFor (next_of (old.view.seen ++ between)) (placed_of (old.view.seen ++ between)) (kept_of (old.view.seen ++ between))
    → length (kept_of (old.view.seen ++ between)) ≤ entries
    → old.view.number ≡ 0 → Facts number_of old.view → own number_of old.view.number (old.view.seen ++ between) ≡ old.view.mine
    → IsOpenedWithin rules entries old new order
unfolding answered
opened_within_at rules old new order entries between is ordered learned stands few zeroth facts owned = record {
  answered = answered old new (Open order.cycle order.mask) between is;
  is_order = ordered;
  learned = learned;
  stands = stands;
  alone =
      let at : own number_of 0 old.view.seen ≡ old.view.mine = ap (λ n. own number_of n old.view.seen) (sym zeroth) ∙ facts.own_are in
      let after : own number_of 0 (old.view.seen ++ between) ≡ old.view.mine = ap (λ n. own number_of n (old.view.seen ++ between)) (sym zeroth) ∙ owned in
      none_between old.view.seen between old.view.mine at after;
  kept = few;
  few = few-learned (old.view.seen ++ between) (kept_of (old.view.seen ++ between)) order entries learned few;
}

-- and so it did with an order by which the nodes learn the entries that are kept, no more than there was room for
pub opened_within : (rules : Rules) (old new : Known Event Rules) (order : Order) (entries : ℕ) (placed : List Placed) (found : List Event)
    → IsPrefix old.view.seen found
    → new ≡ knowing old (committed (found ++ Open order.cycle order.mask ∷ []) (granted found old.view))
    → IsOrderFor rules found order → order.learned ≡ learned_as found placed → StandsFor (next_of found) (placed_of found) placed
    → placed ≡ kept_of found → length placed ≤ entries
    → old.view.number ≡ 0 → Facts number_of old.view → own number_of old.view.number found ≡ old.view.mine
    → IsOpenedWithin rules entries old new order
opened_within rules old new order entries placed found begins is ordered learned stands kept few zeroth facts owned =
    let split = begins.1 in
    opened_within_at rules old new order entries begins.0
    (is ∙ ap (λ (l : List Event). knowing old (committed (l ++ Open order.cycle order.mask ∷ []) (granted l old.view))) (sym split))
    (subst (λ (l : List Event). IsOrderFor rules l order) (sym split) ordered)
    (subst (λ (l : List Event). order.learned ≡ learned_as l (kept_of l)) (sym split) (learned ∙ ap (λ (l : List Placed). learned_as found l) kept))
    (subst (λ (l : List Event). StandsFor (next_of l) (placed_of l) (kept_of l)) (sym split)
    (subst (λ (ps : List Placed). StandsFor (next_of found) (placed_of found) ps) kept stands))
    (subst (λ (l : List Event). length (kept_of l) ≤ entries) (sym split) (subst (λ (l : List Placed). length l ≤ entries) kept few))
    zeroth facts
    (ap (λ (l : List Event). own number_of old.view.number l) split ∙ owned)

settled_at : (old new : Known Event Rules) (change : Change) (planned : PlannedView) (verdict : Verdict) (trail : List ℕ) (between : List Event)
    → new ≡ knowing old (committed ((old.view.seen ++ between) ++ Submit old.view.number change (from_of (old.view.seen ++ between) planned) verdict trail ∷ [])
    (granted (old.view.seen ++ between) old.view))
    → Settled old new change planned verdict
unfolding answered
settled_at old new change planned verdict trail between is = record {
  from = from_of (old.view.seen ++ between) planned;
  trail = trail;
  answered = answered old new (Submit old.view.number change (from_of (old.view.seen ++ between) planned) verdict trail) between is;
  planned_from = refl;
}

-- the operator's pass got the turn where this list was found, and let it go with a change more
pub settled : (old new : Known Event Rules) (change : Change) (planned : PlannedView) (verdict : Verdict) (trail : List ℕ) (found : List Event)
    → IsPrefix old.view.seen found
    → new ≡ knowing old (committed (found ++ Submit old.view.number change (from_of found planned) verdict trail ∷ []) (granted found old.view))
    → Settled old new change planned verdict
settled old new change planned verdict trail found begins is =
    settled_at old new change planned verdict trail begins.0
    (is ∙ ap (λ (l : List Event). knowing old (committed (l ++ Submit old.view.number change (from_of l planned) verdict trail ∷ []) (granted l old.view)))
    (sym begins.1))

settled-kept-at : (old new : Known Event Rules) (planned : CorePlannedView) (verdict : Verdict) (trail : List ℕ) (between : List Event)
    → new ≡ knowing old (committed ((old.view.seen ++ between) ++ Submit old.view.number planned.change (kept_from (old.view.seen ++ between) planned) verdict trail ∷ [])
    (granted (old.view.seen ++ between) old.view))
    → KeptSettled old new planned verdict
unfolding answered
settled-kept-at old new planned verdict trail between is = record {
  from = kept_from (old.view.seen ++ between) planned;
  trail = trail;
  answered = answered old new (Submit old.view.number planned.change (kept_from (old.view.seen ++ between) planned) verdict trail) between is;
  planned_from = refl;
}

-- and so it did with a change that was planned from the kept entries
pub settled-kept : (old new : Known Event Rules) (planned : CorePlannedView) (verdict : Verdict) (trail : List ℕ) (found : List Event)
    → IsPrefix old.view.seen found
    → new ≡ knowing old (committed (found ++ Submit old.view.number planned.change (kept_from found planned) verdict trail ∷ []) (granted found old.view))
    → KeptSettled old new planned verdict
settled-kept old new planned verdict trail found begins is =
    settled-kept-at old new planned verdict trail begins.0
    (is ∙ ap (λ (l : List Event). knowing old (committed (l ++ Submit old.view.number planned.change (kept_from l planned) verdict trail ∷ []) (granted l old.view)))
    (sym begins.1))

-- what was planned from a snapshot of what was seen can be settled where the turn is got
pub can_settle : (rules : Rules) (seen found : List Event) (change : Change) (planned : PlannedView) → IsPlannedIn rules seen change planned
    → IsPrefix seen found → CanSettle rules found change planned
can_settle rules seen found change planned here begins = record {
  snapshot = snapshot_of rules here.front;
  plan = here.plan;
  same_rules = refl;
  place = λ same. (here.front, prefix_trans here.front seen found here.begins begins, refl);
}

-- a change that was planned from a snapshot can be settled by the pass that took it
pub planned_here : (rules : Rules) (old new : Known Event Rules) (snapshot : Snapshot) (change : Change) (planned : PlannedView)
    → Snapped rules old new snapshot → IsPlanOf snapshot change planned → IsPlannedIn rules new.view.seen change planned
planned_here rules old new snapshot change planned taken plan = record {
  front = new.view.seen;
  begins = ([], append-nil new.view.seen);
  plan = subst (λ (s : Snapshot). IsPlanOf s change planned) taken.is plan;
}

-- and so it can still, once the turn was refused and the plan was handed back
pub still_planned : (rules : Rules) (old new : Known Event Rules) (change : Change) (plan back : PlannedView) (word : ℕ)
    → IsPlannedIn rules old.view.seen change plan → IsTurnRefused old new word → back ≡ plan → IsPlannedIn rules new.view.seen change back
still_planned rules old new change plan back word planned refusal same =
    subst (λ (p : PlannedView). IsPlannedIn rules new.view.seen change p) (sym same)
    (subst (λ (l : List Event). IsPlannedIn rules l change plan) (sym (ap (λ (k : Known Event Rules). k.view.seen) refusal.is)) planned)

-- the turn was waited for, and a snapshot taken
pub looked_first : (rules : Rules) (old new : Known Event Rules) (snapshot : Snapshot) → AfterWaiting (λ one other. Snapped rules one other snapshot) old new
    → AfterWaiting GaveBack old new
looked_first rules old new snapshot taken = record { till = taken.till; waited = taken.waited; made = taken.made.gave_back }

-- a change was planned from the snapshot that was taken in one turn, and settled in the next one
pub submitted_once : (rules : Rules) (old between new : Known Event Rules) (snapshot : Snapshot) (change : Change) (planned : PlannedView) (verdict : Verdict)
    → Snapped rules old between snapshot → IsPlanOf snapshot change planned → Settled between new change planned verdict
    → Submitted AtOnce rules old new change verdict
submitted_once rules old between new snapshot change planned verdict taken plan settled = record {
  between = between;
  looked = taken.gave_back;
  planned = planned;
  plan = subst (λ (s : Snapshot). IsPlanOf s change planned) taken.is plan;
  settled = settled;
}

-- a change was planned from a snapshot and settled, and each turn was waited for
pub submitted_waiting : (rules : Rules) (old between new : Known Event Rules) (snapshot : Snapshot) (change : Change) (planned : PlannedView) (verdict : Verdict)
    → AfterWaiting (λ one other. Snapped rules one other snapshot) old between → IsPlanOf snapshot change planned
    → AfterWaiting (λ one other. Settled one other change planned verdict) between new → Submitted AfterWaiting rules old new change verdict
submitted_waiting rules old between new snapshot change planned verdict taken plan settled = record {
  between = between;
  looked = looked_first rules old between snapshot taken;
  planned = planned;
  plan = subst (λ (s : Snapshot). IsPlanOf s change planned) taken.made.is plan;
  settled = settled;
}

-- and where memory ran out in the second turn
pub faulted_waiting : (rules : Rules) (old between new : Known Event Rules) (snapshot : Snapshot)
    → AfterWaiting (λ one other. Snapped rules one other snapshot) old between → AfterWaiting GaveBack between new
    → AfterWaiting GaveBack old new ⊎ InTurn (AfterWaiting GaveBack) (AfterWaiting GaveBack) old new
faulted_waiting rules old between new snapshot taken back = inr (record { between = between; earlier = looked_first rules old between snapshot taken; later = back })

-- nothing was refused yet
pub waited_none : (old : Known Event Rules) → Waited old old
waited_none old =
    let none : old.view.refused ≡ old.view.refused + 0 = omega arith in
    record {
      times = 0;
      last = old.view.last;
      is = ap (λ n. knowing old (record old.view { refused = n; last = old.view.last })) none;
      never = λ _. refl;
    }

-- one refusal more
pub waited_more : (old till new : Known Event Rules) (word : ℕ) → Waited old till → IsTurnRefused till new word → Waited old new
waited_more old till new word waited refusal = record {
  times = waited.times + 1;
  last = word;
  is =
      refusal.is ∙ (ap (λ (k : Known Event Rules). knowing k (refused word k.view)) waited.is
      ∙ ap (λ n. knowing old (record old.view { refused = n; last = word })) (add_assoc old.view.refused waited.times 1));
  never = λ none. absurd (omega arith);
}
