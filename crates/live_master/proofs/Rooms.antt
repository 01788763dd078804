-- What the dispatcher's pass found where there was room for what is kept, and where there was none.
use Rattle.std.proofs.Common.{◌≡◌, ℕ, ◌<◌, ◌≤◌, ◌++◌, Bool, true, false, cond, List, Some, None, length, sym, ap, ◌∙◌, subst}
use Rattle.std.specs.Prelude.{IfSome}
use mathlib.Core.List.{IsPrefix}
use Rattle.turn_lock.specs.History.{own}
use Rattle.turn_lock.specs.Passes.{Facts, Known, given_back, granted, knowing}
use Rattle.requirement_table.specs.declared.entries.Order.{Order}
use Rattle.requirement_table.specs.declared.entries.Placed.{Placed}
use Rattle.admission_rules.specs.declared.Rules.{Rules}
use Rattle.master_core.specs.declared.event.Event.{Event}
use Rattle.master_core.specs.History.{is_changed}
use Rattle.master_core.specs.Kept.{kept_of}
use Rattle.master_core.specs.Orders.{learned_as}
use Rattle.live_master.specs.Callers.{number_of}
use Rattle.live_master.specs.Within.{IsShort}
use Rattle.live_master.proofs.Openings.{none_between}

short_at : (old new : Known Event Rules) (entries needed : ℕ) (between : List Event)
    → new ≡ knowing old (given_back (old.view.seen ++ between) (granted (old.view.seen ++ between) old.view))
    → needed ≡ length (kept_of (old.view.seen ++ between)) → entries < needed
    → old.view.number ≡ 0 → Facts number_of old.view → own number_of old.view.number (old.view.seen ++ between) ≡ old.view.mine
    → IsShort entries old new needed
short_at old new entries needed between is kept more zeroth facts owned = record {
  gave_back = record { between = between; is = is };
  kept = kept;
  more = more;
  alone =
      let at : own number_of 0 old.view.seen ≡ old.view.mine = ap (λ n. own number_of n old.view.seen) (sym zeroth) ∙ facts.own_are in
      let after : own number_of 0 (old.view.seen ++ between) ≡ old.view.mine = ap (λ n. own number_of n (old.view.seen ++ between)) (sym zeroth) ∙ owned in
      none_between old.view.seen between old.view.mine at after;
}

-- it got the turn where this list was found, and gave it back
pub short : (old new : Known Event Rules) (entries needed : ℕ) (found : List Event) → IsPrefix old.view.seen found
    → new ≡ knowing old (given_back found (granted found old.view))
    → needed ≡ length (kept_of found) → entries < needed
    → old.view.number ≡ 0 → Facts number_of old.view → own number_of old.view.number found ≡ old.view.mine
    → IsShort entries old new needed
short old new entries needed found begins is kept more zeroth facts owned =
    let split = begins.1 in
    short_at old new entries needed begins.0
    (is ∙ ap (λ (l : List Event). knowing old (given_back l (granted l old.view))) (sym split))
    (kept ∙ ap (λ (l : List Event). length (kept_of l)) (sym split)) more zeroth facts
    (ap (λ (l : List Event). own number_of old.view.number l) split ∙ owned)

few-list : (list : List Placed) (changed : Bool) (entries : ℕ) → length list ≤ entries
    → IfSome (cond changed (Some list) None) (λ placed. length placed ≤ entries)
few-list list true entries few = few
few-list list false entries few = tt

-- what an order has the nodes learn is no longer than the list of which it is
pub few-learned : (history : List Event) (list : List Placed) (order : Order) (entries : ℕ) → order.learned ≡ learned_as history list → length list ≤ entries
    → IfSome order.learned (λ placed. length placed ≤ entries)
few-learned history list order entries is few =
    subst (λ o. IfSome o (λ placed. length placed ≤ entries)) (sym is) (few-list list (is_changed history) entries few)
