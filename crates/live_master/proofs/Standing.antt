-- What holds of passes between calls.
use Rattle.std.proofs.Common.{◌≡◌, List, Contains, Some, None, Bool, true, false, cond, nat_le, length, sym, ap, ◌∙◌, subst}
use Rattle.turn_lock.specs.declared.view.View.{View}
use Rattle.turn_lock.specs.History.{own}
use Rattle.turn_lock.specs.Passes.{Facts, IsCovered, IsOfLock, Known, Lock, joined, knowing, split_from, split_off}
use Rattle.master_core.specs.History.{IsLegal}
use Rattle.admission_rules.specs.declared.Rules.{Rules}
use Rattle.master_core.specs.declared.event.Event.{Event}
use Rattle.live_master.specs.Callers.{number_of}
use Rattle.live_master.specs.Passes.{HasAllCalls, IsIdle, IsPassOf}

pub all_calls : (v : View Event Rules) (history : List Event) → IsIdle v → history ≡ v.seen → IsCovered v → HasAllCalls history v
all_calls v history idle same covered = record {
  mine = ap (λ (l : List Event). own number_of v.number l) same ∙ idle.facts.own_are;
  ended = λ n calls there. ap (λ (l : List Event). own number_of n l) same ∙ (idle.facts.ended_are n calls there).0;
  covered = λ e there. covered e (subst (λ (l : List Event). Contains l e) same there);
}

-- an idle pass of a shared master stands at it
pub pass_of : (shared : Lock Rules) (pass : Known Event Rules) → IsIdle pass.view → IsOfLock shared pass → IsPassOf shared pass
pass_of shared pass idle of = record {
  ready = (of, idle.free);
  facts = idle.facts;
  legal = idle.legal shared.fixed of.1;
}

-- a pass that has seen what an idle one has, and shows the same rules
pub idle_as : (v w : View Event Rules) → IsIdle v → w.found ≡ None → w.fixed ≡ v.fixed → w.seen ≡ v.seen → Facts number_of w → IsIdle w
idle_as v w idle free fixed seen facts = record {
  free = free;
  facts = facts;
  legal = λ rules shown. subst (λ (l : List Event). IsLegal rules l) (sym seen) (idle.legal rules (sym fixed ∙ shown));
}

pub split_from_idle : (old new : Known Event Rules) → IsIdle old.view → new ≡ knowing old (split_from old.view) → Facts number_of new.view → IsIdle new.view
split_from_idle old new idle is facts =
    idle_as old.view new.view idle
    (ap (λ (k : Known Event Rules). k.view.found) is ∙ idle.free)
    (ap (λ (k : Known Event Rules). k.view.fixed) is)
    (ap (λ (k : Known Event Rules). k.view.seen) is) facts

pub split_off_idle : (old new : Known Event Rules) → IsIdle old.view → new ≡ knowing old (split_off old.view) → Facts number_of new.view → IsIdle new.view
split_off_idle old new idle is facts =
    idle_as old.view new.view idle
    (ap (λ (k : Known Event Rules). k.view.found) is)
    (ap (λ (k : Known Event Rules). k.view.fixed) is)
    (ap (λ (k : Known Event Rules). k.view.seen) is) facts

legal_longer : (rules : Rules) (xs ys : List Event) (b : Bool) → IsLegal rules xs → IsLegal rules ys → IsLegal rules (cond b xs ys)
legal_longer rules xs ys true here there = here
legal_longer rules xs ys false here there = there

pub joined_idle : (shared : Lock Rules) (old other new : Known Event Rules) → IsIdle old.view → IsIdle other.view → IsOfLock shared old → IsOfLock shared other
    → new ≡ knowing old (joined old.view other.view) → Facts number_of new.view → IsIdle new.view
joined_idle shared old other new idle gone of there is facts = record {
  free = ap (λ (k : Known Event Rules). k.view.found) is ∙ idle.free;
  facts = facts;
  legal = λ rules shown.
      let same : old.view.fixed ≡ Some rules = sym (ap (λ (k : Known Event Rules). k.view.fixed) is) ∙ shown in
      let both : other.view.fixed ≡ Some rules = there.1 ∙ (sym of.1 ∙ same) in
      subst (λ (l : List Event). IsLegal rules l) (sym (ap (λ (k : Known Event Rules). k.view.seen) is))
      (legal_longer rules old.view.seen other.view.seen (nat_le (length other.view.seen) (length old.view.seen)) (idle.legal rules same) (gone.legal rules both));
}
