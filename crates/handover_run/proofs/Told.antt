-- A standby that was told has the core of the history with one event more.
use Rattle.std.proofs.Common.{◌≡◌, ℕ, true, List, [], ◌∷◌, ◌++◌, Option, Some, None, Result, Ok, Err, sym, ◌∙◌, subst}
use Rattle.std.specs.Prelude.{IfSome, OnOk}
use Rattle.can_frame.specs.DataFrame.{DataFrame}
use Rattle.change_protocol.specs.declared.operations.Change.{Change}
use Rattle.admission_rules.specs.declared.Rules.{Rules}
use Rattle.admission.specs.declared.verdict.Verdict.{Verdict}
use Rattle.admission.specs.Verdict.{is_accepted}
use Rattle.master_core.specs.declared.event.Event.{Event}
use Rattle.master_core.specs.declared.event.Event.TheVariants.{Submit, Open}
use Rattle.master_core.specs.History.{IsRight}
use Rattle.standby.specs.Core.{core_of, items_of}
use Rattle.standby.specs.Following.{IsChanged, IsOpened, StandbyView, due_frames}
use Rattle.handover_run.specs.Following.{IsAcceptedBehind, IsFollowing, IsRightBehind, IsStillFollowing}

pub record FollowsEach : Type 0 where
  pub opened : (rules : Rules) (whole own new : List Event) (cycle mask : ℕ) (frames : List DataFrame) → core_of whole ≡ core_of own
      → IsRight rules whole (Open cycle mask) → IsOpened (record { rules = rules; history = own }) frames new
      → core_of (whole ++ Open cycle mask ∷ []) ≡ core_of new
  pub changed : (rules : Rules) (whole own new : List Event) (caller from : ℕ) (change : Change) (verdict : Verdict) (trail : List ℕ)
      → core_of whole ≡ core_of own → is_accepted verdict ≡ true → IsChanged (record { rules = rules; history = own }) caller change new
      → core_of (whole ++ Submit caller change from verdict trail ∷ []) ≡ core_of new
  pub untold : (whole own : List Event) (event : Event) → core_of whole ≡ core_of own → items_of event ≡ [] → core_of (whole ++ event ∷ []) ≡ core_of own

-- of an opening
pub followed-opening : FollowsEach → (rules : Rules) (whole : List Event) (cycle mask : ℕ) (old new : StandbyView) → IsFollowing rules whole old
    → IsRight rules whole (Open cycle mask) → new.rules ≡ old.rules → IsOpened old (due_frames old) new.history
    → IsFollowing rules (whole ++ Open cycle mask ∷ []) new
followed-opening laws rules whole cycle mask old new follows right same opened = record {
  same_rules = same ∙ follows.same_rules;
  same_core = laws.opened old.rules whole old.history new.history cycle mask (due_frames old) follows.same_core
      (subst (λ (r : Rules). IsRight r whole (Open cycle mask)) (sym follows.same_rules) right) opened;
}

-- a change that is right and accepted
pub accepted-behind : {caller from : ℕ} {change : Change} {verdict : Verdict} {trail : List ℕ} (standby : StandbyView) (event : Event)
    → event ≡ Submit caller change from verdict trail → is_accepted verdict ≡ true → IsRightBehind standby event → IsAcceptedBehind standby change
accepted-behind {caller = caller} {from = from} {change = change} {verdict = verdict} {trail = trail} standby event same accepted is =
    let right : IsRight standby.rules is.whole (Submit caller change from verdict trail) = subst (λ (e : Event). IsRight standby.rules is.whole e) same is.right in
    record {
      whole = is.whole;
      same_core = is.same_core;
      legal = is.legal;
      from = from;
      verdict = verdict;
      trail = trail;
      right = right;
      accepted = accepted;
    }

-- what holds of each standby that follows
pub if-followed : (rules : Rules) (whole : List Event) (standby : Option StandbyView) (P : StandbyView → Type 0) → IsStillFollowing rules whole standby
    → ((one : StandbyView) → IsFollowing rules whole one → P one) → IfSome standby P
if-followed rules whole None P follows each = tt
if-followed rules whole (Some one) P follows each = each one follows

-- a standby follows each opening, where it could be told
pub each-opening : {T E G : Type 0} (old new : Option StandbyView) (told : Result T E)
    → ((rules : Rules) (whole : List Event) (cycle mask : ℕ) → IsStillFollowing rules whole old → IsRight rules whole (Open cycle mask)
    → OnOk told (IsStillFollowing rules (whole ++ Open cycle mask ∷ []) new))
    → (((rules : Rules) (whole : List Event) (cycle mask : ℕ) → IsStillFollowing rules whole old → IsRight rules whole (Open cycle mask)
    → IsStillFollowing rules (whole ++ Open cycle mask ∷ []) new) → G) → OnOk told G
each-opening old new (Ok value) each gives = gives each
each-opening old new (Err why) each gives = tt

-- and each other event
pub each-answer : {T E G : Type 0} (old new : Option StandbyView) (event : Event) (told : Result T E)
    → ((rules : Rules) (whole : List Event) → IsStillFollowing rules whole old → OnOk told (IsStillFollowing rules (whole ++ event ∷ []) new))
    → (((rules : Rules) (whole : List Event) → IsStillFollowing rules whole old → IsStillFollowing rules (whole ++ event ∷ []) new) → G) → OnOk told G
each-answer old new event (Ok value) each gives = gives each
each-answer old new event (Err why) each gives = tt
