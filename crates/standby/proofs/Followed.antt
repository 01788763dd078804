-- What a standby has followed, and that it follows what is due.
use Rattle.std.proofs.Common.{◌≡◌, ℕ, ◌^◌, ◌<◌, ◌≤◌, inl, inr, Bool, true, false, if◌then◌else◌, List, [], ◌∷◌, ◌++◌, Option, Some, refl, sym, ap, ◌∙◌, subst, arith}
use Rattle.std.proofs.lemmas.List.Elements.{All-append, All-cons, All-nil}
use Rattle.std.proofs.lemmas.List.{append-nil}
use Rattle.std.proofs.lemmas.Option.{same_Some}
use Rattle.can_frame.specs.DataFrame.{DataFrame}
use Rattle.requirement_table.specs.declared.entries.Placed.{Placed}
use Rattle.bit_sets.specs.Sets.{has_bit, most_slots}
use Rattle.trigger_kind.specs.Kind.{IsSlots}
use Rattle.profile.specs.Limits.{longest_window}
use Rattle.requirement_table.specs.Table.{width_in}
use Rattle.trigger_codec.specs.Bytes.{triggers_with}
use Rattle.change_protocol.specs.declared.operations.Change.{Change}
use Rattle.planner_policies.specs.Plan.{pending_at}
use Rattle.admission_rules.specs.declared.Rules.{Rules}
use Rattle.admission.specs.Verdict.{IsRules, IsVerdict, is_accepted}
use Rattle.admission.specs.declared.verdict.Verdict.{Verdict}
use Rattle.admission.specs.declared.verdict.Verdict.TheVariants.{Malformed, Passed, Miss, Horizon, Accepted}
use Rattle.master_core.specs.Orders.{IsUpcoming}
use Rattle.master_core.specs.declared.upcoming.Upcoming.{Upcoming}
use Rattle.master_core.specs.declared.event.Event.{Event}
use Rattle.master_core.specs.declared.event.Event.TheVariants.{Submit, Open}
use Rattle.master_core.specs.History.{IsLegal, IsPlannedNow, IsRight, IsRightAnswer, next_of, placed_of, plan_of}
use Rattle.standby.specs.Core.{Item, changed, opened, core_of, items_of}
use Rattle.standby.specs.Following.{IsChanged, IsInCore, IsOpened, IsOwnVerdict, IsStandby, StandbyView, due_frames, planned_of, sum_of}
use Rattle.trigger_codec.specs.Heard.{heard_of}
use Rattle.trigger_codec.specs.declared.heard.Heard.{Heard}
use Rattle.standby.proofs.Behind.{own-next}
use Rattle.standby.proofs.Cores.{core_of-push, next-core, placed-core}
use Rattle.standby.proofs.GoingOn.{after-both, after-rest}
use Rattle.trigger_codec.proofs.Shared.{heard-triggers}

abbrev seen : Rules → List Event → StandbyView
seen rules own = record { rules = rules; history = own }

-- A change

record HasRepeat (verdict : Verdict) : Type 0 where
  pub first : ℕ
  pub cycles : ℕ
  pub accepts : verdict ≡ Accepted first cycles

has-repeat : (verdict : Verdict) → is_accepted verdict ≡ true → HasRepeat verdict
has-repeat (Malformed op why) accepted = absurd (cc)
has-repeat (Passed start next) accepted = absurd (cc)
has-repeat (Miss slot release cycle) accepted = absurd (cc)
has-repeat (Horizon from walked) accepted = absurd (cc)
has-repeat (Accepted first cycles) accepted = record { first = first; cycles = cycles; accepts = refl }

-- a standby with one event more
standby-on : (rules : Rules) (own : List Event) (event : Event) → IsStandby rules own → IsLegal rules (own ++ event ∷ []) → IsPlannedNow own event
    → IsInCore event → IsStandby rules (own ++ event ∷ [])
standby-on rules own event was legal now left = record {
  ranges = was.ranges;
  slots = was.slots;
  plain = record { legal = legal; now = after-both IsPlannedNow [] own (event ∷ []) was.plain.now (now, tt) };
  core_alone = All-append IsInCore own (event ∷ []) was.core_alone (All-cons IsInCore event [] left (All-nil IsInCore));
}

-- what is so behind a change that was followed
pub record IsFollowed (rules : Rules) (own : List Event) (caller : ℕ) (change : Change) (new : List Event) : Type 0 where
  pub change_is : IsChanged (seen rules own) caller change new
  pub standby : IsStandby rules new

followed-by : (rules : Rules) (own : List Event) (caller : ℕ) (change : Change) (first cycles : ℕ) (new : List Event) → IsStandby rules own
    → new ≡ own ++ Submit caller change (next_of own) (Accepted first cycles) [] ∷ [] → IsLegal rules new → IsFollowed rules own caller change new
followed-by rules own caller change first cycles new was is legal =
    let event : Event = Submit caller change (next_of own) (Accepted first cycles) [] in
    let legal_is = subst (IsLegal rules) is legal in
    let right : IsRightAnswer rules own change (next_of own) (Accepted first cycles) [] = (after-rest (IsRight rules) [] own (event ∷ []) legal_is).0 in
    record {
      change_is = record { first = first; length = cycles; verdict = right.answer; history = is };
      standby = subst (IsStandby rules) (sym is) (standby-on rules own event was legal_is refl (changed caller change, refl));
    }

pub followed-change : (rules : Rules) (own : List Event) (caller : ℕ) (change : Change) (verdict : Verdict) (new : List Event) → IsStandby rules own
    → new ≡ own ++ Submit caller change (next_of own) verdict [] ∷ [] → IsLegal rules new → is_accepted verdict ≡ true → IsFollowed rules own caller change new
followed-change rules own caller change verdict new was is legal accepted =
    let taken = has-repeat verdict accepted in
    followed-by rules own caller change taken.first taken.cycles new was
    (is ∙ ap (λ (v : Verdict). own ++ Submit caller change (next_of own) v [] ∷ []) taken.accepts) legal

-- an accepted change is accepted anew
pub record AcceptedAnew : Type 0 where
  pub accepted : (rules : Rules) (history : List Event) (change : Change) (from : ℕ) (verdict anew : Verdict) (trail : List ℕ) → IsRules rules → IsLegal rules history
      → IsRightAnswer rules history change from verdict trail → is_accepted verdict ≡ true
      → IsVerdict rules (placed_of history) (pending_at (plan_of rules (placed_of history)) (next_of history)) (next_of history) (next_of history) change anew
      → is_accepted anew ≡ true

-- what the first master accepted is not refused
pub none-refused : AcceptedAnew → (rules : Rules) (own history : List Event) (change : Change) (from : ℕ) (verdict anew : Verdict) (trail : List ℕ)
    → IsRules rules → core_of history ≡ core_of own → IsLegal rules history → IsRightAnswer rules history change from verdict trail → is_accepted verdict ≡ true
    → IsOwnVerdict (seen rules own) change anew → is_accepted anew ≡ false → ⊥
none-refused again rules own history change from verdict anew trail ranges core legal right accepted is refused =
    let by_next = subst
    (λ (n : ℕ). IsVerdict rules (placed_of own) (pending_at (plan_of rules (placed_of own)) n) n n change anew) (sym (next-core history own core)) is in
    let by_list = subst
    (λ (l : List Placed). IsVerdict rules l (pending_at (plan_of rules l) (next_of history)) (next_of history) (next_of history) change anew)
    (sym (placed-core history own core)) by_next in
    let taken = again.accepted rules history change from verdict anew trail ranges legal right accepted by_list in
    cc

-- An opening

pub standby-opened : (rules : Rules) (own : List Event) (cycle mask : ℕ) (new : List Event) → IsStandby rules own → new ≡ own ++ Open cycle mask ∷ []
    → IsLegal rules new → IsStandby rules new
standby-opened rules own cycle mask new was is legal =
    subst (IsStandby rules) (sym is)
    (standby-on rules own (Open cycle mask) was (subst (IsLegal rules) is legal) tt (opened cycle mask, refl))

most-slots : (slots : ℕ) → IsSlots slots → slots ≤ most_slots
most-slots slots (inl few) = omega (arith, few)
most-slots slots (inr many) = omega (arith, many)

-- the trigger frames of a cycle say what they were made of
pub heard-in_range : (slots cycle l mask : ℕ) → IsSlots slots → l ≤ longest_window → mask < 2 ^ slots
    → heard_of slots cycle (triggers_with slots cycle l mask) ≡ Some (record { l = l; mask = mask })
heard-in_range slots cycle l mask is small below = heard-triggers slots cycle l mask (most-slots slots is) small below

-- the frames that are due say what is upcoming
pub due-heard : (rules : Rules) (own : List Event) (upcoming : Upcoming) (frames : List DataFrame) → IsStandby rules own → IsUpcoming rules own upcoming
    → frames ≡ due_frames (seen rules own) → heard_of rules.slots (next_of own) frames ≡ Some (record { l = upcoming.l; mask = upcoming.mask })
due-heard rules own upcoming frames was is due =
    let flags : upcoming.mask ≡ planned_of (seen rules own) = is.order.mask in
    let width : upcoming.l ≡ sum_of (seen rules own) = is.order.window ∙ ap (λ (m : ℕ). width_in (placed_of own) (next_of own) (has_bit m)) flags in
    let fits = is.order.fits in
    let window = was.ranges.greatest_window in
    ap (heard_of rules.slots (next_of own)) due
    ∙ ap (λ (m : ℕ). heard_of rules.slots (next_of own) (triggers_with rules.slots (next_of own) (sum_of (seen rules own)) m)) (sym flags)
    ∙ ap (λ (n : ℕ). heard_of rules.slots (next_of own) (triggers_with rules.slots (next_of own) n upcoming.mask)) (sym width)
    ∙ heard-in_range rules.slots (next_of own) upcoming.l upcoming.mask was.slots (omega arith) is.order.slots

-- what is heard where this is due
pub heard-is : (heard : Option Heard) (other due : Heard) → heard ≡ Some other → heard ≡ Some due → other ≡ due
heard-is heard other due is said = same_Some other due (sym is ∙ said)

-- The core then

pub changed-core : (rules : Rules) (own : List Event) (caller : ℕ) (change : Change) (new : List Event) → IsChanged (seen rules own) caller change new
    → core_of new ≡ core_of own ++ changed caller change ∷ []
changed-core rules own caller change new is =
    ap core_of is.history ∙ core_of-push own (Submit caller change (next_of own) (Accepted is.first is.length) [])

pub opened-core : (rules : Rules) (own : List Event) (frames : List DataFrame) (new : List Event) → IsOpened (seen rules own) frames new
    → core_of new ≡ core_of own ++ opened (next_of own) (planned_of (seen rules own)) ∷ []
opened-core rules own frames new is = ap core_of is.history ∙ core_of-push own (Open (next_of own) (planned_of (seen rules own)))

-- The core of both histories behind one event more

pub opened-both : (rules : Rules) (whole own new : List Event) (cycle mask : ℕ) (frames : List DataFrame) → core_of whole ≡ core_of own
    → IsRight rules whole (Open cycle mask) → IsOpened (seen rules own) frames new → core_of (whole ++ Open cycle mask ∷ []) ≡ core_of new
opened-both rules whole own new cycle mask frames core right is =
    let next = own-next rules whole own cycle mask core right in
    core_of-push whole (Open cycle mask)
    ∙ ap (λ (l : List Item). l ++ opened cycle mask ∷ []) core
    ∙ ap (λ (n : ℕ). core_of own ++ opened n mask ∷ []) next.cycle_is
    ∙ ap (λ (m : ℕ). core_of own ++ opened (next_of own) m ∷ []) next.mask_is
    ∙ sym (opened-core rules own frames new is)

pub changed-both : (rules : Rules) (whole own new : List Event) (caller from : ℕ) (change : Change) (verdict : Verdict) (trail : List ℕ)
    → core_of whole ≡ core_of own → is_accepted verdict ≡ true → IsChanged (seen rules own) caller change new
    → core_of (whole ++ Submit caller change from verdict trail ∷ []) ≡ core_of new
changed-both rules whole own new caller from change verdict trail core accepted is =
    core_of-push whole (Submit caller change from verdict trail)
    ∙ ap (λ (b : Bool). core_of whole ++ (if b then changed caller change ∷ [] else [])) accepted
    ∙ ap (λ (l : List Item). l ++ changed caller change ∷ []) core
    ∙ sym (changed-core rules own caller change new is)

pub untold-both : (whole own : List Event) (event : Event) → core_of whole ≡ core_of own → items_of event ≡ [] → core_of (whole ++ event ∷ []) ≡ core_of own
untold-both whole own event core nothing =
    core_of-push whole event ∙ ap (λ (l : List Item). core_of whole ++ l) nothing ∙ append-nil (core_of whole) ∙ core
