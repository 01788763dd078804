-- A run that was brought on by one event is brought on as a whole, whoever is the master.
use Rattle.std.proofs.Common.{◌≡◌, ℕ, Bool, true, false, List, [], ◌∷◌, ◌++◌, is_some, map, refl, sym, ap, ◌∙◌, subst}
use Rattle.std.specs.Prelude.{◌&&◌}
use Rattle.std.proofs.lemmas.List.{map-append}
use Rattle.std.proofs.lemmas.List.Folds.{list_all-append}
use Rattle.std.proofs.lemmas.Grind.{flat_map-append}
use Rattle.can_frame.specs.declared.data_frame.TimedFrame.{TimedFrame}
use Rattle.admission_rules.specs.declared.Rules.{Rules}
use Rattle.change_protocol.specs.declared.operations.Act.{Act}
use Rattle.master_core.specs.Calls.{Call, asked, call_of, opens}
use Rattle.master_core.specs.declared.event.Event.{Event}
use Rattle.master_core.specs.declared.event.Event.TheVariants.{Open}
use Rattle.master_core.specs.History.{IsLegal, IsPlainlyLegal, IsRight}
use Rattle.kept_run.specs.Setting.{Setting}
use Rattle.kept_run.proofs.Shared.{AllAfter-parts}
use Rattle.master_core.specs.Accepted.{all_accepted, refuses_nothing}
use Rattle.replay_run.specs.Progress.{IsBroughtOn}
use Rattle.standby.specs.Core.{Item, core_of, items_of}
use Rattle.standby.specs.Following.{StandbyView}
use Rattle.handover_run.specs.declared.handed.Handed.{Handed}
use Rattle.handover_run.specs.Following.{IsFollowing, IsRightBehind, IsStillFollowing}
use Rattle.handover_run.specs.Handed.{IsHanded}
use Rattle.replay_run.specs.Runs.{IsRunOn}
use Rattle.handover_run.proofs.Behind.{OneCore, under-way-behind}
use Rattle.handover_run.proofs.Calls.{IsOpening, answered-by, opening-of}

-- what may follow the one may follow the other
pub record GoesOnPlain : Type 0 where
  pub plain : (rules : Rules) (one other later : List Event) → core_of one ≡ core_of other
      → IsPlainlyLegal rules one → IsPlainlyLegal rules (other ++ later) → IsPlainlyLegal rules (one ++ later)

pub right-behind : (rules : Rules) (whole : List Event) (event : Event) → IsLegal rules (whole ++ event ∷ []) → IsRight rules whole event
right-behind rules whole event legal = (AllAfter-parts (IsRight rules) [] whole (event ∷ []) legal).1.0

core-push : (history : List Event) (event : Event) → core_of (history ++ event ∷ []) ≡ core_of history ++ core_of (event ∷ [])
core-push history event = flat_map-append items_of history (event ∷ [])

and-true : (b : Bool) → (b && true) ≡ b
and-true true = refl
and-true false = refl

pub quiet-push : (whole : List Event) (event : Event) → all_accepted (whole ++ event ∷ []) ≡ (all_accepted whole && all_accepted (event ∷ []))
quiet-push whole event = list_all-append refuses_nothing whole (event ∷ [])

module _ (laws : OneCore) (goes : GoesOnPlain) (setting : Setting) (whole : List Event) (trace : List TimedFrame) (run after : Handed)
    (frames : List TimedFrame) (is : IsHanded setting whole trace run) (on : IsBroughtOn setting trace run.bus after.bus frames) where
  abbrev pub own : List Event
  own = run.bus.master.history

  pub whole-plain : IsPlainlyLegal setting.rules (whole ++ on.event ∷ [])
  whole-plain = goes.plain setting.rules whole own (on.event ∷ []) is.same_core is.plain
      (subst (λ (h : List Event). IsPlainlyLegal setting.rules h) on.history on.going.plain)

  whole-core : core_of (whole ++ on.event ∷ []) ≡ core_of after.bus.master.history
  whole-core = core-push whole on.event ∙ ap (λ (l : List Item). l ++ core_of (on.event ∷ [])) is.same_core ∙ sym (core-push own on.event)
      ∙ sym (ap core_of on.history)

  pub handed-on : (calls : List Call) → is_some after.bus.trace ≡ is_some run.bus.trace → map call_of after.bus.master.history ≡ map call_of own ++ calls
      → IsStillFollowing setting.rules (whole ++ on.event ∷ []) after.standby → after.quiet ≡ all_accepted (whole ++ on.event ∷ [])
      → IsRunOn IsHanded setting whole trace after.bus.master.history frames calls after
  handed-on calls kept answered follows quiet = record {
    event = on.event;
    ends = record { before = own; is = on.history };
    answers = map-append call_of whole (on.event ∷ [])
        ∙ ap (λ (l : List Call). map call_of whole ++ l) (answered-by own after.bus.master.history on.event calls on.history answered);
    goes = record {
      going = on.going;
      unkept = kept ∙ is.unkept;
      plain = whole-plain;
      under_way = under-way-behind laws setting after.bus.master.history (whole ++ on.event ∷ []) (trace ++ frames) (sym whole-core) whole-plain.legal
          on.going.way.under_way;
      same_core = whole-core;
      followed = follows;
      quiet = quiet;
    };
    rows = on.rows whole is.plain.legal (laws.placed whole own is.same_core) (laws.next whole own is.same_core);
  }

  -- where a cycle was opened
  pub opened-on : is_some after.bus.trace ≡ is_some run.bus.trace → map call_of after.bus.master.history ≡ map call_of own ++ opens ∷ []
      → ((cycle mask : ℕ) → IsRight setting.rules whole (Open cycle mask) → IsStillFollowing setting.rules (whole ++ Open cycle mask ∷ []) after.standby)
      → after.quiet ≡ run.quiet → IsRunOn IsHanded setting whole trace after.bus.master.history frames (opens ∷ []) after
  opened-on kept answered follow same =
      let opening : IsOpening on.event = opening-of on.event (answered-by own after.bus.master.history on.event (opens ∷ []) on.history answered) in
      let right : IsRight setting.rules whole (Open opening.cycle opening.mask) =
      subst (λ (e : Event). IsRight setting.rules whole e) opening.is (right-behind setting.rules whole on.event whole-plain.legal) in
      let follows : IsStillFollowing setting.rules (whole ++ on.event ∷ []) after.standby =
      subst (λ (e : Event). IsStillFollowing setting.rules (whole ++ e ∷ []) after.standby) (sym opening.is) (follow opening.cycle opening.mask right) in
      let quiet : all_accepted (whole ++ on.event ∷ []) ≡ all_accepted whole =
      ap (λ (e : Event). all_accepted (whole ++ e ∷ [])) opening.is ∙ quiet-push whole (Open opening.cycle opening.mask) ∙ and-true (all_accepted whole) in
      handed-on (opens ∷ []) kept answered follows (same ∙ is.quiet ∙ sym quiet)

  -- of its event a standby that follows may be told
  pub right-told : (one : StandbyView) (last : Event) → IsFollowing setting.rules whole one → last ≡ on.event → IsRightBehind one last
  right-told one last follows same =
      let right : IsRight setting.rules whole on.event = right-behind setting.rules whole on.event whole-plain.legal in
      record {
        whole = whole;
        same_core = follows.same_core;
        legal = subst (λ (r : Rules). IsLegal r whole) (sym follows.same_rules) is.plain.legal;
        right = subst (λ (r : Rules). IsRight r whole last) (sym follows.same_rules) (subst (λ (e : Event). IsRight setting.rules whole e) (sym same) right);
      }

  -- where an act was answered
  pub answered-on : (caller : ℕ) (act : Act) → is_some after.bus.trace ≡ is_some run.bus.trace → map call_of after.bus.master.history ≡ map call_of own ++ asked caller act ∷ []
      → IsStillFollowing setting.rules (whole ++ on.event ∷ []) after.standby → after.quiet ≡ (run.quiet && refuses_nothing on.event)
      → IsRunOn IsHanded setting whole trace after.bus.master.history frames (asked caller act ∷ []) after
  answered-on caller act kept answered follows quiet =
      let all : (run.quiet && refuses_nothing on.event) ≡ all_accepted (whole ++ on.event ∷ []) =
      ap (λ (b : Bool). b && refuses_nothing on.event) is.quiet
      ∙ ap (λ (b : Bool). all_accepted whole && b) (sym (and-true (refuses_nothing on.event)))
      ∙ sym (quiet-push whole on.event) in
      handed-on (asked caller act ∷ []) kept answered follows (quiet ∙ all)
