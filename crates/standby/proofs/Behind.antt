-- How far a standby has come, and what it is told next.
use Rattle.std.proofs.Common.{◌≡◌, ℕ, Bool, true, false, if◌then◌else◌, List, [], ◌∷◌, ◌++◌, refl, sym, ap, ◌∙◌, subst, append_assoc}
use Rattle.std.proofs.lemmas.List.{append-nil}
use Rattle.admission.specs.Verdict.{is_accepted}
use Rattle.admission.specs.declared.verdict.Verdict.{Verdict}
use Rattle.admission_rules.specs.declared.Rules.{Rules}
use Rattle.change_protocol.specs.declared.operations.Change.{Change}
use Rattle.master_core.specs.History.{placed_of, next_of, IsRight, IsRightAnswer, IsLegal, plan_of}
use Rattle.master_core.specs.declared.event.Event.{Event}
use Rattle.master_core.specs.declared.event.Event.TheVariants.{Submit, Look, Open}
use Rattle.planner_policies.specs.Plan.{mask_at}
use Rattle.bit_sets.specs.Sets.{has_bit}
use Rattle.requirement_table.specs.Table.{width_in}
use Rattle.requirement_table.specs.declared.entries.Placed.{Placed}
use Rattle.can_frame.specs.DataFrame.{DataFrame}
use Rattle.trigger_codec.specs.Bytes.{triggers_with}
use Rattle.standby.specs.declared.told.Told.{Told}
use Rattle.standby.specs.declared.told.Told.TheVariants as tell
use Rattle.standby.specs.Core.{Item, changed, opened, items_of, core_of}
use Rattle.standby.specs.Following.{planned_of, due_frames}
use Rattle.standby.specs.Handover.{told_of, told_after, IsBehind}
use Rattle.standby.proofs.Cores.{core_of-append, core_of-cons, core_of-push, next-core, placed-core}
use Rattle.standby.proofs.GoingOn.{after-front, after-rest}

-- an event of which something is told, behind events of which nothing is
record IsNext (rules : Rules) (front back : List Event) (told : Told) (rest : List Told) : Type 0 where
  pub mid : List Event
  pub event : Event
  pub later : List Event
  pub parts : back ≡ mid ++ event ∷ later
  pub quiet : core_of mid ≡ []
  pub tells : told_of rules (front ++ mid) event ≡ told ∷ []
  pub left : rest ≡ told_after rules ((front ++ mid) ++ event ∷ []) later

-- of an event nothing is told and it leaves nothing, or one thing is told
data Tells (rules : Rules) (before : List Event) (event : Event) : Type 0 where
  nothing : items_of event ≡ [] → told_of rules before event ≡ [] → Tells rules before event
  one_thing : (told : Told) → told_of rules before event ≡ told ∷ [] → Tells rules before event

tells-event : (rules : Rules) (before : List Event) (event : Event) → Tells rules before event
tells-event rules before (Submit caller change from verdict trail) = by-if (is_accepted verdict) refl
  where
    by-if : (b : Bool) → is_accepted verdict ≡ b → Tells rules before (Submit caller change from verdict trail)
    by-if true is = one_thing (tell.Change caller change) (ap (λ (b : Bool). if b then tell.Change caller change ∷ [] else []) is)
    by-if false is =
        nothing (ap (λ (b : Bool). if b then changed caller change ∷ [] else []) is) (ap (λ (b : Bool). if b then tell.Change caller change ∷ [] else []) is)
tells-event rules before (Look caller next) = nothing refl refl
tells-event rules before (Open cycle mask) = one_thing _ refl

record SameParts (one other : Told) (ones others : List Told) : Type 0 where
  pub head : one ≡ other
  pub tail : ones ≡ others

same-parts : (one other : Told) (ones others : List Told) → one ∷ ones ≡ other ∷ others → SameParts one other ones others
same-parts one other ones others is = record { head = cc; tail = cc }

next-by : (rules : Rules) (front : List Event) (event : Event) (later : List Event) (told : Told) (rest : List Told)
    → (told ∷ rest ≡ told_after rules (front ++ event ∷ []) later → IsNext rules (front ++ event ∷ []) later told rest) → Tells rules front event
    → told ∷ rest ≡ told_of rules front event ++ told_after rules (front ++ event ∷ []) later → IsNext rules front (event ∷ later) told rest
next-by rules front event later told rest find (nothing none silent) is =
    let found = find (is ∙ ap (λ (l : List Told). l ++ told_after rules (front ++ event ∷ []) later) silent) in
    let whole : (front ++ event ∷ []) ++ found.mid ≡ front ++ (event ∷ found.mid) = append_assoc front (event ∷ []) found.mid in
    record {
      mid = event ∷ found.mid;
      event = found.event;
      later = found.later;
      parts = ap (λ (l : List Event). event ∷ l) found.parts;
      quiet = core_of-cons event found.mid ∙ ap (λ (l : List Item). l ++ core_of found.mid) none ∙ found.quiet;
      tells = subst (λ (h : List Event). told_of rules h found.event ≡ told ∷ []) whole found.tells;
      left = found.left ∙ ap (λ (h : List Event). told_after rules (h ++ found.event ∷ []) found.later) whole;
    }
next-by rules front event later told rest find (one_thing x one) is =
    let parts =
    same-parts told x rest (told_after rules (front ++ event ∷ []) later)
    (is ∙ ap (λ (l : List Told). l ++ told_after rules (front ++ event ∷ []) later) one) in
    record {
      mid = [];
      event = event;
      later = later;
      parts = refl;
      quiet = refl;
      tells = ap (λ (h : List Event). told_of rules h event) (append-nil front) ∙ one ∙ ap (λ (t : Told). t ∷ []) (sym parts.head);
      left = parts.tail ∙ ap (λ (h : List Event). told_after rules (h ++ event ∷ []) later) (sym (append-nil front));
    }

next-told : (rules : Rules) (front back : List Event) (told : Told) (rest : List Told) → told ∷ rest ≡ told_after rules front back → IsNext rules front back told rest
next-told rules front [] told rest is = absurd (cc)
next-told rules front (event ∷ later) told rest is =
    next-by rules front event later told rest (λ more. next-told rules (front ++ event ∷ []) later told rest more) (tells-event rules front event) is

-- the event that is told next, in a legal history, to one who has the core of the events before it
pub record IsDue (rules : Rules) (whole own : List Event) (told : Told) (rest : List Told) : Type 0 where
  pub before : List Event
  pub event : Event
  pub same_core : core_of before ≡ core_of own
  pub legal : IsLegal rules before
  pub right : IsRight rules before event
  pub tells : told_of rules before event ≡ told ∷ []
  pub goes : (new : List Event) → core_of new ≡ core_of own ++ items_of event → IsBehind rules whole new rest

pub due-next : (rules : Rules) (whole own : List Event) (told : Told) (rest : List Told) → IsLegal rules whole → IsBehind rules whole own (told ∷ rest)
    → IsDue rules whole own told rest
due-next rules whole own told rest legal behind =
    let next = next-told rules behind.front behind.back told rest behind.to_tell in
    let before = behind.front ++ next.mid in
    let parts : whole ≡ before ++ next.event ∷ next.later =
    behind.parts ∙ ap (λ (l : List Event). behind.front ++ l) next.parts ∙ sym (append_assoc behind.front next.mid (next.event ∷ next.later)) in
    let all = subst (IsLegal rules) parts legal in
    let core : core_of before ≡ core_of own =
    core_of-append behind.front next.mid
    ∙ ap (λ (l : List Item). core_of behind.front ++ l) next.quiet
    ∙ append-nil (core_of behind.front)
    ∙ behind.same_core in
    record {
      before = before;
      event = next.event;
      same_core = core;
      legal = after-front (IsRight rules) [] before (next.event ∷ next.later) all;
      right = (after-rest (IsRight rules) [] before (next.event ∷ next.later) all).0;
      tells = next.tells;
      goes = λ new is. record {
        front = before ++ next.event ∷ [];
        back = next.later;
        parts = parts ∙ sym (append_assoc before (next.event ∷ []) next.later);
        same_core = core_of-push before next.event ∙ ap (λ (l : List Item). l ++ items_of next.event) core ∙ sym is;
        to_tell = next.left;
      };
    }

-- a change that is told is one that is accepted
pub record IsDueChange (rules : Rules) (whole own : List Event) (caller : ℕ) (change : Change) (rest : List Told) : Type 0 where
  pub before : List Event
  pub from : ℕ
  pub verdict : Verdict
  pub trail : List ℕ
  pub same_core : core_of before ≡ core_of own
  pub legal : IsLegal rules before
  pub right : IsRightAnswer rules before change from verdict trail
  pub accepted : is_accepted verdict ≡ true
  pub goes : (new : List Event) → core_of new ≡ core_of own ++ changed caller change ∷ [] → IsBehind rules whole new rest

record SameChange (caller asker : ℕ) (change wanted : Change) (b : Bool) : Type 0 where
  pub caller_is : caller ≡ asker
  pub change_is : change ≡ wanted
  pub accepted : b ≡ true

same-change : (caller asker : ℕ) (change wanted : Change) (b : Bool) → (if b then tell.Change caller change ∷ [] else []) ≡ tell.Change asker wanted ∷ []
    → SameChange caller asker change wanted b
same-change caller asker change wanted true is = record { caller_is = cc; change_is = cc; accepted = refl }
same-change caller asker change wanted false is = absurd (cc)

due-change-by : (rules : Rules) (whole own before : List Event) (event : Event) (caller : ℕ) (change : Change) (rest : List Told) → core_of before ≡ core_of own
    → IsLegal rules before → IsRight rules before event → told_of rules before event ≡ tell.Change caller change ∷ []
    → ((new : List Event) → core_of new ≡ core_of own ++ items_of event → IsBehind rules whole new rest) → IsDueChange rules whole own caller change rest
due-change-by rules whole own before (Submit asker wanted from verdict trail) caller change rest core legal right tells goes =
    let same = same-change asker caller wanted change (is_accepted verdict) tells in
    record {
      before = before;
      from = from;
      verdict = verdict;
      trail = trail;
      same_core = core;
      legal = legal;
      right = subst (λ (c : Change). IsRightAnswer rules before c from verdict trail) same.change_is right;
      accepted = same.accepted;
      goes = λ new is.
          goes new
          (is
          ∙ ap (λ (c : Change). core_of own ++ changed caller c ∷ []) (sym same.change_is)
          ∙ ap (λ (n : ℕ). core_of own ++ changed n wanted ∷ []) (sym same.caller_is)
          ∙ ap (λ (b : Bool). core_of own ++ (if b then changed asker wanted ∷ [] else [])) (sym same.accepted));
    }
due-change-by rules whole own before (Look asker next) caller change rest core legal right tells goes = absurd (cc)
due-change-by rules whole own before (Open cycle mask) caller change rest core legal right tells goes = absurd (cc)

pub due-change : (rules : Rules) (whole own : List Event) (caller : ℕ) (change : Change) (rest : List Told) → IsLegal rules whole
    → IsBehind rules whole own (tell.Change caller change ∷ rest) → IsDueChange rules whole own caller change rest
due-change rules whole own caller change rest legal behind =
    let due = due-next rules whole own (tell.Change caller change) rest legal behind in
    due-change-by rules whole own due.before due.event caller change rest due.same_core due.legal due.right due.tells due.goes

-- an opening that is right behind the first master's history is the standby's next one
pub record IsOwnNext (rules : Rules) (own : List Event) (cycle mask : ℕ) : Type 0 where
  pub cycle_is : cycle ≡ next_of own
  pub mask_is : mask ≡ planned_of (record { rules = rules; history = own })

pub own-next : (rules : Rules) (whole own : List Event) (cycle mask : ℕ) → core_of whole ≡ core_of own → IsRight rules whole (Open cycle mask)
    → IsOwnNext rules own cycle mask
own-next rules whole own cycle mask core right =
    let at : cycle ≡ next_of own = right.0 ∙ next-core whole own core in
    record {
      cycle_is = at;
      mask_is =
          right.1
          ∙ ap (λ (l : List Placed). mask_at (plan_of rules l) cycle) (placed-core whole own core)
          ∙ ap (λ (n : ℕ). mask_at (plan_of rules (placed_of own)) n) at;
    }

-- and its trigger frames are those that are due
pub frames-due : (rules : Rules) (whole own : List Event) (cycle mask : ℕ) → core_of whole ≡ core_of own → IsRight rules whole (Open cycle mask)
    → triggers_with rules.slots cycle (width_in (placed_of whole) cycle (has_bit mask)) mask ≡ due_frames (record { rules = rules; history = own })
frames-due rules whole own cycle mask core right =
    let next = own-next rules whole own cycle mask core right in
    ap (λ (l : List Placed). triggers_with rules.slots cycle (width_in l cycle (has_bit mask)) mask) (placed-core whole own core)
    ∙ ap (λ (n : ℕ). triggers_with rules.slots n (width_in (placed_of own) n (has_bit mask)) mask) next.cycle_is
    ∙ ap (λ (m : ℕ). triggers_with rules.slots (next_of own) (width_in (placed_of own) (next_of own) (has_bit m)) m) next.mask_is

-- trigger frames that are told are those that are due
pub record IsDueTrigger (rules : Rules) (whole own : List Event) (frames : List DataFrame) (rest : List Told) : Type 0 where
  pub frames_are : frames ≡ due_frames (record { rules = rules; history = own })
  pub goes : (new : List Event)
      → core_of new ≡ core_of own ++ opened (next_of own) (planned_of (record { rules = rules; history = own })) ∷ [] → IsBehind rules whole new rest

same-frames : (frames others : List DataFrame) → tell.Trigger frames ∷ [] ≡ tell.Trigger others ∷ [] → others ≡ frames
same-frames frames others is = cc

due-trigger-by : (rules : Rules) (whole own before : List Event) (event : Event) (frames : List DataFrame) (rest : List Told) → core_of before ≡ core_of own
    → IsRight rules before event → told_of rules before event ≡ tell.Trigger frames ∷ []
    → ((new : List Event) → core_of new ≡ core_of own ++ items_of event → IsBehind rules whole new rest) → IsDueTrigger rules whole own frames rest
due-trigger-by rules whole own before (Submit asker wanted from verdict trail) frames rest core right tells goes = absurd (by-if (is_accepted verdict) tells)
  where
    by-if : (b : Bool) → (if b then tell.Change asker wanted ∷ [] else []) ≡ tell.Trigger frames ∷ [] → ⊥
    by-if true is = cc
    by-if false is = cc
due-trigger-by rules whole own before (Look asker next) frames rest core right tells goes = absurd (cc)
due-trigger-by rules whole own before (Open cycle mask) frames rest core right tells goes =
    let next = own-next rules before own cycle mask core right in
    record {
      frames_are = same-frames _ frames tells ∙ frames-due rules before own cycle mask core right;
      goes = λ new is.
          goes new
          (is
          ∙ ap (λ (n : ℕ). core_of own ++ opened n (planned_of (record { rules = rules; history = own })) ∷ []) (sym next.cycle_is)
          ∙ ap (λ (m : ℕ). core_of own ++ opened cycle m ∷ []) (sym next.mask_is));
    }

pub due-trigger : (rules : Rules) (whole own : List Event) (frames : List DataFrame) (rest : List Told) → IsLegal rules whole
    → IsBehind rules whole own (tell.Trigger frames ∷ rest) → IsDueTrigger rules whole own frames rest
due-trigger rules whole own frames rest legal behind =
    let due = due-next rules whole own (tell.Trigger frames) rest legal behind in
    due-trigger-by rules whole own due.before due.event frames rest due.same_core due.right due.tells due.goes

-- nothing is left to be told: the core is that of the whole

none-by : (rules : Rules) (front : List Event) (event : Event) (later : List Event) → ([] ≡ told_after rules (front ++ event ∷ []) later → core_of later ≡ [])
    → Tells rules front event → [] ≡ told_of rules front event ++ told_after rules (front ++ event ∷ []) later → core_of (event ∷ later) ≡ []
none-by rules front event later rest (nothing none silent) is =
    core_of-cons event later
    ∙ ap (λ (l : List Item). l ++ core_of later) none
    ∙ rest (is ∙ ap (λ (l : List Told). l ++ told_after rules (front ++ event ∷ []) later) silent)
none-by rules front event later rest (one_thing x one) is =
    absurd (let some = is ∙ ap (λ (l : List Told). l ++ told_after rules (front ++ event ∷ []) later) one in cc)

none-left : (rules : Rules) (front back : List Event) → [] ≡ told_after rules front back → core_of back ≡ []
none-left rules front [] is = refl
none-left rules front (event ∷ later) is =
    none-by rules front event later (λ more. none-left rules (front ++ event ∷ []) later more) (tells-event rules front event) is

pub nothing-left : (rules : Rules) (whole own : List Event) → IsBehind rules whole own [] → core_of whole ≡ core_of own
nothing-left rules whole own behind =
    ap core_of behind.parts
    ∙ core_of-append behind.front behind.back
    ∙ ap (λ (l : List Item). core_of behind.front ++ l) (none-left rules behind.front behind.back behind.to_tell)
    ∙ append-nil (core_of behind.front)
    ∙ behind.same_core
