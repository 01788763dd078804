-- What may follow one history may follow another one with the same core.
use Rattle.std.proofs.Common.{◌≡◌, ℕ, ◌≤◌, Bool, true, false, if◌then◌else◌, List, [], ◌∷◌, ◌++◌, map, refl, sym, ap, ◌∙◌, subst, append_assoc}
use Rattle.std.proofs.lemmas.List.{append-nil}
use Rattle.admission.specs.Verdict.{is_accepted, plan_from, trail_of, IsVerdict}
use Rattle.admission.specs.declared.verdict.Verdict.{Verdict}
use Rattle.admission_rules.specs.declared.Rules.{Rules}
use Rattle.change_protocol.specs.Applied.{applied}
use Rattle.change_protocol.specs.declared.operations.Change.{Change}
use Rattle.master_core.specs.Calls.{call_of}
use Rattle.master_core.specs.History.{placed_of, next_of, accepts, IsSince, IsRight, IsRightAnswer, AllAfter, IsLegal, IsPlannedNow, IsPlainlyLegal, plan_of}
use Rattle.master_core.specs.declared.event.Event.{Event}
use Rattle.master_core.specs.declared.event.Event.TheVariants.{Submit, Look, Open}
use Rattle.master_core.specs.Orders.{IsOrder}
use Rattle.master_core.proofs.Shared.{OneVerdict, same-events}
use Rattle.planner_policies.specs.Plan.{mask_at, pending_at}
use Rattle.requirement_table.specs.declared.entries.Order.{Order}
use Rattle.requirement_table.specs.declared.entries.Placed.{Placed}
use Rattle.bit_sets.specs.Sets.{has_bit}
use Rattle.requirement_table.specs.Table.{instance_in, width_in}
use Rattle.standby.specs.Core.{Item, changed, opened, items_of, core_of}
use Rattle.standby.proofs.Cores.{core_of-append, core_of-cons, core_of-push, learned-core, next-core, placed-core}

-- The place of an item

-- an event of a history that leaves this item, behind the events that leave those before it
pub record IsLeft (history : List Event) (front : List Item) (item : Item) : Type 0 where
  pub before : List Event
  pub event : Event
  pub behind : List Event
  pub parts : history ≡ before ++ event ∷ behind
  pub front_is : core_of before ≡ front
  pub leaves : items_of event ≡ item ∷ []

-- an event leaves nothing, or one item
pub data Leaves (items : List Item) : Type 0 where
  nothing : items ≡ [] → Leaves items
  one_item : (item : Item) → items ≡ item ∷ [] → Leaves items

leaves-if : (caller : ℕ) (change : Change) (b : Bool) → Leaves (if b then changed caller change ∷ [] else [])
leaves-if caller change true = one_item (changed caller change) refl
leaves-if caller change false = nothing refl

pub leaves-event : (event : Event) → Leaves (items_of event)
leaves-event (Submit caller change from verdict trail) = leaves-if caller change (is_accepted verdict)
leaves-event (Look caller next) = nothing refl
leaves-event (Open cycle mask) = one_item (opened cycle mask) refl

record SameParts (one other : Item) (ones others : List Item) : Type 0 where
  pub head : one ≡ other
  pub tail : ones ≡ others

same-parts : (one other : Item) (ones others : List Item) → one ∷ ones ≡ other ∷ others → SameParts one other ones others
same-parts one other ones others is = record { head = cc; tail = cc }

-- behind one event more
left-later : (event : Event) (later : List Event) (first : List Item) (front : List Item) (item : Item) → items_of event ≡ first → IsLeft later front item
    → IsLeft (event ∷ later) (first ++ front) item
left-later event later first front item is left = record {
  before = event ∷ left.before;
  event = left.event;
  behind = left.behind;
  parts = ap (λ (l : List Event). event ∷ l) left.parts;
  front_is = core_of-cons event left.before ∙ ap (λ (l : List Item). l ++ core_of left.before) is ∙ ap (λ (l : List Item). first ++ l) left.front_is;
  leaves = left.leaves;
}

-- in the rest of a history, or at its first event
find-behind : (event : Event) (later : List Event) (front back : List Item) (item : Item)
    → ((front : List Item) → core_of later ≡ front ++ item ∷ back → IsLeft later front item) → Leaves (items_of event)
    → items_of event ++ core_of later ≡ front ++ item ∷ back → IsLeft (event ∷ later) front item
find-behind event later front back item find (nothing none) is =
    left-later event later [] front item none (find front (sym (ap (λ (l : List Item). l ++ core_of later) none) ∙ is))
find-behind event later [] back item find (one_item x one) is =
    let parts = same-parts x item (core_of later) back (sym (ap (λ (l : List Item). l ++ core_of later) one) ∙ is) in
    record {
      before = [];
      event = event;
      behind = later;
      parts = refl;
      front_is = refl;
      leaves = one ∙ ap (λ (i : Item). i ∷ []) parts.head;
    }
find-behind event later (y ∷ front) back item find (one_item x one) is =
    let parts = same-parts x y (core_of later) (front ++ item ∷ back) (sym (ap (λ (l : List Item). l ++ core_of later) one) ∙ is) in
    left-later event later (y ∷ []) front item (one ∙ ap (λ (i : Item). i ∷ []) parts.head) (find front parts.tail)

pub find-item : (history : List Event) (front back : List Item) (item : Item) → core_of history ≡ front ++ item ∷ back → IsLeft history front item
find-item [] [] back item is = absurd (cc)
find-item [] (x ∷ front) back item is = absurd (cc)
find-item (event ∷ later) front back item is =
    find-behind event later front back item (λ first rest. find-item later first back item rest) (leaves-event event) (sym (core_of-cons event later) ∙ is)

-- an accepted change leaves an item, and what leaves a change is one
record IsChange (event : Event) : Type 0 where
  pub caller : ℕ
  pub change : Change
  pub leaves : items_of event ≡ changed caller change ∷ []

accepted-leaves : (event : Event) → accepts event ≡ true → IsChange event
accepted-leaves (Submit caller change from verdict trail) accepted = record {
  caller = caller;
  change = change;
  leaves = ap (λ (b : Bool). if b then changed caller change ∷ [] else []) accepted;
}
accepted-leaves (Look caller next) accepted = absurd (cc)
accepted-leaves (Open cycle mask) accepted = absurd (cc)

pub change-accepts : (event : Event) (caller : ℕ) (change : Change) → items_of event ≡ changed caller change ∷ [] → accepts event ≡ true
change-accepts (Submit caller change from verdict trail) asker wanted leaves = by-if caller change asker wanted (is_accepted verdict) leaves
  where
    by-if : (caller : ℕ) (change : Change) (asker : ℕ) (wanted : Change) (b : Bool) → (if b then changed caller change ∷ [] else []) ≡ changed asker wanted ∷ []
        → b ≡ true
    by-if caller change asker wanted true leaves = refl
    by-if caller change asker wanted false leaves = absurd (cc)
change-accepts (Look caller next) asker wanted leaves = absurd (cc)
change-accepts (Open cycle mask) asker wanted leaves = absurd (cc)

-- no change was accepted since, by the core
pub since-core : (one other : List Event) (from : ℕ) → core_of one ≡ core_of other → IsSince one from → IsSince other from
since-core one other from same since front back event parts accepted =
    let is = accepted-leaves event accepted in
    let core : core_of one ≡ core_of front ++ changed is.caller is.change ∷ core_of back =
    same
    ∙ ap core_of parts
    ∙ core_of-append front (event ∷ back)
    ∙ ap (λ (l : List Item). core_of front ++ l) (core_of-cons event back ∙ ap (λ (l : List Item). l ++ core_of back) is.leaves) in
    let left = find-item one (core_of front) (core_of back) (changed is.caller is.change) core in
    let early = since left.before left.behind left.event left.parts (change-accepts left.event is.caller is.change left.leaves) in
    let count : next_of left.before ≡ next_of front = next-core left.before front left.front_is in
    subst (λ (n : ℕ). n ≤ from) count early

-- What is right behind a history

answer-by : (rules : Rules) (one other : List Event) (change : Change) (from : ℕ) (verdict : Verdict) (trail : List ℕ) → placed_of one ≡ placed_of other
    → next_of one ≡ next_of other → IsSince other from → IsRightAnswer rules one change from verdict trail → IsRightAnswer rules other change from verdict trail
answer-by rules one other change from verdict trail placed next since right = record {
  room = right.room;
  types = right.types;
  since = since;
  opened = subst (λ (n : ℕ). from ≤ n) next right.opened;
  answer =
      subst (λ (n : ℕ). IsVerdict rules (placed_of other) (pending_at (plan_of rules (placed_of other)) from) from n change verdict) next
      (subst (λ (l : List Placed). IsVerdict rules l (pending_at (plan_of rules l) from) from (next_of one) change verdict) placed right.answer);
  plan =
      subst (λ (l : List Placed). trail ≡ trail_of (plan_from rules (applied l change) from (pending_at (plan_of rules l) from)) verdict) placed right.plan;
}

pub right-core : (rules : Rules) (one other : List Event) (event : Event) → core_of one ≡ core_of other → IsRight rules one event → IsRight rules other event
right-core rules one other (Submit caller change from verdict trail) same right =
    answer-by rules one other change from verdict trail (placed-core one other same) (next-core one other same) (since-core one other from same right.since) right
right-core rules one other (Look caller next) same right = right ∙ next-core one other same
right-core rules one other (Open cycle mask) same right = (
  right.0 ∙ next-core one other same,
  right.1 ∙ ap (λ (l : List Placed). mask_at (plan_of rules l) cycle) (placed-core one other same),
)

now-core : (one other : List Event) (event : Event) → core_of one ≡ core_of other → IsPlannedNow one event → IsPlannedNow other event
now-core one other (Submit caller change from verdict trail) same now = now ∙ next-core one other same
now-core one other (Look caller next) same now = tt
now-core one other (Open cycle mask) same now = tt

-- the order of the next cycle
pub order-core : (rules : Rules) (one other : List Event) (order : Order) → core_of one ≡ core_of other → IsOrder rules one order → IsOrder rules other order
order-core rules one other order same is =
    let placed = placed-core one other same in
    let next = next-core one other same in
    record {
      cycle = is.cycle ∙ next;
      mask =
          is.mask
          ∙ ap (λ (l : List Placed). mask_at (plan_of rules l) (next_of one)) placed
          ∙ ap (λ (n : ℕ). mask_at (plan_of rules (placed_of other)) n) next;
      window =
          is.window
          ∙ ap (λ (l : List Placed). width_in l (next_of one) (has_bit order.mask)) placed
          ∙ ap (λ (n : ℕ). width_in (placed_of other) n (has_bit order.mask)) next;
      learned = is.learned ∙ learned-core one other same;
      fits = is.fits;
      slots = is.slots;
      present = λ slot known flagged.
          let found = is.present slot known flagged in (
            found.0,
            ap (λ (l : List Placed). instance_in l slot (next_of other)) (sym placed)
                ∙ ap (λ (n : ℕ). instance_in (placed_of one) slot n) (sym next)
                ∙ found.1,
          );
    }

-- What follows

-- what goes by the core alone goes on behind each history with the core
module _ (holds : List Event → Event → Type 0)
    (by_core : (one other : List Event) (event : Event) → core_of one ≡ core_of other → holds one event → holds other event) where
  pub after-core : (one other later : List Event) → core_of one ≡ core_of other → AllAfter holds one later → AllAfter holds other later
  after-core one other [] same all = tt
  after-core one other (event ∷ later) same all = (
    by_core one other event same all.0,
    after-core (one ++ event ∷ []) (other ++ event ∷ []) later
        (core_of-push one event ∙ ap (λ (l : List Item). l ++ items_of event) same ∙ sym (core_of-push other event)) all.1,
  )

module _ (holds : List Event → Event → Type 0) where
  pub after-rest : (before front back : List Event) → AllAfter holds before (front ++ back) → AllAfter holds (before ++ front) back
  after-rest before [] back all = subst (λ (h : List Event). AllAfter holds h back) (sym (append-nil before)) all
  after-rest before (event ∷ front) back all =
      subst (λ (h : List Event). AllAfter holds h back) (append_assoc before (event ∷ []) front) (after-rest (before ++ event ∷ []) front back all.1)

  pub after-front : (before front back : List Event) → AllAfter holds before (front ++ back) → AllAfter holds before front
  after-front before [] back all = tt
  after-front before (event ∷ front) back all = (all.0, after-front (before ++ event ∷ []) front back all.1)

  pub after-both : (before front back : List Event) → AllAfter holds before front → AllAfter holds (before ++ front) back → AllAfter holds before (front ++ back)
  after-both before [] back all more = subst (λ (h : List Event). AllAfter holds h back) (append-nil before) more
  after-both before (event ∷ front) back all more = (
    all.0,
    after-both (before ++ event ∷ []) front back all.1
        (subst (λ (h : List Event). AllAfter holds h back) (sym (append_assoc before (event ∷ []) front)) more),
  )

pub legal-on : (rules : Rules) (one other later : List Event) → core_of one ≡ core_of other → IsLegal rules one → IsLegal rules (other ++ later)
    → IsLegal rules (one ++ later)
legal-on rules one other later same legal both =
    after-both (IsRight rules) [] one later legal
    (after-core (IsRight rules) (right-core rules) other one later (sym same) (after-rest (IsRight rules) [] other later both))

pub plain-on : (rules : Rules) (one other later : List Event) → core_of one ≡ core_of other → IsPlainlyLegal rules one → IsPlainlyLegal rules (other ++ later)
    → IsPlainlyLegal rules (one ++ later)
plain-on rules one other later same plain both = record {
  legal = legal-on rules one other later same plain.legal both.legal;
  now =
      after-both IsPlannedNow [] one later plain.now
      (after-core IsPlannedNow now-core other one later (sym same) (after-rest IsPlannedNow [] other later both.now));
}

-- The same calls

-- behind two histories with one core the same calls have the same answers
pub events-on : OneVerdict → (rules : Rules) (one other later also : List Event) → core_of one ≡ core_of other → AllAfter (IsRight rules) one later
    → AllAfter IsPlannedNow one later → AllAfter (IsRight rules) other also → AllAfter IsPlannedNow other also → map call_of later ≡ map call_of also
    → later ≡ also
events-on verdicts rules one other later also same right now right2 now2 calls =
    same-events verdicts rules one later also calls right now (after-core (IsRight rules) (right-core rules) other one also (sym same) right2)
    (after-core IsPlannedNow now-core other one also (sym same) now2)
