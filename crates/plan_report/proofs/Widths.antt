-- The widths of opened cycles, slot by slot and event by event.
use Rattle.std.proofs.Common.{◌≡◌, ℕ, suc, ◌+◌, ◌-◌, ◌<◌, ◌≤◌, ◌==◌, ◌&&◌, not, true, false, cond, Option, Some, None, IfSome, List, ◌∷◌, ◌++◌, length, drop, get_or, slice_get, nat_le, refl, sym, ap, subst, ◌∙◌, arith, append_assoc, Contains}
use Rattle.std.specs.Option.{option_map_or}
use Rattle.std.proofs.lemmas.Bool.{eq-eqb, leb-true, le-leb, ne_eqb}
use Rattle.std.proofs.lemmas.Nat.{mod_below}
use Rattle.std.proofs.lemmas.Option.{slice_get-get_or}
use Rattle.std.proofs.Math.Seq.{drop-cons}
use Rattle.requirement_table.specs.declared.entries.Placed.{Placed}
use Rattle.requirement_table.specs.Instance.{Instance, MaySend, latest, release_of, worst, worst_of}
use Rattle.bit_sets.specs.Sets.{has_bit, most_slots, sum_where}
use Rattle.requirement_table.specs.Table.{IsInRange, IsWellPlaced, free_from, instance_in, is_over, worst_in}
use Rattle.requirement_table.proofs.Shared.{instance_in-found, instance_in-sound, instance_of-sent, period-parts}
use Rattle.bit_sets.proofs.Shared.{none-of, sum_where-none, sum_where-without}
use Rattle.bit_sets.specs.Least.{least_where}
use Rattle.plan_report.specs.Current.{AreEntriesPassed, IsCurrentInstance, IsTheOne}
use Rattle.plan_report.specs.declared.current.CurrentInstance.{CurrentInstance}
use Rattle.master_core.specs.declared.event.Event.{Event}
use Rattle.master_core.specs.History.{is_open}
use Rattle.plan_report.specs.Opened.{load_of, opened_width, opened_widths}
use Rattle.plan_report.specs.declared.load.Load.{Load}

-- Slots

-- what is over stays over
pub passed-later : (placed : List Placed) (places : List ℕ) (c d : ℕ) → c ≤ d → AreEntriesPassed placed places c → AreEntriesPassed placed places d
passed-later placed places c d on passed = λ slot place p known before there of_slot. over p (passed slot place p known before there of_slot)
  where
    by : (from : Option ℕ) → option_map_or (λ f. nat_le f c) from false ≡ true → option_map_or (λ f. nat_le f d) from false ≡ true
    by None over = over
    by (Some f) over = let past = leb-true f c over in le-leb f d (omega arith)

    over : (p : Placed) → is_over c p ≡ true → is_over d p ≡ true
    over p is = by (free_from p) is

-- what the slot costs is the worst length of the entry that may send
pub worst-found : (placed : List Placed) (slot cycle c number : ℕ) (found : CurrentInstance) → IsWellPlaced placed → IsTheOne placed slot cycle found
    → MaySend found.placed number c → worst_in placed c slot ≡ worst found.placed.entry.length
worst-found placed slot cycle c number found well one sends =
    let is : instance_in placed slot c ≡ Some (record { placed = found.placed; number = number }) =
    subst (λ s. instance_in placed s c ≡ Some (record { placed = found.placed; number = number })) one.of_slot
    (instance_in-found placed well found.place number c found.placed one.here sends) in
    ap (λ o. option_map_or worst_of o 0) is

sooner : (end : Option ℕ) (release c : ℕ) → release ≤ c → IfSome end (λ e. c < e) → IfSome end (λ e. release < e)
sooner None release c before there = tt
sooner (Some e) release c before there = omega (arith, before, there)

-- an entry whose deadline is its period may send in each cycle from a first one on, up to its end
pub goes-on : (p : Placed) (number cycle c : ℕ) → p.entry.period ≤ p.entry.deadline → 1 ≤ p.entry.period → MaySend p number cycle → cycle ≤ c
    → IfSome p.end (λ e. c < e) → (k : ℕ) × MaySend p k c
goes-on p number cycle c whole some sends on there =
    let k = latest p c in
    let since = c - (p.origin + p.entry.phase) in
    let released = sends.released in
    let parts = period-parts since p.entry.period k refl in
    let rest = mod_below since p.entry.period (omega (arith, some)) in
    let before : release_of p k ≤ c = omega (arith, parts, released, on) in (
      k,
      record {
        exists = sooner p.end (release_of p k) c before there;
        released = before;
        in_time = omega (arith, parts, rest, released, on, whole);
      },
    )

-- it is nothing where no entry may
pub worst-none : (placed : List Placed) (slot cycle : ℕ) → IsWellPlaced placed → IsCurrentInstance placed slot cycle None → worst_in placed cycle slot ≡ 0
worst-none placed slot cycle well none = by (instance_in placed slot cycle) (instance_in-sound placed slot cycle)
  where
    by : (o : Option Instance) → IfSome o (λ i. Contains placed i.placed × (i.placed.entry.slot ≡ slot) × MaySend i.placed i.number cycle)
        → option_map_or worst_of o 0 ≡ 0
    by None sound = refl
    by (Some i) sound =
        let place = sound.0.0 in
        let there : slice_get placed place ≡ Some i.placed = slice_get-get_or placed place i.placed sound.0.1 ∙ ap (λ x. Some x) sound.0.2 in
        let range : IsInRange i.placed = subst IsInRange sound.0.2 (well.in_range place i.placed sound.0.1) in
        let number = instance_of-sent i.placed i.number cycle range.entry.deadline sound.2 in
        let nothing = none place i.placed there sound.1 in
        absurd (let no : ⊥ = cc in no)

-- Sets of slots

-- a set without a slot costs nothing
pub sum-empty : (set : ℕ) (f : ℕ → ℕ) → least_where most_slots (has_bit set) ≡ None → sum_where most_slots (has_bit set) f ≡ 0
sum-empty set f none = sum_where-none most_slots (has_bit set) f (none-of set none)

-- what a set costs without one of its slots, and what this slot costs
pub sum-without : (set rest slot : ℕ) (f : ℕ → ℕ) → slot < most_slots → has_bit set slot ≡ true
    → ((s : ℕ) → has_bit rest s ≡ (not (s == slot) && has_bit set s))
    → sum_where most_slots (has_bit rest) f + f slot ≡ sum_where most_slots (has_bit set) f
sum-without set rest slot f below has without =
    sum_where-without most_slots slot (has_bit set) (has_bit rest) f below has
    (without slot ∙ ap (λ b. not b && has_bit set slot) (eq-eqb slot slot refl))
    (λ s _ other. without s ∙ ap (λ b. not b && has_bit set s) (ne_eqb s slot other))

-- Events

-- the load is that of the widths before cycle `next`, and those of the events that are left come behind them
pub record IsLoaded (placed : List Placed) (history : List Event) (load : Load) (next : ℕ) (left : List Event) : Type 0 where
  pub widths : List ℕ
  pub load_is : load ≡ load_of widths
  pub all : widths ++ opened_widths placed next left ≡ opened_widths placed 0 history

-- one event more
pub loaded-next : (placed : List Placed) (history : List Event) (load more : Load) (next step i : ℕ) (event : Event) → i < length history
    → event ≡ get_or history i event → step ≡ cond (is_open event) 1 0
    → ((widths : List ℕ) → load ≡ load_of widths → more ≡ load_of (widths ++ opened_width placed next event))
    → IsLoaded placed history load next (drop i history) → IsLoaded placed history more (next + step) (drop (i + 1) history)
loaded-next placed history load more next step i event within here count adds is =
    let follows : suc i ≡ i + 1 = omega arith in
    let rest : drop i history ≡ event ∷ drop (i + 1) history =
    drop-cons history i event within ∙ ap (λ e. e ∷ drop (suc i) history) (sym here) ∙ ap (λ n. event ∷ drop n history) follows in
    record {
      widths = is.widths ++ opened_width placed next event;
      load_is = adds is.widths is.load_is;
      all = append_assoc is.widths (opened_width placed next event) _
          ∙ ap (λ n. is.widths ++ (opened_width placed next event ++ opened_widths placed (next + n) (drop (i + 1) history))) count
          ∙ ap (λ l. is.widths ++ opened_widths placed next l) (sym rest)
          ∙ is.all;
    }
