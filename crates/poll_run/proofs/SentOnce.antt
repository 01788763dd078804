-- A request is sent at most once, and the requests of a slot in the order of the file.
use Rattle.std.proofs.Common.{◌≡◌, ℕ, ◌+◌, ◌-◌, ◌<◌, ◌≤◌, ◌↔◌, ◌&&◌, Bool, true, false, List, All, Option, Some, None, option_map, refl, sym, ap, ◌∙◌, subst, arith, inl, inr, zero-add}
use Rattle.std.specs.Prelude.{IsSomeAnd}
use Rattle.std.specs.List.{slice_get}
use Rattle.std.proofs.lemmas.Bool.{cases_lt, false≢true, lt-ltb}
use Rattle.std.proofs.lemmas.List.Elements.{All-contains}
use Rattle.std.proofs.lemmas.Option.{same_Some}
use Rattle.requirement_table.specs.declared.entries.Placed.{Placed}
use Rattle.requirement_table.specs.Flags.{HasWaiting, IsGoodCycle, waits}
use Rattle.requirement_table.specs.Instance.{Instance, MaySend, release_of}
use Rattle.requirement_table.specs.Opening.{Opening}
use Rattle.bit_sets.specs.Sets.{has_bit, most_slots}
use Rattle.requirement_table.specs.Table.{IsWellPlaced, instance_in}
use Rattle.requirement_table.proofs.Shared.{found-in, found-of}
use Rattle.bit_sets.proofs.Shared.{has_bit-none, has_bit-set_of}
use Rattle.change_protocol.specs.Applied.{without_end}
use Rattle.planner_policies.specs.Plan.{HasNoMiss, NeverMisses, Planning, flags_of, mask_at, planned_at}
use Rattle.admission_rules.specs.declared.Rules.{Rules}
use Rattle.master_core.specs.declared.event.Event.{Event}
use Rattle.master_core.specs.History.{IsLegal, placed_of, plan_of}
use Rattle.master_core.specs.Openings.{openings_of}
use Rattle.sporadic_poll.specs.declared.stream.Stream.{Stream}
use Rattle.sporadic_poll.specs.Ride.{IsRide}
use Rattle.sporadic_poll.specs.Rides.{IsRidden}

-- the cycle of an instance's release
abbrev its_release : Instance → ℕ
its_release i = release_of i.placed i.number

-- it is the same with an end and without
without : (o : Option Instance) → option_map its_release (option_map without_end o) ≡ option_map its_release o
without o = grind arith

same-release : (one other : Option Instance) → option_map without_end one ≡ option_map without_end other
    → option_map its_release one ≡ option_map its_release other
same-release one other same = sym (without one) ∙ ap (option_map its_release) same ∙ without other

of-release : (o : Option Instance) (release : ℕ) → option_map its_release o ≡ Some release → (i : Instance) × (o ≡ Some i) × (its_release i ≡ release)
of-release o release is = grind (arith, same_Some)

-- what laws of the crates below say of a history, of plans, and of *Ride*
pub record OnceLaws : Type 0 where
  pub well_placed : (rules : Rules) (history : List Event) → IsLegal rules history → IsWellPlaced (placed_of history)
  pub in_time : (rules : Rules) (history : List Event) → IsLegal rules history → NeverMisses (plan_of rules (placed_of history))
  pub masks : (rules : Rules) (history : List Event) → IsLegal rules history
      → All (λ o. o.mask ≡ mask_at (plan_of rules (placed_of history)) o.cycle) (openings_of history)
  pub instances : (rules : Rules) (history : List Event) → IsLegal rules history
      → All (λ o. (slot : ℕ) → option_map without_end (instance_in o.placed slot o.cycle) ≡ option_map without_end (instance_in (placed_of history) slot o.cycle))
      (openings_of history)
  pub good : (plan : Planning) (n m : ℕ) → HasNoMiss plan n → m < n → IsGoodCycle plan.placed (flags_of plan) plan.from (has_bit plan.pending) m
  pub within : (placed : List Placed) (flags : ℕ → ℕ → Bool) (from n : ℕ) (held : ℕ → Bool) → IsWellPlaced placed
      → ((slot : ℕ) → held slot ≡ true → IsSomeAnd (instance_in placed slot from) (λ i. release_of i.placed i.number < from))
      → ((m : ℕ) → m < n → IsGoodCycle placed flags from held m)
      → (slot : ℕ) → (waits placed flags from held n slot ≡ true) ↔ HasWaiting placed flags from held (from + n) slot
  pub once : (layout_cycle : ℕ) (streams : List Stream) (slot : ℕ) (lengths carried : ℕ → Option ℕ) → IsRide layout_cycle streams slot lengths carried
      → (one other place : ℕ) → carried one ≡ Some place → carried other ≡ Some place → one ≡ other
  pub order : (layout_cycle : ℕ) (streams : List Stream) (slot : ℕ) (lengths carried : ℕ → Option ℕ) → IsRide layout_cycle streams slot lengths carried
      → (one other before behind : ℕ) → carried one ≡ Some before → carried other ≡ Some behind → before < behind → one < other

module _ (laws : OnceLaws) (rules : Rules) (history : List Event) (legal : IsLegal rules history) where
  abbrev placed : List Placed
  placed = placed_of history

  abbrev plan : Planning
  plan = plan_of rules placed

  abbrev flags : ℕ → ℕ → Bool
  flags = flags_of plan

  well : IsWellPlaced placed
  well = laws.well_placed rules history legal

  mask-flags : (c slot : ℕ) → slot < most_slots → has_bit (mask_at plan c) slot ≡ flags c slot
  mask-flags c slot known = grind (arith, has_bit-set_of, lt-ltb)

  good : (n m : ℕ) → m < n → IsGoodCycle placed flags 0 (has_bit 0) m
  good n m before = laws.good plan n m (λ c slot _ known. laws.in_time rules history legal c slot known) before

  none-held : (slot : ℕ) → has_bit 0 slot ≡ true → IsSomeAnd (instance_in placed slot 0) (λ i. release_of i.placed i.number < 0)
  none-held slot held = absurd (false≢true (sym (has_bit-none slot) ∙ held))

  -- where a slot is flagged, it was not flagged before since the release of its instance
  unsent-before : (slot cycle : ℕ) (i : Instance) → slot < most_slots → flags cycle slot ≡ true → instance_in placed slot cycle ≡ Some i
      → (earlier : ℕ) → its_release i ≤ earlier → earlier < cycle → flags earlier slot ≡ false
  unsent-before slot cycle i known flagged is earlier after before =
      let start : 0 + cycle ≡ cycle = zero-add cycle in
      let waiting_now = (good (cycle + 1) cycle (omega arith)).holding slot known (subst (λ (c : ℕ). flags c slot ≡ true) (sym start) flagged) in
      let has : HasWaiting placed flags 0 (has_bit 0) (0 + cycle) slot =
      (laws.within placed flags 0 cycle (has_bit 0) well none-held (λ m less. good cycle m less) slot).0 waiting_now in
      let waits_in = has.waiting in
      let instance : Instance = record { placed = has.entry; number = has.number } in
      let found : instance_in placed slot cycle ≡ Some instance = grind (arith, found-of, well) in
      let same : instance ≡ i = same_Some instance i (sym found ∙ is) in
      subst (λ (s : ℕ). flags earlier s ≡ false) has.of_slot
      (waits_in.unsent earlier (omega arith) (subst (λ (j : Instance). its_release j ≤ earlier) (sym same) after) (omega (arith, before, start)))

  module _ (layout_cycle : ℕ) (streams : List Stream) (carried : ℕ → ℕ → Option ℕ) where
    -- an instance of the slot that took the request at a place was released in a cycle, and the slot was flagged when it
    -- may be sent
    record IsSentIn (slot place release cycle : ℕ) : Type 0 where
      instance : Instance
      found : instance_in placed slot cycle ≡ Some instance
      released : its_release instance ≡ release
      flagged : slot < most_slots → flags cycle slot ≡ true
      took : carried slot release ≡ Some place

    sent-by : (place release cycle : ℕ) (is : IsRidden streams (openings_of history) carried place release cycle)
        → IsSentIn is.stream.slot place release cycle
    sent-by place release cycle is =
        let slot : ℕ = is.stream.slot in
        let o : Opening = is.opening in
        let same = All-contains
        (λ x. (s : ℕ) → option_map without_end (instance_in x.placed s x.cycle) ≡ option_map without_end (instance_in placed s x.cycle))
        (openings_of history) o (laws.instances rules history legal) is.opened slot in
        let mask = All-contains (λ x. x.mask ≡ mask_at plan x.cycle) (openings_of history) o (laws.masks rules history legal) is.opened in
        let there : option_map its_release (instance_in o.placed slot cycle) ≡ option_map its_release (instance_in placed slot cycle) =
        grind (arith, option_map, same-release) in
        let (i, found, released) = of-release (instance_in placed slot cycle) release (sym there ∙ is.released) in
        record {
          instance = i;
          found = found;
          released = released;
          flagged = λ known. subst (λ (c : ℕ). flags c slot ≡ true) is.in_cycle
              (sym (mask-flags o.cycle slot known) ∙ ap (λ (m : ℕ). has_bit m slot) (sym mask) ∙ is.flagged);
          took = is.took;
        }

    sent-of : (stream : Stream) (place release cycle : ℕ) → slice_get streams place ≡ Some stream
        → IsRidden streams (openings_of history) carried place release cycle → IsSentIn stream.slot place release cycle
    sent-of stream place release cycle at is = grind (arith, same_Some, sent-by)

    -- an instance is sent in no second cycle
    not-again : (slot place release cycle again : ℕ) → slot < most_slots → IsSentIn slot place release cycle → IsSentIn slot place release again → cycle < again → ⊥
    not-again slot place release cycle again known one other less =
        let here = found-in placed slot cycle one.instance well one.found in
        let after = here.sends.released in
        let first = one.released in
        let second = other.released in
        let unsent = unsent-before slot again other.instance known (other.flagged known) other.found cycle (omega (arith, after, first, second)) less in
        false≢true (sym unsent ∙ one.flagged known)

    pub sent-once : (lengths : ℕ → Option ℕ) (stream : Stream) (place release other cycle again : ℕ)
        → IsRide layout_cycle streams stream.slot lengths (carried stream.slot) → stream.slot < most_slots → slice_get streams place ≡ Some stream
        → IsRidden streams (openings_of history) carried place release cycle → IsRidden streams (openings_of history) carried place other again
        → (release ≡ other) × (cycle ≡ again)
    sent-once lengths stream place release other cycle again ride known at one two =
        let slot : ℕ = stream.slot in
        let first = sent-of stream place release cycle at one in
        let second = sent-of stream place other again at two in
        let same : release ≡ other = laws.once layout_cycle streams slot lengths (carried slot) ride release other place first.took second.took in
        let moved = subst (λ (r : ℕ). IsSentIn slot place r again) (sym same) second in (
          same,
          elim (cases_lt cycle again) [
            | inl sooner ↦ absurd (not-again slot place release cycle again known first moved sooner)
            | inr late ↦ elim (cases_lt again cycle) [
              | inl later ↦ absurd (not-again slot place release again cycle known moved first later)
              | inr early ↦ omega (arith, late, early)
            ]
          ],
        )

    -- the requests of a slot are sent in their order
    pub sent-in_order : (lengths : ℕ → Option ℕ) (slot before behind release later cycle again : ℕ) (one two : Stream)
        → IsRide layout_cycle streams slot lengths (carried slot) → slice_get streams before ≡ Some one → one.slot ≡ slot
        → slice_get streams behind ≡ Some two → two.slot ≡ slot → before < behind
        → IsRidden streams (openings_of history) carried before release cycle → IsRidden streams (openings_of history) carried behind later again
        → cycle < again
    sent-in_order lengths slot before behind release later cycle again one two ride at its_slot there other_slot less sent also =
        let first = subst (λ (s : ℕ). IsSentIn s before release cycle) its_slot (sent-of one before release cycle at sent) in
        let second = subst (λ (s : ℕ). IsSentIn s behind later again) other_slot (sent-of two behind later again there also) in
        let sooner : release < later = laws.order layout_cycle streams slot lengths (carried slot) ride release later before behind first.took second.took less in
        elim (cases_lt cycle again) [
          | inl is ↦ is
          | inr late ↦ absurd (
              let i : Instance = first.instance in
              let j : Instance = second.instance in
              let here = found-in placed slot cycle i well first.found in
              let then_ = found-in placed slot again j well second.found in
              let i_is = first.released in
              let j_is = second.released in
              let i_time = here.sends.in_time in
              let j_time = then_.sends.released in
              let some = then_.in_range.entry.some_time in
              let i_sends : MaySend i.placed i.number later = grind arith in
              let j_sends : MaySend j.placed j.number later = record {
                exists = then_.sends.exists;
                released = omega (arith, j_is);
                in_time = omega (arith, j_is, some);
              } in
              let i_found : instance_in placed slot later ≡ Some i =
              subst (λ (s : ℕ). instance_in placed s later ≡ Some i) here.of_slot (found-of placed i.placed i.number later well here.stands i_sends) in
              let j_found : instance_in placed slot later ≡ Some j =
              subst (λ (s : ℕ). instance_in placed s later ≡ Some j) then_.of_slot (found-of placed j.placed j.number later well then_.stands j_sends) in
              let same : its_release i ≡ its_release j = ap its_release (same_Some i j (sym i_found ∙ j_found)) in
              omega (arith, same, i_is, j_is, sooner))
        ]
