-- Each instance is sent in the cycle in which it is sent without errors.
use Rattle.std.proofs.Common.{◌≡◌, ℕ, ◌+◌, ◌*◌, ◌<◌, ◌≤◌, ◌&&◌, Bool, true, eqb, leb, List, [], ◌∷◌, All, Contains, inl, inr, sym, ap, ◌∙◌, subst, arith}
use Rattle.std.specs.Prelude.{filter}
use Rattle.std.proofs.lemmas.Bool.{and_parts, eqb-true, leb-true}
use Rattle.std.proofs.lemmas.List.Elements.{All-contains, All-filter, Contains-get_or, filter_passes}
use Rattle.std.proofs.Math.Nat.{div-eq_of_lt-le}
use Rattle.profile.specs.Limits.{first_identifier}
use Rattle.bit_sets.specs.Sets.{has_bit, most_slots}
use Rattle.can_frame.specs.DataFrame.{DataFrame}
use Rattle.can_frame.specs.declared.data_frame.TimedFrame.{TimedFrame}
use Rattle.trigger_codec.proofs.Shared.{low_ids}
use Rattle.requirement_table.specs.declared.entries.Placed.{Placed}
use Rattle.requirement_table.specs.Instance.{Exists, IsLastCycle, release_of}
use Rattle.requirement_table.specs.Opening.{Opening, width_of}
use Rattle.requirement_table.specs.Table.{IsInRange}
use Rattle.planner_policies.specs.Plan.{flags_of, mask_at}
use Rattle.bus_line.specs.Trace.{IsLeastOffered, started_before}
use Rattle.node_model.specs.Offered.{trigger_frames}
use Rattle.master_core.specs.declared.event.Event.{Event}
use Rattle.master_core.specs.History.{next_of, placed_of, plan_of}
use Rattle.master_core.specs.Openings.{openings_of}
use Rattle.cycle_engine.specs.Cycle.{cycle_of}
use Rattle.cycle_engine.specs.Offered.{SendsWhole, offered}
use Rattle.cycle_engine.proofs.Shared.{Contains-here, in_cycle, request_id}
use Rattle.kept_run.specs.Kept.{Kept}
use Rattle.kept_run.specs.Setting.{IsSetting, Setting}
use Rattle.kept_run.specs.Served.{ForgetsEnds, IsServed}
use Rattle.kept_run.proofs.Shared.{mask-planned, opened-legal}
use Rattle.disturbed_runs.specs.Outages.{Outage}
use Rattle.disturbed_runs.specs.Offered.{AreGuarded, Asks, IsDisturbedRun, Late, Silent}
use Rattle.disturbed_runs.specs.Budget.{IsReserved, IsWithinBudget}
use Rattle.disturbed_runs.specs.Kept.{HasBudget, IsLoud, IsSentInSameCycle, IsServedAgain}
use Rattle.disturbed_runs.proofs.Runs.{has-budget, its, served, served-cycle}

-- what alone passes a test
passes-alone : {X : Type 0} (p : X → Bool) (xs : List X) (x : X) → filter p xs ≡ x ∷ [] → Contains xs x × (p x ≡ true)
passes-alone {X} p xs x is =
    let there : Contains (filter p xs) x = subst (λ l. Contains l x) (sym is) (Contains-here x []) in (
      All-contains (λ y. Contains xs y) (filter p xs) x (All-filter p (λ y. Contains xs y) xs (λ k d within. Contains-get_or xs k d within)) there,
      All-contains (λ y. p y ≡ true) (filter p xs) x (filter_passes p xs) there,
    )

same-frame : (one other : DataFrame) → one.identifier ≡ other.identifier → one.bytes ≡ other.bytes → one ≡ other
same-frame one other id bytes = grind (arith, id, bytes)

module _ (setting : Setting) (known : IsSetting setting) (history : List Event) (simulated : List TimedFrame) (is : Kept setting history simulated) where
  -- without errors a frame of a slot starts where the slot is flagged
  flagged-then : (s : TimedFrame) (slot : ℕ) → Contains simulated s → slot < most_slots → s.frame.identifier ≡ first_identifier + slot
      → flags_of (plan_of setting.rules (placed_of history)) (cycle_of setting.layout s) slot ≡ true
  flagged-then s slot has within same =
      let by = opened-legal setting.rules history is.legal in
      let least = All-contains (λ x. IsLeastOffered (offered setting.sends setting.layout setting.requests (openings_of history)) (started_before x.start simulated) x.start x.frame) simulated s is.can_trace.least has in
      let offer = least.offered in
      let o : Opening = offer.0 in
      let time = in_cycle setting.sends setting.layout setting.requests known.known o (started_before s.start simulated) s.start s.frame offer.2 in
      let cycle : cycle_of setting.layout s ≡ o.cycle = div-eq_of_lt-le setting.layout.cycle time.0 time.1 in
      let mask : o.mask ≡ mask_at (plan_of setting.rules (placed_of history)) o.cycle
      = All-contains (λ x. x.mask ≡ mask_at (plan_of setting.rules (placed_of history)) x.cycle) (openings_of history) o by.masks offer.1 in
      let flag : has_bit o.mask slot ≡ true = elim offer.2 [
        | inl trigger ↦
            let low = All-contains (λ f. f.identifier ≤ 1) (trigger_frames setting.layout o) s.frame (low_ids setting.layout.slots o.cycle (width_of o) o.mask) trigger.among in
            absurd (omega (arith, low, same))
        | inr (inl asked) ↦
            let high = request_id setting.sends setting.layout setting.requests known.asynchronous o (started_before s.start simulated) s.start s.frame asked in
            absurd (omega (arith, high, same, within))
        | inr (inr (other, sent)) ↦ subst (λ n. has_bit o.mask n ≡ true) (omega (arith, sent.identifier, same)) sent.flagged
      ] in
      subst (λ c. flags_of (plan_of setting.rules (placed_of history)) c slot ≡ true) (sym cycle)
      (sym (mask-planned setting.rules (placed_of history) by.well by.in_time o.cycle slot within) ∙ ap (λ m. has_bit m slot) (sym mask) ∙ flag)

module _ (setting : Setting) (reserve : ℕ) (late : Late) (silent : Silent) (asks : Asks) (history : List Event) (outages : List Outage) (simulated trace : List TimedFrame)
    (is_reserved : IsReserved setting reserve) (whole : SendsWhole setting.sends) (forgets : ForgetsEnds setting.sends)
    (guarded : AreGuarded reserve late setting.layout asks) (is : Kept setting history simulated)
    (traced : IsDisturbedRun reserve late silent setting.sends setting.layout asks (openings_of history) (next_of history) outages trace)
    (within : All (IsWithinBudget setting.layout reserve late silent outages) (openings_of history))
    (p : Placed) (k last : ℕ) (stands : Contains (placed_of history) p) (exists : Exists p (release_of p k)) (is_last : IsLastCycle p k last) (early : last < next_of history)
    (loud : IsLoud silent p k last) where
  abbrev id : ℕ
  id = first_identifier + p.entry.slot

  abbrev wanted : TimedFrame → Bool
  wanted s = eqb s.frame.identifier id && (leb (release_of p k) (cycle_of setting.layout s) && leb (cycle_of setting.layout s) last)

  has : HasBudget setting.layout reserve late silent outages trace (openings_of history) p k last
  has = has-budget setting reserve late silent asks history outages trace is_reserved whole forgets guarded is.legal traced within p k last

  one : IsServed setting.sends setting.layout (openings_of history) simulated p k last
  one = is.served p k last stands exists is_last early

  two : IsServedAgain setting.sends setting.layout reserve late (openings_of history) trace p k last
  two = served setting reserve late silent asks history outages trace is_reserved whole forgets guarded is.legal traced p k last stands exists is_last early loud has

  pub same-cycle : IsSentInSameCycle setting simulated trace p k last
  unfolding two
  same-cycle =
      let by = opened-legal setting.rules history is.legal in
      let small : p.entry.slot < most_slots = (All-contains IsInRange (placed_of history) p by.well.in_range stands).entry.slot in
      let alone = its setting reserve late silent asks history outages trace is_reserved whole forgets guarded is.legal traced p k last stands exists is_last early loud has in
      let first = passes-alone wanted simulated one.sent one.once in
      let second = passes-alone wanted trace two.sent two.once in
      let parts = and_parts (eqb one.sent.frame.identifier id) _ first.1 in
      let also = and_parts (eqb two.sent.frame.identifier id) _ second.1 in
      let times = and_parts (leb (release_of p k) (cycle_of setting.layout one.sent)) (leb (cycle_of setting.layout one.sent) last) parts.1 in
      let id_one = eqb-true one.sent.frame.identifier id parts.0 in
      let id_two = eqb-true two.sent.frame.identifier id also.0 in
      let then_ = alone.alone (cycle_of setting.layout one.sent) (leb-true (release_of p k) (cycle_of setting.layout one.sent) times.0) (leb-true (cycle_of setting.layout one.sent) last times.1)
      (flagged-then setting is_reserved.known history simulated is one.sent p.entry.slot first.0 small id_one) in
      let now = served-cycle setting reserve late silent asks history outages trace is_reserved whole forgets guarded is.legal traced p k last stands exists is_last early loud has in
      record {
        first = one.sent;
        second = two.sent;
        once = one.once;
        again = two.once;
        cycle = then_ ∙ sym now;
        frame = same-frame one.sent.frame two.sent.frame (id_one ∙ sym id_two) (one.carries ∙ sym two.carries);
      }
