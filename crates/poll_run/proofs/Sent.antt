-- In a polled run a request is sent in time.
use Rattle.std.proofs.Common.{◌≡◌, ℕ, ◌+◌, ◌-◌, ◌<◌, ◌≤◌, ◌&&◌, Bool, true, eqb, leb, List, [], length, All, Contains, Option, Some, None, option_map, option_and_then, nat_eq, nat_lt, refl, sym, ap, ◌∙◌, subst, arith}
use Rattle.std.specs.List.{slice_get}
use Rattle.std.proofs.lemmas.Bool.{and_parts, cond-true, eq-eqb, leb-true, lt-ltb}
use Rattle.std.proofs.lemmas.List.Elements.{All-contains, All-head, filter_passes}
use Rattle.std.proofs.lemmas.Map.Keys.{any_passes_from_place}
use Rattle.profile.specs.Limits.{first_identifier}
use Rattle.can_frame.specs.declared.data_frame.TimedFrame.{TimedFrame}
use Rattle.requirement_table.specs.declared.entries.Placed.{Placed}
use Rattle.requirement_table.specs.Instance.{Instance, release_of}
use Rattle.requirement_table.specs.Opening.{Opening}
use Rattle.bit_sets.specs.Sets.{most_slots}
use Rattle.requirement_table.specs.Table.{IsInRange, IsWellPlaced, instance_in}
use Rattle.change_protocol.specs.Applied.{without_end}
use Rattle.admission_rules.specs.declared.Rules.{Rules}
use Rattle.cycle_engine.specs.Cycle.{cycle_of}
use Rattle.kept_run.specs.Served.{IsServed}
use Rattle.system_file.specs.declared.system.System.{System}
use Rattle.master_core.specs.declared.event.Event.{Event}
use Rattle.master_core.specs.History.{IsLegal, next_of, placed_of}
use Rattle.master_core.specs.Openings.{openings_of}
use Rattle.replay_run.proofs.Shared.{distinct}
use Rattle.sporadic_poll.specs.declared.stream.Stream.{Stream}
use Rattle.sporadic_poll.specs.Polled.{is_polled, lengths_of, payload_of, payload_taken, polled_bytes}
use Rattle.sporadic_poll.specs.Ride.{bytes_with, length_at, length_released}
use Rattle.poll_run.specs.Delay.{IsSentInTime, MayRide}
use Rattle.poll_run.specs.PolledRun.{IsPolledTrace}
use Rattle.poll_run.proofs.Carrying.{RideLaws}
use Rattle.poll_run.proofs.OnTime.{IsCarrier, TimeLaws, carrier}
use Rattle.poll_run.proofs.Openings.{opening-at}

-- The lengths of a slot's releases are those of the final list

without : (cycle : ℕ) (o : Option Instance) → option_and_then (length_at cycle) (option_map without_end o) ≡ option_and_then (length_at cycle) o
without cycle o = grind arith

same-length : (cycle : ℕ) (one other : Option Instance) → option_map without_end one ≡ option_map without_end other
    → option_and_then (length_at cycle) one ≡ option_and_then (length_at cycle) other
same-length cycle one other same = sym (without cycle one) ∙ ap (option_and_then (length_at cycle)) same ∙ without cycle other

-- what laws of the crates below say of a history
pub record HistoryLaws : Type 0 where
  pub rides : RideLaws
  pub times : TimeLaws
  pub well_placed : (rules : Rules) (history : List Event) → IsLegal rules history → IsWellPlaced (placed_of history)
  pub instances : (rules : Rules) (history : List Event) → IsLegal rules history
      → All (λ o. (slot : ℕ) → option_map without_end (instance_in o.placed slot o.cycle) ≡ option_map without_end (instance_in (placed_of history) slot o.cycle))
      (openings_of history)

module _ (laws : HistoryLaws) (system : System) (streams : List Stream) (history : List Event) (carried : ℕ → ℕ → Option ℕ) (trace : List TimedFrame)
    (is : IsPolledTrace system streams history carried trace) where
  abbrev E : ℕ
  E = system.layout.cycle

  legal : IsLegal system.rules history
  legal = is.plain.legal

  lengths-are : (slot cycle : ℕ) → slot < most_slots → cycle < next_of history
      → lengths_of (openings_of history) slot cycle ≡ length_released (placed_of history) slot cycle
  lengths-are slot cycle known early =
      let in_order = laws.rides.cycles system.rules history legal in
      let found = opening-at (openings_of history) (next_of history) cycle in_order early in
      let o : Opening = found.0 in
      let at = (laws.rides.at E streams (openings_of history) o carried (distinct (openings_of history) (next_of history) in_order) found.1 is.rides).here slot known in
      let same = All-contains (λ (x : Opening). (s : ℕ) → option_map without_end (instance_in x.placed s x.cycle) ≡ option_map without_end (instance_in (placed_of history) s x.cycle))
      (openings_of history) o (laws.instances system.rules history legal) found.1 slot in
      subst (λ (n : ℕ). lengths_of (openings_of history) slot n ≡ length_released (placed_of history) slot n) found.2
      (at ∙ same-length o.cycle (instance_in o.placed slot o.cycle) (instance_in (placed_of history) slot o.cycle) same)

  -- the bytes of an instance that took a request
  bytes-of : (q : Placed) (k place : ℕ) (request : Stream) → slice_get streams place ≡ Some request → request.slot ≡ q.entry.slot
      → carried q.entry.slot (release_of q k) ≡ Some place → length request.payload < q.entry.length
      → polled_bytes streams carried (record { placed = q; number = k }) ≡ bytes_with q.entry.length (Some request.payload)
  bytes-of q k place request at its took short = grind (arith, any_passes_from_place, eq-eqb, option_and_then, cond-true, nat_lt, lt-ltb)

  module _ (p : Placed) (place : ℕ) (request : Stream) (stands : Contains (placed_of history) p) (may : MayRide system.layout streams (next_of history) p place request) where
    well : IsWellPlaced (placed_of history)
    well = laws.well_placed system.rules history legal

    known : p.entry.slot < most_slots
    known = (All-contains IsInRange (placed_of history) p well.in_range stands).entry.slot

    abbrev lengths : ℕ → Option ℕ
    lengths = lengths_of (openings_of history) p.entry.slot

    carries : IsCarrier laws.times E streams (placed_of history) (next_of history) lengths (carried p.entry.slot) well p stands
        (λ cycle early. lengths-are p.entry.slot cycle known early) (is.rides p.entry.slot known) place request may.polled may.run
    carries = grind (arith, carrier, well, lengths-are, known)

    abbrev q : Placed
    q = carries.entry

    abbrev release : ℕ
    release = release_of q carries.number

    abbrev last : ℕ
    last = release + q.entry.deadline - 1

    served : IsServed (polled_bytes streams carried) system.layout (openings_of history) trace q carries.number last
    served = grind (arith, carries)

    abbrev of : TimedFrame → Bool
    of sent = eqb sent.frame.identifier (first_identifier + q.entry.slot) && (leb release (cycle_of system.layout sent) && leb (cycle_of system.layout sent) last)

    abbrev sent : TimedFrame
    sent = served.sent

    passes : of sent ≡ true
    passes = All-head (λ (s : TimedFrame). of s ≡ true) sent []
        (subst (All (λ (s : TimedFrame). of s ≡ true)) served.once (filter_passes of trace))

    pub sent-in_time : IsSentInTime system.layout streams (placed_of history) (openings_of history) carried trace p place request
    sent-in_time =
        let parts = and_parts (eqb sent.frame.identifier (first_identifier + q.entry.slot)) _ passes in
        let within = and_parts (leb release (cycle_of system.layout sent)) _ parts.1 in
        let from : release ≤ cycle_of system.layout sent = leb-true _ _ within.0 in
        let until : cycle_of system.layout sent ≤ last = leb-true _ _ within.1 in
        let after = carries.after in
        let some = carries.some_time in
        let by = carries.last in
        let its = carries.of_slot in
        let took : carried q.entry.slot release ≡ Some place = ap (λ (n : ℕ). carried n release) its ∙ carries.took in
        record {
          entry = q;
          number = carries.number;
          stands = carries.there;
          its_slot = its;
          exists = carries.exists;
          took = took;
          room = carries.short;
          last = last;
          is_last = omega (arith, some);
          served = served;
          carries = grind (arith, served, carries, bytes-of);
          behind = omega (arith, after, from);
          by = omega (arith, until, by, some);
        }
