-- Steps have one polled run.
use Rattle.std.proofs.Common.{◌≡◌, ℕ, ◌*◌, ◌<◌, Bool, true, false, cond, List, [], All, Contains, Option, Some, None, option_map, option_and_then, nat_eq, refl, sym, ap, ◌∙◌, subst, inl, inr}
use Rattle.std.proofs.lemmas.Bool.{eqb-true}
use Rattle.std.proofs.lemmas.List.Elements.{All-contains, All-weaker}
use Rattle.std.proofs.lemmas.List.Folds.{Any-from_list_any}
use Rattle.can_frame.specs.DataFrame.{DataFrame}
use Rattle.can_frame.specs.declared.data_frame.TimedFrame.{TimedFrame}
use Rattle.cycle_layout.specs.Layout.{CycleLayout}
use Rattle.requirement_table.specs.Instance.{Instance, bytes_of, release_of}
use Rattle.requirement_table.specs.Opening.{Opening}
use Rattle.bit_sets.specs.Sets.{most_slots}
use Rattle.bus_line.specs.Trace.{IsLeastOffered, IsTrace, Offers, started_before}
use Rattle.node_model.specs.Offered.{OffersSlot, bytes_sent}
use Rattle.cycle_engine.specs.Offered.{IsCanTrace, offered}
use Rattle.system_file.specs.declared.system.System.{System}
use Rattle.master_core.specs.declared.event.Event.{Event}
use Rattle.master_core.specs.History.{next_of}
use Rattle.master_core.specs.Openings.{openings_of}
use Rattle.sporadic_poll.specs.declared.stream.Stream.{Stream}
use Rattle.sporadic_poll.specs.Polled.{is_polled, payload_at, payload_taken, polled_bytes}
use Rattle.sporadic_poll.specs.Ride.{bytes_with}
use Rattle.poll_run.specs.PolledRun.{IsPolledTrace}

-- The same bytes

same-if : (test : Bool) (one other numbers : List ℕ) → (test ≡ true → one ≡ other) → cond test one numbers ≡ cond test other numbers
same-if true one other numbers same = same refl
same-if false one other numbers same = refl

-- a polled slot is one of the bus
polled-known : (streams : List Stream) (slot : ℕ) → All (λ stream. stream.slot < most_slots) streams → is_polled streams slot ≡ true → slot < most_slots
polled-known streams slot known polled =
    let found = Any-from_list_any (λ (s : Stream). nat_eq s.slot slot) streams polled in
    let below = known found.0 found.1 found.2 in
    let is : found.1.slot ≡ slot = eqb-true _ _ found.4 in
    subst (λ (n : ℕ). n < most_slots) is (subst (λ (s : Stream). s.slot < most_slots) found.3 below)

same-bytes : (streams : List Stream) (carried again : ℕ → ℕ → Option ℕ) → All (λ stream. stream.slot < most_slots) streams
    → ((slot cycle : ℕ) → slot < most_slots → carried slot cycle ≡ again slot cycle)
    → (instance : Instance) → polled_bytes streams carried instance ≡ polled_bytes streams again instance
same-bytes streams carried again known same instance =
    let slot : ℕ = instance.placed.entry.slot in
    let n : ℕ = instance.placed.entry.length in
    same-if (is_polled streams slot) (bytes_with n (payload_taken streams carried instance)) (bytes_with n (payload_taken streams again instance)) (bytes_of instance)
    (λ polled. ap (λ (o : Option ℕ). bytes_with n (option_and_then (payload_at streams n) o))
    (same slot (release_of instance.placed instance.number) (polled-known streams slot known polled)))

-- What is offered is the same

same-sent : (one other : Instance → List ℕ) → ((i : Instance) → one i ≡ other i) → (o : Option Instance) → option_map one o ≡ option_map other o
same-sent one other same None = refl
same-sent one other same (Some i) = ap Some (same i)

module _ (one other : Instance → List ℕ) (layout : CycleLayout) (openings : List Opening)
    (same : All (λ o. (slot : ℕ) → slot < most_slots → bytes_sent one o slot ≡ bytes_sent other o slot) openings) where
  slot-too : (opening : Opening) → Contains openings opening → (past : List TimedFrame) (at : ℕ) (frame : DataFrame) (slot : ℕ)
      → OffersSlot one layout opening past at frame slot
      → OffersSlot other layout opening past at frame slot
  slot-too opening opened past at frame slot offers = record {
    begun = offers.begun;
    late_enough = offers.late_enough;
    within = offers.within;
    known = offers.known;
    flagged = offers.flagged;
    unsent = offers.unsent;
    identifier = offers.identifier;
    bytes = sym (All-contains (λ o. (k : ℕ) → k < most_slots → bytes_sent one o k ≡ bytes_sent other o k) openings opening same opened slot offers.known)
        ∙ offers.bytes;
  }

  offered-too : (past : List TimedFrame) (at : ℕ) (frame : DataFrame) → offered one layout [] openings past at frame
      → offered other layout [] openings past at frame
  offered-too past at frame (opening, opened, inl trigger) = (opening, opened, inl trigger)
  offered-too past at frame (opening, opened, inr (inl request)) = (opening, opened, inr (inl request))
  offered-too past at frame (opening, opened, inr (inr slot)) = (opening, opened, inr (inr (slot.0, slot-too opening opened past at frame slot.0 slot.1)))

-- what is the CAN trace of some offers is that of the same ones
trace-too : (offers others : Offers) (until : ℕ) (trace : List TimedFrame)
    → ((past : List TimedFrame) (at : ℕ) (frame : DataFrame) → offers past at frame → others past at frame)
    → ((past : List TimedFrame) (at : ℕ) (frame : DataFrame) → others past at frame → offers past at frame)
    → IsTrace offers until trace → IsTrace others until trace
trace-too offers others until trace there back is = record {
  ordered = is.ordered;
  within = is.within;
  least = All-weaker (λ sent. IsLeastOffered offers (started_before sent.start trace) sent.start sent.frame)
      (λ sent. IsLeastOffered others (started_before sent.start trace) sent.start sent.frame)
      (λ sent least. record {
        offered = there (started_before sent.start trace) sent.start sent.frame least.offered;
        least = λ frame offered. least.least frame (back (started_before sent.start trace) sent.start frame offered);
      })
      trace is.least;
  busy = λ at frame early offered. is.busy at frame early (back (started_before at trace) at frame offered);
}

-- so the CAN trace is the same where the instances that may be sent in the opened cycles send the same bytes
pub same-trace : (one other : Instance → List ℕ) (layout : CycleLayout) (openings : List Opening) (count : ℕ) (trace : List TimedFrame)
    → All (λ o. (slot : ℕ) → slot < most_slots → bytes_sent one o slot ≡ bytes_sent other o slot) openings
    → IsCanTrace one layout [] openings count trace → IsCanTrace other layout [] openings count trace
same-trace one other layout openings count trace same is =
    trace-too (offered one layout [] openings) (offered other layout [] openings) (count * layout.cycle) trace
    (offered-too one other layout openings same)
    (offered-too other one layout openings (λ k d within slot known. sym (same k d within slot known)))
    is

-- the trace is that of the requests, whichever way it is said what instances take
pub one-trace : (system : System) (streams : List Stream) (history : List Event) (carried again : ℕ → ℕ → Option ℕ) (trace second : List TimedFrame)
    → All (λ stream. stream.slot < most_slots) streams → ((slot cycle : ℕ) → slot < most_slots → carried slot cycle ≡ again slot cycle)
    → IsPolledTrace system streams history carried trace → IsPolledTrace system streams history again second → trace ≡ second
one-trace system streams history carried again trace second known same one other =
    let back : (i : Instance) → polled_bytes streams again i ≡ polled_bytes streams carried i = λ i. sym (same-bytes streams carried again known same i) in
    sym (one.kept.only_trace second
    (same-trace (polled_bytes streams again) (polled_bytes streams carried) system.layout (openings_of history) (next_of history) second
    (λ k d within slot few. same-sent (polled_bytes streams again) (polled_bytes streams carried) back _)
    other.kept.can_trace))
