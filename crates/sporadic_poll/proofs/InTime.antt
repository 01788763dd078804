-- How long a request waits for an instance.
use Rattle.std.proofs.Common.{◌≡◌, inl, inr, ℕ, zero, suc, ◌+◌, ◌*◌, ◌<◌, List, Option, Some, arith}
use Rattle.std.proofs.lemmas.Bool.{cases_lt}
use Rattle.std.proofs.lemmas.Option.{same_Some}
use Rattle.std.proofs.Math.Nat.{div-lt_iff_lt-mul}
use Rattle.std.specs.List.{slice_get}
use Rattle.sporadic_poll.specs.declared.stream.Stream.{Stream}
use Rattle.sporadic_poll.specs.Polling.{IsCarriedInTime, IsPolled, IsStreamAt, arrival_cycle}
use Rattle.sporadic_poll.specs.Ride.{IsOfSlot, IsRide}
use Rattle.sporadic_poll.specs.Waiting.{next_before}
use Rattle.sporadic_poll.proofs.OneRide.{by_instance, walked}

module _ (layout_cycle : ℕ) (streams : List Stream) (slot : ℕ) (lengths carried : ℕ → Option ℕ) (ride : IsRide layout_cycle streams slot lengths carried) (period entry_length : ℕ) where
  -- the premises hold of each earlier request of the slot
  earlier_too : (place one : ℕ) (request before : Stream) → IsPolled layout_cycle streams slot lengths period entry_length place request → one < place → IsStreamAt streams slot one before
      → IsPolled layout_cycle streams slot lengths period entry_length one before
  earlier_too place one request before polled less stands =
      let apart = polled.spaced one place before request less (omega arith) stands polled.stands in
      record {
        some_time = polled.some_time;
        stands = stands;
        spaced = λ k m before behind order within first second. polled.spaced k m before behind order (omega (arith, within, less)) first second;
        short = λ k other within there. polled.short k other (omega (arith, within, less)) there;
        released = λ k from other within there above below. polled.released k from other (omega (arith, within, less)) there above (omega (arith, below, apart));
      }

  -- a request is carried after its arrival
  behind_arrival : (place release : ℕ) (request : Stream) → 0 < layout_cycle → slice_get streams place ≡ Some request → carried release ≡ Some place → arrival_cycle layout_cycle request < release
  behind_arrival place release request some at took =
      let takes = (by_instance layout_cycle streams slot lengths carried ride release place took).1 in
      grind (arith, same_Some, div-lt_iff_lt-mul)

  -- by strong induction on the place: `most` is a bound of it
  in_time_below : (most place : ℕ) (request : Stream) → place < most → IsPolled layout_cycle streams slot lengths period entry_length place request
      → IsCarriedInTime layout_cycle carried period place request
  in_time_below zero place request below polled = absurd (omega (arith, below))
  in_time_below (suc most) place request below polled =
      let arrival = arrival_cycle layout_cycle request in
      let span = polled.released place (arrival + 1) request (omega arith) polled.stands (omega arith) (omega arith) in
      let next = next_before layout_cycle streams slot lengths span.release in
      let taken = walked layout_cycle streams slot lengths carried ride span.release in
      let of_slot : IsOfSlot streams slot place = record { stream = request; at = polled.stands.at; its_slot = polled.stands.its_slot } in
      elim (cases_lt place next) [
        | inl before ↦
            let by = taken.all place before of_slot in
            record {
              release = by.release;
              after = behind_arrival place by.release request polled.some_time polled.stands.at by.took;
              by = omega (arith, by.earlier, span.within);
              took = by.took;
            }
        | inr left ↦
            let arrived : request.at < span.release * layout_cycle = (div-lt_iff_lt-mul polled.some_time).0 (omega (arith, span.from_on)) in
            record {
              release = span.release;
              after = omega (arith, span.from_on);
              by = omega (arith, span.within);
              took = (ride.each span.release entry_length place span.releases).1 (record {
                stream = request;
                at = polled.stands.at;
                first = record {
                  of_slot = of_slot;
                  left = λ by. omega (arith, taken.only place by, left);
                  first = λ one less there.
                      let stands : IsStreamAt streams slot one there.stream = record { at = there.at; its_slot = there.its_slot } in
                      let in_time = in_time_below most one there.stream (omega (arith, less, below)) (earlier_too place one request there.stream polled less stands) in
                      let apart = polled.spaced one place there.stream request less (omega arith) stands polled.stands in
                      record { release = in_time.release; earlier = omega (arith, in_time.by, apart, span.from_on); took = in_time.took };
                };
                can = record { arrived = arrived; short = polled.short place request (omega arith) polled.stands };
              });
            }
      ]

  pub in_time : (place : ℕ) (request : Stream) → IsPolled layout_cycle streams slot lengths period entry_length place request → IsCarriedInTime layout_cycle carried period place request
  in_time place request polled = in_time_below (place + 1) place request (omega arith) polled
