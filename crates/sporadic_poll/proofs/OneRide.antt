-- There is one ride, and what it keeps.
use Rattle.std.proofs.Common.{◌≡◌, ℕ, zero, suc, ◌+◌, ◌*◌, ◌<◌, List, length, Option, Some, None, refl, sym, ap, ◌∙◌, arith}
use Rattle.std.proofs.lemmas.Bool.{cases_order}
use Rattle.std.proofs.lemmas.Option.{none-some, same_Some, slice_get_within}
use Rattle.std.specs.List.{slice_get}
use Rattle.sporadic_poll.specs.declared.stream.Stream.{Stream}
use Rattle.sporadic_poll.specs.Ride.{CanCarry, IsOfSlot, IsRide, IsTakenBefore, Takes}
use Rattle.sporadic_poll.specs.Waiting.{HasTaken, next_before, ride_of, taken_at}
use Rattle.sporadic_poll.proofs.Taken.{Carries, first_left, from_carry, from_shape, none_taken, only_first_left, takes_at, then_taken}

module _ (layout_cycle : ℕ) (streams : List Stream) (slot : ℕ) (lengths : ℕ → Option ℕ) where
  -- a request that is taken in a cycle: the length of the entry, and that the next request can be carried
  record TakenIn (cycle next place : ℕ) : Type 0 where
    entry_length : ℕ
    released : lengths cycle ≡ Some entry_length
    carries : Carries streams (cycle * layout_cycle) entry_length next place

  taken_in : (cycle next place : ℕ) → taken_at layout_cycle streams lengths cycle next ≡ Some place → TakenIn cycle next place
  taken_in cycle next place took = by_length (lengths cycle) refl
    where
      by_length : (released : Option ℕ) → lengths cycle ≡ released → TakenIn cycle next place
      by_length released none = grind (arith, none-some, from_shape)

  is_inside : (cycle next place : ℕ) → taken_at layout_cycle streams lengths cycle next ≡ Some place → (place ≡ next) × (next < length streams)
  is_inside cycle next place took =
      let it = taken_in cycle next place took in
      (it.carries.same, slice_get_within streams next it.carries.stream it.carries.at)

  -- what was taken, and what is next, one release after the other, for all that is taken in this way
  goes_on : (carried : ℕ → Option ℕ) → ((cycle : ℕ) → HasTaken streams slot carried cycle (next_before layout_cycle streams slot lengths cycle) → carried cycle ≡ ride_of layout_cycle streams slot lengths cycle)
      → (cycle : ℕ) → HasTaken streams slot carried cycle (next_before layout_cycle streams slot lengths cycle)
  unfolding next_before
  goes_on carried same zero = none_taken streams slot carried
  goes_on carried same (suc cycle) =
      let before = goes_on carried same cycle in
      let next = next_before layout_cycle streams slot lengths cycle in
      let back : suc cycle ≡ cycle + 1 = omega arith in
      rw back (then_taken streams slot carried cycle next (taken_at layout_cycle streams lengths cycle next) before (same cycle before) (is_inside cycle next))

  pub walked : (carried : ℕ → Option ℕ) → IsRide layout_cycle streams slot lengths carried → (cycle : ℕ) → HasTaken streams slot carried cycle (next_before layout_cycle streams slot lengths cycle)
  walked carried ride = goes_on carried (λ cycle taken. takes_at streams slot carried layout_cycle lengths ride cycle (next_before layout_cycle streams slot lengths cycle) taken)

  pub ride_is : (carried : ℕ → Option ℕ) → IsRide layout_cycle streams slot lengths carried → (cycle : ℕ) → carried cycle ≡ ride_of layout_cycle streams slot lengths cycle
  ride_is carried ride cycle = takes_at streams slot carried layout_cycle lengths ride cycle (next_before layout_cycle streams slot lengths cycle) (walked carried ride cycle)

  pub is_ride : IsRide layout_cycle streams slot lengths (ride_of layout_cycle streams slot lengths)
  is_ride =
      let carried = ride_of layout_cycle streams slot lengths in
      let taken : (cycle : ℕ) → HasTaken streams slot carried cycle (next_before layout_cycle streams slot lengths cycle) = goes_on carried (λ cycle before. refl) in
      record {
        each = λ cycle entry_length place released. (there cycle entry_length place released (taken cycle), back cycle entry_length place released (taken cycle));
        no_more = λ cycle none. rw none refl;
      }
    where
      there : (cycle entry_length place : ℕ) → lengths cycle ≡ Some entry_length → HasTaken streams slot (ride_of layout_cycle streams slot lengths) cycle (next_before layout_cycle streams slot lengths cycle)
          → ride_of layout_cycle streams slot lengths cycle ≡ Some place → Takes layout_cycle streams slot (ride_of layout_cycle streams slot lengths) cycle entry_length place
      there cycle entry_length place released taken took =
          let next = next_before layout_cycle streams slot lengths cycle in
          let by = from_shape streams (cycle * layout_cycle) entry_length next place (rw released at took) in
          rw by.same (record {
            stream = by.stream;
            at = by.at;
            first = first_left streams slot (ride_of layout_cycle streams slot lengths) cycle next taken (record { stream = by.stream; at = by.at; its_slot = taken.stands by.stream by.at });
            can = by.can;
          })

      back : (cycle entry_length place : ℕ) → lengths cycle ≡ Some entry_length → HasTaken streams slot (ride_of layout_cycle streams slot lengths) cycle (next_before layout_cycle streams slot lengths cycle)
          → Takes layout_cycle streams slot (ride_of layout_cycle streams slot lengths) cycle entry_length place → ride_of layout_cycle streams slot lengths cycle ≡ Some place
      back cycle entry_length place released taken takes =
          let next = next_before layout_cycle streams slot lengths cycle in
          let same = only_first_left streams slot (ride_of layout_cycle streams slot lengths) cycle next place taken takes.first in
          let at : slice_get streams next ≡ Some takes.stream = ap (slice_get streams) (sym same) ∙ takes.at in
          rw released (from_carry streams (cycle * layout_cycle) entry_length next takes.stream at takes.can ∙ ap Some (sym same))

  pub one_ride : (carried other : ℕ → Option ℕ) → IsRide layout_cycle streams slot lengths carried → IsRide layout_cycle streams slot lengths other → (cycle : ℕ) → carried cycle ≡ other cycle
  one_ride carried other one second cycle = ride_is carried one cycle ∙ sym (ride_is other second cycle)

  module _ (carried : ℕ → Option ℕ) (ride : IsRide layout_cycle streams slot lengths carried) where
    -- where something was taken, an instance is released
    pub by_instance : (cycle place : ℕ) → carried cycle ≡ Some place → (entry_length : ℕ) × Takes layout_cycle streams slot carried cycle entry_length place
    by_instance cycle place took = by_length (lengths cycle) refl
      where
        by_length : (released : Option ℕ) → lengths cycle ≡ released → (entry_length : ℕ) × Takes layout_cycle streams slot carried cycle entry_length place
        by_length None none = absurd (none-some place (sym (ride.no_more cycle none) ∙ took))
        by_length (Some entry_length) is = (entry_length, (ride.each cycle entry_length place is).0 took)

    not_again : (one other place : ℕ) → carried one ≡ Some place → carried other ≡ Some place → one < other → ⊥
    not_again one other place took again before = grind (arith, by_instance)

    pub once : (one other place : ℕ) → carried one ≡ Some place → carried other ≡ Some place → one ≡ other
    once one other place took again = grind (arith, cases_order, not_again)

    pub can : (cycle entry_length place : ℕ) (stream : Stream) → lengths cycle ≡ Some entry_length → carried cycle ≡ Some place → slice_get streams place ≡ Some stream
        → (stream.slot ≡ slot) × CanCarry (cycle * layout_cycle) entry_length stream
    can cycle entry_length place stream released took at =
        let takes = (ride.each cycle entry_length place released).0 took in
        grind (arith, same_Some)

    pub none_left : (cycle before behind : ℕ) → carried cycle ≡ Some behind → before < behind → IsOfSlot streams slot before → IsTakenBefore carried cycle before
    none_left cycle before behind took less of_slot = (by_instance cycle behind took).1.first.first before less of_slot

    pub in_order : (one other before behind : ℕ) → carried one ≡ Some before → carried other ≡ Some behind → before < behind → one < other
    in_order one other before behind took next less = grind (arith, by_instance, none_left, once)
