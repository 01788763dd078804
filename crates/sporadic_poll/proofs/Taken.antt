-- What was taken before a release, and what the instance takes then.
use Rattle.std.proofs.Common.{◌≡◌, inl, inr, ℕ, ◌+◌, ◌*◌, ◌<◌, ◌≤◌, ◌&&◌, Bool, if◌then◌else◌, List, length, Option, Some, None, option_and_then, nat_lt, refl, sym, ap, ◌∙◌, arith}
use Rattle.std.proofs.lemmas.Bool.{and_from, and_left, and_parts, and_right, cases_lt, cases_order, le-ltb, lt-ltb, ltb-true}
use Rattle.std.proofs.lemmas.Option.{none-some, same_Some, slice_get_cases, slice_get_past, slice_get_within}
use Rattle.std.specs.List.{slice_get}
use Rattle.sporadic_poll.specs.declared.stream.Stream.{Stream}
use Rattle.sporadic_poll.specs.Ride.{CanCarry, IsFirstLeft, IsOfSlot, IsRide, IsTakenBefore}
use Rattle.sporadic_poll.specs.Waiting.{HasTaken, first_from, next_after, taken_at, taken_from}
use Rattle.sporadic_poll.proofs.FirstOf.{first-is}

-- the next request, at this place, can be carried at a time by an instance of an entry of this length
pub record Carries (streams : List Stream) (time entry_length next place : ℕ) : Type 0 where
  pub stream : Stream
  pub at : slice_get streams next ≡ Some stream
  pub can : CanCarry time entry_length stream
  pub same : place ≡ next

pub same_options : (one other : Option ℕ) → ((place : ℕ) → one ≡ Some place → other ≡ Some place) → ((place : ℕ) → other ≡ Some place → one ≡ Some place) → one ≡ other
same_options one other there back = grind arith

-- what is taken is the next request, and can be carried
pub from_shape : (streams : List Stream) (time entry_length next place : ℕ) → taken_from streams time entry_length next ≡ Some place → Carries streams time entry_length next place
unfolding taken_from
from_shape streams time entry_length next place took = of_found (slice_get streams next) refl took
  where
    of_test : (stream : Stream) (test : Bool) → (nat_lt stream.at time && nat_lt (length stream.payload) entry_length) ≡ test → slice_get streams next ≡ Some stream
        → (if test then Some next else None) ≡ Some place → Carries streams time entry_length next place
    of_test stream test is at took = grind (arith, and_parts, ltb-true, same_Some, none-some)

    of_found : (found : Option Stream) → slice_get streams next ≡ found
        → option_and_then (λ stream. if nat_lt stream.at time && nat_lt (length stream.payload) entry_length then Some next else None) found ≡ Some place
        → Carries streams time entry_length next place
    of_found found is took = grind (arith, none-some, of_test, nat_lt)

-- the next request is taken where it can be carried
pub from_carry : (streams : List Stream) (time entry_length next : ℕ) (stream : Stream) → slice_get streams next ≡ Some stream → CanCarry time entry_length stream
    → taken_from streams time entry_length next ≡ Some next
unfolding taken_from
from_carry streams time entry_length next stream at can = grind (arith, nat_lt, and_from, lt-ltb)

-- none is taken after the end, nor before it arrived, nor where it is too long
pub from_past : (streams : List Stream) (time entry_length next : ℕ) → length streams ≤ next → None ≡ taken_from streams time entry_length next
unfolding taken_from
from_past streams time entry_length next past = rw (slice_get_past streams next past) refl

pub from_late : (streams : List Stream) (time entry_length next : ℕ) (stream : Stream) → slice_get streams next ≡ Some stream → time ≤ stream.at → None ≡ taken_from streams time entry_length next
unfolding taken_from
from_late streams time entry_length next stream at late = grind (arith, nat_lt, and_left, le-ltb)

pub from_long : (streams : List Stream) (time entry_length next : ℕ) (stream : Stream) → slice_get streams next ≡ Some stream → entry_length ≤ length stream.payload → None ≡ taken_from streams time entry_length next
unfolding taken_from
from_long streams time entry_length next stream at long = grind (arith, nat_lt, and_right, le-ltb)

-- what was taken before a cycle was taken before the next one
later_too : (carried : ℕ → Option ℕ) (cycle place : ℕ) → IsTakenBefore carried cycle place → IsTakenBefore carried (cycle + 1) place
later_too carried cycle place taken = record { release = taken.release; earlier = omega (arith, taken.earlier); took = taken.took }

module _ (streams : List Stream) (slot : ℕ) (carried : ℕ → Option ℕ) where
  -- before the first cycle nothing was taken
  pub none_taken : HasTaken streams slot carried 0 (first_from streams slot 0)
  none_taken = grind (arith, first-is)

  -- an instance that takes none leaves all as it is
  pub still_taken : (cycle next : ℕ) → HasTaken streams slot carried cycle next → carried cycle ≡ None → HasTaken streams slot carried (cycle + 1) next
  still_taken cycle next taken none =
      record {
        within = taken.within;
        stands = taken.stands;
        all = λ place before of_slot. later_too carried cycle place (taken.all place before of_slot);
        only = λ place by.
            elim (cases_lt by.release cycle) [
              | inl earlier ↦ taken.only place (record { release = by.release; earlier = earlier; took = by.took })
              | inr here ↦
                  let same : by.release ≡ cycle = omega (arith, here, by.earlier) in
                  absurd (none-some place (sym none ∙ ap carried (sym same) ∙ by.took))
            ];
      }

  -- behind an instance that takes the next request stands the one behind that
  pub more_taken : (cycle next : ℕ) → HasTaken streams slot carried cycle next → next < length streams → carried cycle ≡ Some next
      → HasTaken streams slot carried (cycle + 1) (first_from streams slot (next + 1))
  more_taken cycle next taken inside took =
      let first = first-is streams slot (next + 1) (omega (arith, inside)) in
      record {
        within = first.within;
        stands = first.stands;
        all = grind (arith, cases_order, later_too);
        only = λ place by.
            elim (cases_lt by.release cycle) [
              | inl earlier ↦ omega (arith, first.from_on, taken.only place (record { release = by.release; earlier = earlier; took = by.took }))
              | inr here ↦
                  let same : by.release ≡ cycle = omega (arith, here, by.earlier) in
                  let it : next ≡ place = same_Some _ _ (sym took ∙ ap carried (sym same) ∙ by.took) in
                  omega (arith, it, first.from_on)
            ];
      }

  -- the next request is the first that is left, and no other is
  pub first_left : (cycle next : ℕ) → HasTaken streams slot carried cycle next → IsOfSlot streams slot next → IsFirstLeft streams slot carried cycle next
  first_left cycle next taken of_slot =
      record {
        of_slot = of_slot;
        left = λ by. omega (arith, taken.only next by);
        first = taken.all;
      }

  pub only_first_left : (cycle next place : ℕ) → HasTaken streams slot carried cycle next → IsFirstLeft streams slot carried cycle place → place ≡ next
  only_first_left cycle next place taken first =
      elim (cases_order place next) [
        | inl same ↦ same
        | inr (inl less) ↦ absurd (first.left (taken.all place less first.of_slot))
        | inr (inr more) ↦
            let inside = slice_get_within streams place first.of_slot.stream first.of_slot.at in
            elim ((slice_get_cases streams next).1) [
              | inl found ↦
                  absurd (omega (arith, taken.only next (first.first next more (record { stream = found.0; at = found.2; its_slot = taken.stands found.0 found.2 }))))
              | inr past ↦ absurd (omega (arith, past.0, inside, more))
            ]
      ]

  module _ (layout_cycle : ℕ) (lengths : ℕ → Option ℕ) (ride : IsRide layout_cycle streams slot lengths carried) where
    -- where the next request can be carried, it is taken
    takes_next : (cycle next entry_length : ℕ) (stream : Stream) → HasTaken streams slot carried cycle next → lengths cycle ≡ Some entry_length
        → slice_get streams next ≡ Some stream → CanCarry (cycle * layout_cycle) entry_length stream → carried cycle ≡ Some next
    takes_next cycle next entry_length stream taken released at can =
        (ride.each cycle entry_length next released).1 (record {
          stream = stream;
          at = at;
          first = first_left cycle next taken (record { stream = stream; at = at; its_slot = taken.stands stream at });
          can = can;
        })

    -- what is taken is the next request, and can be carried
    is_next : (cycle next entry_length place : ℕ) → HasTaken streams slot carried cycle next → lengths cycle ≡ Some entry_length → carried cycle ≡ Some place → Carries streams (cycle * layout_cycle) entry_length next place
    is_next cycle next entry_length place taken released took =
        let takes = (ride.each cycle entry_length place released).0 took in
        let same = only_first_left cycle next place taken takes.first in
        record { stream = takes.stream; at = ap (slice_get streams) (sym same) ∙ takes.at; can = takes.can; same = same }

    -- what the instance takes, by the next request alone
    pub takes_by : (cycle next entry_length : ℕ) → HasTaken streams slot carried cycle next → lengths cycle ≡ Some entry_length
        → carried cycle ≡ taken_from streams (cycle * layout_cycle) entry_length next
    takes_by cycle next entry_length taken released =
        same_options (carried cycle) (taken_from streams (cycle * layout_cycle) entry_length next)
        (λ place took.
        let by = is_next cycle next entry_length place taken released took in
        from_carry streams (cycle * layout_cycle) entry_length next by.stream by.at by.can ∙ ap Some (sym by.same))
        (λ place took.
        let by = from_shape streams (cycle * layout_cycle) entry_length next place took in
        takes_next cycle next entry_length by.stream taken released by.at by.can ∙ ap Some (sym by.same))

    pub takes_at : (cycle next : ℕ) → HasTaken streams slot carried cycle next → carried cycle ≡ taken_at layout_cycle streams lengths cycle next
    takes_at cycle next taken = by_length (lengths cycle) refl
      where
        by_length : (released : Option ℕ) → lengths cycle ≡ released → carried cycle ≡ taken_at layout_cycle streams lengths cycle next
        by_length released none = grind (arith, takes_by)

  -- what was taken before the next cycle, where what the instance takes is the next request
  pub then_taken : (cycle next : ℕ) (answer : Option ℕ) → HasTaken streams slot carried cycle next → carried cycle ≡ answer
      → ((place : ℕ) → answer ≡ Some place → (place ≡ next) × (next < length streams))
      → HasTaken streams slot carried (cycle + 1) (next_after streams slot next answer)
  then_taken cycle next None taken is what = still_taken cycle next taken is
  then_taken cycle next (Some place) taken is what = grind (arith, more_taken)

  -- an instance takes its request
  pub take_step : (layout_cycle : ℕ) (lengths : ℕ → Option ℕ) (cycle time next entry_length : ℕ) (answer : Option ℕ) → IsRide layout_cycle streams slot lengths carried
      → HasTaken streams slot carried cycle next → lengths cycle ≡ Some entry_length → time ≡ cycle * layout_cycle → answer ≡ taken_from streams time entry_length next
      → (carried cycle ≡ answer) × HasTaken streams slot carried (cycle + 1) (next_after streams slot next answer)
  take_step layout_cycle lengths cycle time next entry_length answer ride taken released at is =
      let it : carried cycle ≡ answer = takes_by layout_cycle lengths ride cycle next entry_length taken released ∙ ap (λ t. taken_from streams t entry_length next) (sym at) ∙ sym is in (
        it,
        then_taken cycle next answer taken it (λ place some.
            let by = from_shape streams time entry_length next place (sym is ∙ some) in
            (by.same, slice_get_within streams next by.stream by.at)),
      )
