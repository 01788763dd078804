-- The first request of a slot from a place on.
use Rattle.std.proofs.Common.{◌≡◌, ◌≢◌, inl, inr, ℕ, zero, suc, ◌+◌, ◌-◌, ◌<◌, ◌≤◌, ◌==◌, true, false, cond, Bool, List, [], ◌∷◌, length, drop, Some, refl, sym, ap, ◌∙◌, arith}
use Rattle.std.proofs.lemmas.Bool.{cases_order, cases_lt}
use Rattle.std.proofs.lemmas.Bool.Decides.{nat_tests}
use Rattle.std.proofs.lemmas.Option.{none-some, same_Some, slice_get_cases, slice_get_within}
use Rattle.std.proofs.lemmas.List.{length-drop}
use Rattle.std.specs.List.{slice_get}
use Rattle.sporadic_poll.specs.declared.stream.Stream.{Stream}
use Rattle.sporadic_poll.specs.Ride.{IsOfSlot}
use Rattle.sporadic_poll.specs.Waiting.{before_first, first_from}

-- the elements from a place on
slice_get-drop : (streams : List Stream) (from k : ℕ) → slice_get (drop from streams) k ≡ slice_get streams (from + k)
slice_get-drop streams zero k = let same : k ≡ 0 + k = omega arith in ap (slice_get streams) same
slice_get-drop [] (suc from) k = refl
slice_get-drop (stream ∷ streams) (suc from) k =
    let next : suc from + k ≡ suc (from + k) = omega arith in
    slice_get-drop streams from k ∙ ap (slice_get (stream ∷ streams)) (sym next)

-- what stands before the first request of the slot, and at it
record IsCount (slot : ℕ) (streams : List Stream) (count : ℕ) : Type 0 where
  few : count ≤ length streams
  stands : (stream : Stream) → slice_get streams count ≡ Some stream → stream.slot ≡ slot
  none : (k : ℕ) (stream : Stream) → k < count → slice_get streams k ≡ Some stream → stream.slot ≢ slot

count-more : (slot : ℕ) (first : Stream) (streams : List Stream) (count : ℕ) (test : Bool) → (first.slot == slot) ≡ test → IsCount slot streams count
    → IsCount slot (first ∷ streams) (cond test 0 (suc count))
count-more slot first streams count true is later = grind (arith, nat_tests, same_Some)
count-more slot first streams count false is later =
    grind arith

counted : (slot : ℕ) (streams : List Stream) → IsCount slot streams (before_first slot streams)
counted slot [] = record { few = omega arith; stands = λ stream at. absurd (none-some stream at); none = λ k stream before at. absurd (omega (arith, before)) }
counted slot (first ∷ streams) = count-more slot first streams (before_first slot streams) (first.slot == slot) refl (counted slot streams)

-- the first request of the slot from a place on stands at a place; there is none where that is the number of requests
pub record IsFirstFrom (streams : List Stream) (slot from place : ℕ) : Type 0 where
  pub from_on : from ≤ place
  pub within : place ≤ length streams
  pub stands : (stream : Stream) → slice_get streams place ≡ Some stream → stream.slot ≡ slot
  pub none : (k : ℕ) → from ≤ k → k < place → IsOfSlot streams slot k → ⊥

pub first-is : (streams : List Stream) (slot from : ℕ) → from ≤ length streams → IsFirstFrom streams slot from (first_from streams slot from)
unfolding first_from
first-is streams slot from inside =
    let count = counted slot (drop from streams) in
    record {
      from_on = omega arith;
      within = omega (arith, count.few, length-drop from streams, inside);
      stands = λ stream at. count.stands stream (slice_get-drop streams from (before_first slot (drop from streams)) ∙ at);
      none = λ k above below of_slot.
          let there : from + (k - from) ≡ k = omega (arith, above) in
          count.none (k - from) of_slot.stream (omega (arith, above, below))
          (slice_get-drop streams from (k - from) ∙ ap (slice_get streams) there ∙ of_slot.at) of_slot.its_slot;
    }

pub of_slot-there : (streams : List Stream) (slot from place : ℕ) → IsFirstFrom streams slot from place → place < length streams → IsOfSlot streams slot place
of_slot-there streams slot from place first inside =
    elim ((slice_get_cases streams place).1) [
      | inl found ↦ record { stream = found.0; at = found.2; its_slot = first.stands found.0 found.2 }
      | inr past ↦ absurd (omega (arith, past.0, inside))
    ]

-- there is one such place
pub first-one : (streams : List Stream) (slot from one other : ℕ) → IsFirstFrom streams slot from one → IsFirstFrom streams slot from other → one ≡ other
first-one streams slot from one other first second =
    elim (cases_order one other) [
      | inl same ↦ same
      | inr (inl less) ↦ absurd (second.none one first.from_on less (of_slot-there streams slot from one first (omega (arith, less, second.within))))
      | inr (inr more) ↦ absurd (first.none other second.from_on more (of_slot-there streams slot from other second (omega (arith, more, first.within))))
    ]

-- a request of the slot is the first from its place on
pub first-here : (streams : List Stream) (slot place : ℕ) → IsOfSlot streams slot place → first_from streams slot place ≡ place
first-here streams slot place here = grind (arith, slice_get_within, first-one, first-is, same_Some)

-- behind a request of another slot stands the same as from it on
pub first-next : (streams : List Stream) (slot place : ℕ) (stream : Stream) → slice_get streams place ≡ Some stream → stream.slot ≢ slot
    → first_from streams slot place ≡ first_from streams slot (place + 1)
first-next streams slot place stream at other =
    let inside = slice_get_within streams place stream at in
    let next = first-is streams slot (place + 1) (omega (arith, inside)) in
    first-one streams slot place (first_from streams slot place) (first_from streams slot (place + 1)) (first-is streams slot place (omega (arith, inside)))
    (grind (arith, cases_lt, same_Some))

-- from the end on there is none
pub first-end : (streams : List Stream) (slot : ℕ) → first_from streams slot (length streams) ≡ length streams
first-end streams slot = grind (arith, first-is)

-- the first from a place on is the first from its own place on
pub first-again : (streams : List Stream) (slot from : ℕ) → from ≤ length streams → first_from streams slot (first_from streams slot from) ≡ first_from streams slot from
first-again streams slot from inside =
    let first = first-is streams slot from inside in
    elim (cases_lt (first_from streams slot from) (length streams)) [
      | inl there ↦ first-here streams slot (first_from streams slot from) (of_slot-there streams slot from (first_from streams slot from) first there)
      | inr past ↦
          let end : first_from streams slot from ≡ length streams = omega (arith, past, first.within) in
          rw end (first-end streams slot)
    ]
