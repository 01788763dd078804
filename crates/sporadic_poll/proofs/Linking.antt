-- Links between requests of one slot, made from the last request to the first.
use Rattle.std.proofs.Common.{◌≡◌, ℕ, ◌+◌, ◌-◌, ◌<◌, ◌≤◌, List, length, get_or, set, Some, All, refl, sym, ap, ◌∙◌, arith}
use Rattle.std.proofs.lemmas.List.{get_or-set_other, get_or-set_same, get_or_default, length-set}
use Rattle.std.proofs.lemmas.List.Elements.{All-get_or}
use Rattle.std.proofs.lemmas.Option.{same_Some, slice_get_read, slice_get_within}
use Rattle.std.specs.List.{slice_get}
use Rattle.sporadic_poll.specs.declared.stream.Stream.{Stream}
use Rattle.sporadic_poll.specs.Ride.{IsOfSlot}
use Rattle.sporadic_poll.specs.Waiting.{AreLinked, first_from}
use Rattle.sporadic_poll.proofs.FirstOf.{first-again, first-end, first-here, first-is, first-next, of_slot-there}

-- the requests from a place on are linked
pub record IsLinking (slots : ℕ) (streams : List Stream) (later next : List ℕ) (from : ℕ) : Type 0 where
  pub all_later : length later ≡ length streams
  pub all_slots : length next ≡ slots
  pub links : (place : ℕ) (stream : Stream) → from ≤ place → slice_get streams place ≡ Some stream
      → get_or later place 0 ≡ first_from streams stream.slot (place + 1)
  pub heads : (slot : ℕ) → slot < slots → get_or next slot 0 ≡ first_from streams slot from

-- none is linked before the last one is
pub none_linked : (slots : ℕ) (streams : List Stream) (later next : List ℕ) → length later ≡ length streams → length next ≡ slots
    → ((slot : ℕ) → slot < slots → get_or next slot 0 ≡ length streams) → IsLinking slots streams later next (length streams)
none_linked slots streams later next all_later all_slots none = grind (arith, slice_get_within, first-end)

-- the request before those that are linked
pub one_linked : (slots : ℕ) (streams : List Stream) (later next : List ℕ) (place : ℕ) (stream : Stream) → IsLinking slots streams later next (place + 1)
    → slice_get streams place ≡ Some stream → stream.slot < slots
    → IsLinking slots streams (set later place (get_or next stream.slot 0)) (set next stream.slot place) place
one_linked slots streams later next place stream linking at known =
    grind (arith, slice_get_within, length-set, same_Some, get_or-set_same, get_or-set_other, first-here, first-next)

-- all are linked
pub all_linked : (slots : ℕ) (streams : List Stream) (later next : List ℕ) → All (λ stream. stream.slot < slots) streams → IsLinking slots streams later next 0
    → AreLinked slots streams later next
all_linked slots streams later next known linking = grind (arith, first-again, first-is)

-- a slot whose next request is taken
pub next_linked : (slots : ℕ) (streams : List Stream) (later next : List ℕ) (slot : ℕ) (stream : Stream) → AreLinked slots streams later next → slot < slots
    → slice_get streams (get_or next slot 0) ≡ Some stream → stream.slot ≡ slot
    → AreLinked slots streams later (set next slot (get_or later (get_or next slot 0) 0))
next_linked slots streams later next slot stream linked known at its_slot =
    let place = get_or next slot 0 in
    let inside = slice_get_within streams place stream at in
    let link : get_or later place 0 ≡ first_from streams slot (place + 1) = rw its_slot at (linked.links place stream at) in
    grind (arith, first-is, get_or-set_same, length-set, first-again, get_or-set_other)

-- the same, by the places that are read and written
pub set_linked : (slots : ℕ) (streams : List Stream) (later next : List ℕ) (left place slot value : ℕ) (stream : Stream) → All (λ stream. stream.slot < slots) streams → IsLinking slots streams later next left
    → 0 < left → left ≤ length streams → stream ≡ get_or streams (left - 1) stream → slot ≡ (get_or streams (left - 1) stream).slot → value ≡ get_or next slot value → place ≡ left - 1
    → IsLinking slots streams (set later place value) (set next slot place) place
set_linked slots streams later next left place slot value stream known linking some inside is its_slot read here =
    let at : slice_get streams place ≡ Some stream = rw here (slice_get_read streams (length streams) (left - 1) stream refl (omega (arith, some, inside)) is) in
    let below : stream.slot < slots = rw (← is) at (All-get_or (λ s. s.slot < slots) streams (left - 1) stream (omega (arith, some, inside)) known) in
    let same : slot ≡ stream.slot = its_slot ∙ ap (λ (s : Stream). s.slot) (sym is) in
    let back : left ≡ place + 1 = omega (arith, here, some) in
    let from : value ≡ get_or next stream.slot 0 = read ∙ get_or_default next slot value 0 (rw (same, linking.all_slots) below) ∙ ap (λ s. get_or next s 0) same in
    rw (from, same) (one_linked slots streams later next place stream (rw back at linking) at below)

-- a number that is read from a list
pub read_at : (list : List ℕ) (i place value : ℕ) → value ≡ get_or list i value → i ≡ place → place < length list → value ≡ get_or list place 0
read_at list i place value is same inside = is ∙ ap (λ k. get_or list k value) same ∙ get_or_default list place value 0 inside

-- the next request of a slot is taken, and what stands behind it is written in its place
module _ (streams : List Stream) (later next : List ℕ) (slot place from after : ℕ) (linked : AreLinked (length next) streams later next) (known : slot < length next)
    (here : place ≡ get_or next slot 0) (inside : place < length streams) (same : from ≡ slot) (read : after ≡ get_or later place after) where
  pub there : IsOfSlot streams slot place
  there =
      let stands : first_from streams slot place ≡ place = rw here (linked.heads slot known) in
      of_slot-there streams slot place place (rw stands at (first-is streams slot place (omega (arith, inside)))) inside

  after_is : after ≡ get_or later place 0
  after_is = read_at later place place after read refl (omega (arith, inside, linked.all_later))

  pub taken_linked : AreLinked (length (set next from after)) streams later (set next from after)
  taken_linked = grind (arith, length-set, there, next_linked, after_is)

  pub next_is : get_or (set next from after) slot 0 ≡ first_from streams slot (place + 1)
  next_is = grind (arith, get_or-set_same, after_is, there)
