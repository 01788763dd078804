-- The instance that carries a request, and how late it may be sent.
use Rattle.std.proofs.Common.{◌≡◌, ℕ, ◌+◌, ◌-◌, ◌*◌, ◌<◌, ◌≤◌, ◌⊎◌, List, length, Option, Some, None, Contains, IfSome, get_or, IsSomeAnd, option_map, refl, sym, ap, ◌∙◌, subst, arith, inl, inr}
use Rattle.std.specs.List.{slice_get}
use Rattle.std.proofs.lemmas.Bool.{cases_lt, cases_order}
use Rattle.std.proofs.lemmas.List.Elements.{All-contains}
use Rattle.std.proofs.lemmas.Option.{get_or_from_slice_get, none-some, same_Some, slice_get-get_or, slice_get_within}
use Rattle.std.proofs.Math.Nat.{div-lt_iff_lt-mul}
use Rattle.requirement_table.specs.declared.entries.Placed.{Placed}
use Rattle.requirement_table.specs.Instance.{Exists, IsReleasedIn, release_of, released_by}
use Rattle.requirement_table.specs.Table.{GoesBefore, IsInRange, IsWellPlaced}
use Rattle.sporadic_poll.specs.declared.stream.Stream.{Stream}
use Rattle.sporadic_poll.specs.Polling.{IsCarriedInTime, IsPolled, IsReleasedWithin, IsStreamAt, arrival_cycle}
use Rattle.sporadic_poll.specs.Ride.{CanCarry, IsOfSlot, IsRide, IsTakenBefore, Releases, length_released}
use Rattle.poll_run.specs.Delay.{lengths_by}

-- what laws of the crates below say, for the proofs here
pub record TimeLaws : Type 0 where
  pub released : (p : Placed) (k c : ℕ) → 1 ≤ p.entry.deadline → p.entry.deadline ≤ p.entry.period → released_by p c ≡ Some k
      → IsReleasedIn p k c
  pub complete : (placed : List Placed) (p : Placed) (k cycle : ℕ) → IsWellPlaced placed → Contains placed p → IsReleasedIn p k cycle
      → length_released placed p.entry.slot cycle ≡ Some p.entry.length
  pub sound : (placed : List Placed) (slot cycle entry_length : ℕ) → IsWellPlaced placed → length_released placed slot cycle ≡ Some entry_length
      → Releases placed slot cycle entry_length
  pub bound : (layout_cycle : ℕ) (streams : List Stream) (slot : ℕ) (lengths carried : ℕ → Option ℕ) (period entry_length place : ℕ) (request : Stream)
      → IsRide layout_cycle streams slot lengths carried → IsPolled layout_cycle streams slot lengths period entry_length place request
      → IsCarriedInTime layout_cycle carried period place request
  pub once : (layout_cycle : ℕ) (streams : List Stream) (slot : ℕ) (lengths carried : ℕ → Option ℕ) → IsRide layout_cycle streams slot lengths carried
      → (one other place : ℕ) → carried one ≡ Some place → carried other ≡ Some place → one ≡ other
  pub can : (layout_cycle : ℕ) (streams : List Stream) (slot : ℕ) (lengths carried : ℕ → Option ℕ) → IsRide layout_cycle streams slot lengths carried
      → (cycle entry_length place : ℕ) (stream : Stream) → lengths cycle ≡ Some entry_length → carried cycle ≡ Some place
      → slice_get streams place ≡ Some stream → (stream.slot ≡ slot) × CanCarry (cycle * layout_cycle) entry_length stream

some-or_none : {X : Type 0} (o : Option X) → ((x : X) × (o ≡ Some x)) ⊎ (o ≡ None)
some-or_none None = inr refl
some-or_none (Some x) = inl (x, refl)

-- an instance that is released before the origin of a later entry of its slot is sent before that, too
ends-before : (end : Option ℕ) (release deadline origin : ℕ) → 1 ≤ deadline → IfSome end (λ e. release < e)
    → IsSomeAnd (option_map (λ e. e + deadline - 1) end) (λ from. from ≤ origin) → release + deadline ≤ origin
ends-before end release deadline origin some there free = grind arith

-- an element stands at a place
place-of : {X : Type 0} (xs : List X) (x : X) → Contains xs x → (k : ℕ) × (slice_get xs k ≡ Some x)
place-of xs x (k, within, is) = (k, slice_get-get_or xs k x within ∙ ap (λ y. Some y) is)

in-order : (placed : List Placed) (i j : ℕ) (p q : Placed) → IsWellPlaced placed → i < j → slice_get placed i ≡ Some p → slice_get placed j ≡ Some q
    → GoesBefore p q
in-order placed i j p q well before at_i at_j = grind (arith, slice_get_within, get_or_from_slice_get)

-- two entries of a well placed list are one, or one stands before the other
one-before : (placed : List Placed) (p q : Placed) → IsWellPlaced placed → Contains placed p → Contains placed q
    → (p ≡ q) ⊎ (GoesBefore p q ⊎ GoesBefore q p)
one-before placed p q well here there =
    let one = place-of placed p here in
    let other = place-of placed q there in
    elim (cases_order one.0 other.0) [
      | inl at ↦ inl (same_Some p q (sym one.1 ∙ ap (slice_get placed) at ∙ other.1))
      | inr apart ↦ elim apart [
        | inl before ↦ inr (inl (in-order placed one.0 other.0 p q well before one.1 other.1))
        | inr behind ↦ inr (inr (in-order placed other.0 one.0 q p well behind other.1 one.1))
      ]
    ]

-- the lengths of a slot's releases below the cycle `next` are those of a well placed list
module _ (laws : TimeLaws) (layout_cycle : ℕ) (streams : List Stream) (placed : List Placed) (next : ℕ) (lengths carried : ℕ → Option ℕ)
    (well : IsWellPlaced placed) (p : Placed) (stands : Contains placed p)
    (same : (cycle : ℕ) → cycle < next → lengths cycle ≡ length_released placed p.entry.slot cycle)
    (ride : IsRide layout_cycle streams p.entry.slot lengths carried) where
  abbrev slot : ℕ
  slot = p.entry.slot

  range : IsInRange p
  range = All-contains IsInRange placed p well.in_range stands

  -- a release of the entry
  record IsReleaseOf (cycle : ℕ) : Type 0 where
    number : ℕ
    released : IsReleasedIn p number cycle
    lengths_are : lengths cycle ≡ Some p.entry.length

  release-at : (cycle : ℕ) → cycle < next → lengths_by p cycle ≡ Some p.entry.length → IsReleaseOf cycle
  release-at cycle early has = grind (arith, early, some-or_none, range, none-some, option_map)

  -- premises about the entry's instances are premises about the slot's
  module _ (place : ℕ) (request : Stream)
      (polled : IsPolled layout_cycle streams slot (lengths_by p) p.entry.period p.entry.length place request)
      (run : arrival_cycle layout_cycle request + p.entry.period + p.entry.deadline ≤ next) where
    abbrev arrival : ℕ
    arrival = arrival_cycle layout_cycle request

    of-slot : IsPolled layout_cycle streams slot lengths p.entry.period p.entry.length place request
    of-slot = record {
      some_time = polled.some_time;
      stands = polled.stands;
      spaced = polled.spaced;
      short = polled.short;
      released = λ one from before within there above below.
          let span = polled.released one from before within there above below in
          let some = range.entry.some_time in
          let early : span.release < next = let by = span.within in omega arith in
          record {
            release = span.release;
            from_on = span.from_on;
            within = span.within;
            releases = (release-at span.release early span.releases).lengths_are;
          };
    }

    -- the entry's first release after the arrival
    abbrev span : IsReleasedWithin (lengths_by p) (arrival + 1) p.entry.period p.entry.length
    span = polled.released place (arrival + 1) request (omega arith) polled.stands (omega arith) (omega arith)

    early : span.release < next
    early = let by = span.within in let some = range.entry.some_time in omega arith

    its-release : IsReleaseOf span.release
    its-release = release-at span.release early span.releases

    carry : IsCarriedInTime layout_cycle carried p.entry.period place request
    carry = laws.bound layout_cycle streams slot lengths carried p.entry.period p.entry.length place request ride of-slot

    -- each earlier request of the slot was taken before that
    earlier-taken : (one : ℕ) → one < place → IsOfSlot streams slot one → IsTakenBefore carried span.release one
    earlier-taken one less there =
        let before : Stream = there.stream in
        let there_stands : IsStreamAt streams slot one before = record { at = there.at; its_slot = there.its_slot } in
        let apart = of-slot.spaced one place before request less (omega arith) there_stands of-slot.stands in
        let in_time = laws.bound layout_cycle streams slot lengths carried p.entry.period p.entry.length one before ride (record {
          some_time = of-slot.some_time;
          stands = there_stands;
          spaced = λ k m first second order within at other. of-slot.spaced k m first second order (omega (arith, within, less)) at other;
          short = λ k first within at. of-slot.short k first (omega (arith, within, less)) at;
          released = λ k from first within at above below. of-slot.released k from first (omega (arith, within, less)) at above (omega (arith, below, apart));
        }) in
        record { release = in_time.release; earlier = (let by = in_time.by in let after = span.from_on in omega arith); took = in_time.took }

    -- the request is taken by that release, at the latest
    taken-by : carry.release ≤ span.release
    taken-by = elim (cases_lt span.release carry.release) [
      | inr by ↦ by
      | inl late ↦
          let arrived : request.at < span.release * layout_cycle = (div-lt_iff_lt-mul of-slot.some_time).0 (let after = span.from_on in omega arith) in
          let takes = (ride.each span.release p.entry.length place its-release.lengths_are).1 (record {
            stream = request;
            at = of-slot.stands.at;
            first = record {
              of_slot = record { stream = request; at = of-slot.stands.at; its_slot = of-slot.stands.its_slot };
              left = λ by.
                  let one = laws.once layout_cycle streams slot lengths carried ride by.release carry.release place by.took carry.took in
                  let earlier = by.earlier in omega arith;
              first = earlier-taken;
            };
            can = record { arrived = arrived; short = of-slot.short place request (omega arith) of-slot.stands };
          }) in
          let one = laws.once layout_cycle streams slot lengths carried ride span.release carry.release place takes carry.took in
          omega arith
    ]

    -- the instance that carries it: an entry of the final list, and a number
    pub record IsCarrier : Type 0 where
      pub entry : Placed
      pub number : ℕ
      pub there : Contains placed entry
      pub of_slot : entry.entry.slot ≡ slot
      pub exists : Exists entry (release_of entry number)
      pub took : carried (release_of entry number) ≡ Some place
      pub short : length request.payload < entry.entry.length
      pub after : arrival < release_of entry number
      pub last : release_of entry number + entry.entry.deadline ≤ arrival + p.entry.period + p.entry.deadline
      pub some_time : 1 ≤ entry.entry.deadline

    -- how late it may be sent
    late-enough : (q : Placed) (number : ℕ) → Contains placed q → q.entry.slot ≡ slot → IsReleasedIn q number carry.release
        → carry.release + q.entry.deadline ≤ arrival + p.entry.period + p.entry.deadline
    late-enough q number there its released =
        let by = carry.by in
        let within = span.within in
        let one = taken-by in
        let some = range.entry.some_time in
        let q_range : IsInRange q = All-contains IsInRange placed q well.in_range there in
        let q_some = q_range.entry.some_time in
        let r = released.release in
        let mine = its-release.released in
        let r_mine = mine.release in
        elim (one-before placed p q well stands there) [
          | inl at ↦ let equal : p.entry.deadline ≡ q.entry.deadline = ap (λ x. x.entry.deadline) at in omega arith
          | inr apart ↦ elim apart [
            | inl before ↦ absurd (grind (arith, ends-before))
            | inr behind ↦
                let gone = ends-before q.end carry.release q.entry.deadline p.origin q_some released.exists (behind its) in
                omega arith
          ]
        ]

    pub carrier : IsCarrier
    carrier =
        let by = taken-by in
        let now : carry.release < next = let until = early in omega arith in
        elim (some-or_none (lengths carry.release)) [
          | inl some ↦
              let releases = laws.sound placed slot carry.release some.0 well (sym (same carry.release now) ∙ some.1) in
              let can = laws.can layout_cycle streams slot lengths carried ride carry.release some.0 place request some.1 carry.took of-slot.stands.at in
              let short = can.1.short in
              let its = releases.its_length in
              let is : carry.release ≡ release_of releases.entry releases.number = sym releases.released.release in
              let after = carry.after in
              let last = late-enough releases.entry releases.number releases.stands releases.of_slot releases.released in
              record {
                entry = releases.entry;
                number = releases.number;
                there = releases.stands;
                of_slot = releases.of_slot;
                exists = subst (Exists releases.entry) is releases.released.exists;
                took = subst (λ r. carried r ≡ Some place) is carry.took;
                short = omega arith;
                after = omega arith;
                last = omega arith;
                some_time = (All-contains IsInRange placed releases.entry well.in_range releases.stands).entry.some_time;
              }
          | inr none ↦ absurd (none-some place (sym (ride.no_more carry.release none) ∙ carry.took))
        ]
