-- What became of the requests, after the frames of one more cycle.
use Rattle.std.proofs.Common.{◌≡◌, ◌⊎◌, inl, inr, ℕ, zero, suc, ◌<◌, ◌==◌, ◌||◌, Bool, true, List, [], ◌∷◌, ◌++◌, Contains, length, get_or, Option, Some, None, option_and_then, refl, sym, ap, ◌∙◌, arith}
use Rattle.std.specs.Prelude.{if◌then◌else◌}
use Rattle.std.specs.List.{slice_get}
use Rattle.std.proofs.lemmas.Bool.{eq-eqb}
use Rattle.std.proofs.lemmas.List.{length-set}
use Rattle.std.proofs.lemmas.List.Elements.{Contains-append_cases, Contains-append_left, Contains-append_right}
use Rattle.std.proofs.lemmas.Option.{none-some, same_Some, slice_get-get_or, slice_get_within}
use Rattle.can_frame.specs.declared.data_frame.TimedFrame.{TimedFrame}
use Rattle.requirement_table.specs.declared.entries.Placed.{Placed}
use Rattle.requirement_table.specs.Opening.{Opening}
use Rattle.bit_sets.specs.Sets.{has_bit, most_slots}
use Rattle.sporadic_poll.specs.declared.fate.Fate.{Fate}
use Rattle.sporadic_poll.specs.declared.fate.Fate.TheVariants.{Waits, Sent}
use Rattle.sporadic_poll.specs.declared.fate.Ride.{Ride}
use Rattle.sporadic_poll.specs.declared.stream.Stream.{Stream}
use Rattle.sporadic_poll.specs.Polled.{is_polled}
use Rattle.sporadic_poll.specs.Ride.{IsOfSlot, IsRide}
use Rattle.sporadic_poll.specs.Rides.{AreFates, HasRidden, IsSent, SameSent, noted, noted_all, release_in, release_noted, ride_sent, slot_sent, taken_in}
use Rattle.sporadic_poll.specs.Waiting.{HasTaken, Queued}
use Rattle.sporadic_poll.proofs.Carried.{ride_by}
use Rattle.sporadic_poll.proofs.Openings.{Contains-cases}
use Rattle.sporadic_poll.proofs.Riding.{read-set_other, read-set_same}

-- a request that was sent stays so
noted-keeps : (cycle : ℕ) (fates : List Fate) (ride : Option Ride) (place : ℕ) → IsSent fates place → IsSent (noted cycle fates ride) place
noted-keeps cycle fates None place sent = sent
noted-keeps cycle fates (Some ride) place sent = grind (arith, slice_get_within, read-set_same, read-set_other)

noted-back : (cycle : ℕ) (fates : List Fate) (ride : Option Ride) (place release instant : ℕ) → slice_get (noted cycle fates ride) place ≡ Some (Sent release instant)
    → (slice_get fates place ≡ Some (Sent release instant)) ⊎ ((ride ≡ Some (record { release = release; place = place })) × (instant ≡ cycle))
noted-back cycle fates ride place release instant is =
    grind (arith, slice_get_within, length-set, same_Some, read-set_same, read-set_other)

noted-length : (cycle : ℕ) (fates : List Fate) (ride : Option Ride) → length (noted cycle fates ride) ≡ length fates
noted-length cycle fates ride = grind (arith, length-set)

module _ (streams : List Stream) (carried : ℕ → ℕ → Option ℕ) (placed : List Placed) (cycle : ℕ) where
  -- what a frame carries
  abbrev pub ride_of_frame : TimedFrame → Option Ride
  ride_of_frame sent = option_and_then (ride_sent streams carried placed cycle) (slot_sent sent.frame)

  pub record IsAmong (frames : List TimedFrame) (place release : ℕ) : Type 0 where
    pub sent : TimedFrame
    pub among : Contains frames sent
    pub ride : ride_of_frame sent ≡ Some (record { release = release; place = place })

  all-keeps : (frames : List TimedFrame) (fates : List Fate) (place : ℕ) → IsSent fates place → IsSent (noted_all streams carried placed cycle fates frames) place
  all-keeps [] fates place sent = sent
  all-keeps (one ∷ frames) fates place sent = all-keeps frames (noted cycle fates (ride_of_frame one)) place (noted-keeps cycle fates (ride_of_frame one) place sent)

  all-back : (frames : List TimedFrame) (fates : List Fate) (place release instant : ℕ) → slice_get (noted_all streams carried placed cycle fates frames) place ≡ Some (Sent release instant)
      → (slice_get fates place ≡ Some (Sent release instant)) ⊎ (IsAmong frames place release × (instant ≡ cycle))
  all-back [] fates place release instant is = inl is
  all-back (one ∷ frames) fates place release instant is = elim (all-back frames (noted cycle fates (ride_of_frame one)) place release instant is) [
    | inl before ↦ elim (noted-back cycle fates (ride_of_frame one) place release instant before) [
      | inl old ↦ inl old
      | inr here ↦ inr (record { sent = one; among = (0, omega arith, refl); ride = here.0 }, here.1)
    ]
    | inr later ↦ inr (record { sent = later.0.sent; among = (suc later.0.among.0, omega (arith, later.0.among.1), later.0.among.2); ride = later.0.ride }, later.1)
  ]

  all-sets : (frames : List TimedFrame) (fates : List Fate) (place release : ℕ) → place < length fates → IsAmong frames place release
      → IsSent (noted_all streams carried placed cycle fates frames) place
  all-sets [] fates place release inside among = absurd (omega (arith, among.among.1))
  all-sets (one ∷ frames) fates place release inside among =
      by_place (λ rest. all-sets frames (noted cycle fates (ride_of_frame one)) place release (omega (arith, inside, noted-length cycle fates (ride_of_frame one))) rest) among.among
    where
      by_place : (IsAmong frames place release → IsSent (noted_all streams carried placed cycle (noted cycle fates (ride_of_frame one)) frames) place)
          → Contains (one ∷ frames) among.sent → IsSent (noted_all streams carried placed cycle (noted cycle fates (ride_of_frame one)) frames) place
      by_place later (zero, within, is) =
          let ride : ride_of_frame one ≡ Some (record { release = release; place = place }) = ap ride_of_frame is ∙ among.ride in
          all-keeps frames (noted cycle fates (ride_of_frame one)) place (record {
            release = release;
            cycle = cycle;
            is = ap (λ r. slice_get (noted cycle fates r) place) ride ∙ read-set_same fates place (Sent release cycle) inside;
          })
      by_place later (suc k, within, is) = later (record { sent = among.sent; among = (k, omega (arith, within), is); ride = among.ride })

  -- the parts of what a frame carries
  pub record Carries (sent : TimedFrame) (place release : ℕ) : Type 0 where
    pub slot : ℕ
    pub is_slot : slot_sent sent.frame ≡ Some slot
    pub released : release_in placed slot cycle ≡ Some release
    pub took : carried slot release ≡ Some place

  parts : (sent : TimedFrame) (place release : ℕ) → ride_of_frame sent ≡ Some (record { release = release; place = place }) → Carries sent place release
  parts sent place release is = by_slot (slot_sent sent.frame) refl is
    where
      by_test : (slot : ℕ) (test : Bool) → slot_sent sent.frame ≡ Some slot
          → (if test then option_and_then (λ at. ride_by at (carried slot at)) (release_in placed slot cycle) else None)
          ≡ Some (record { release = release; place = place }) → Carries sent place release
      by_test slot test here same = grind (arith, none-some)

      by_slot : (found : Option ℕ) → slot_sent sent.frame ≡ found → option_and_then (ride_sent streams carried placed cycle) found ≡ Some (record { release = release; place = place })
          → Carries sent place release
      by_slot found here same = grind (arith, none-some, by_test)

  made : (sent : TimedFrame) (slot place release : ℕ) → slot_sent sent.frame ≡ Some slot → is_polled streams slot ≡ true → release_in placed slot cycle ≡ Some release
      → carried slot release ≡ Some place → ride_of_frame sent ≡ Some (record { release = release; place = place })
  made sent slot place release is polled released took = rw (is, polled, released, took) refl

-- before the first cycle all requests wait
abbrev pub AllWait : List Fate → Type 0
AllWait fates = (place : ℕ) → place < length fates → get_or fates place Waits ≡ Waits

read-waits : (fates : List Fate) (place : ℕ) (fate : Fate) → AllWait fates → slice_get fates place ≡ Some fate → Waits ≡ fate
read-waits fates place fate all is =
    let inside = slice_get_within fates place fate is in
    same_Some _ _ (ap Some (sym (all place inside)) ∙ sym (slice_get-get_or fates place Waits inside) ∙ is)

none-noted : (fates : List Fate) (place release : ℕ) → AllWait fates → taken_in fates place ≡ Some release → ⊥
none-noted fates place release all is = by_found (slice_get fates place) refl is
  where
    by_found : (found : Option Fate) → slice_get fates place ≡ found → option_and_then release_noted found ≡ Some release → ⊥
    by_found found at same = grind (arith, none-some, read-waits)

pub fresh_ridden : (slot : ℕ) (carried : ℕ → Option ℕ) (queued : Queued) (latest : List (Option Ride)) (fates : List Fate)
    → HasTaken queued.streams slot carried 0 (get_or queued.next slot 0) → AllWait fates → get_or latest slot None ≡ None
    → HasRidden slot carried 0 (record { queued = queued; latest = latest; fates = fates })
fresh_ridden slot carried queued latest fates taken all none = grind (arith, none-noted)

pub fresh_fates : (streams : List Stream) (carried : ℕ → ℕ → Option ℕ) (fates : List Fate) → AllWait fates → AreFates streams [] carried fates
fresh_fates streams carried fates all = grind (arith, none-some, read-waits)

-- a request that an instance takes is one of its slot
pub of_ride : (layout_cycle : ℕ) (streams : List Stream) (slot : ℕ) (lengths carried : ℕ → Option ℕ) → IsRide layout_cycle streams slot lengths carried
    → (release place : ℕ) → carried release ≡ Some place → IsOfSlot streams slot place
of_ride layout_cycle streams slot lengths carried ride release place took = by_length (lengths release) refl
  where
    by_length : (found : Option ℕ) → lengths release ≡ found → IsOfSlot streams slot place
    by_length None is = absurd (none-some place (sym (ride.no_more release is) ∙ took))
    by_length (Some entry_length) is = ((ride.each release entry_length place is).0 took).first.of_slot

-- a slot of which there is a request is polled
pub polled_by : (streams : List Stream) (place : ℕ) (stream : Stream) → slice_get streams place ≡ Some stream → is_polled streams stream.slot ≡ true
polled_by [] place stream at = absurd (omega (arith, slice_get_within [] place stream at))
polled_by (one ∷ streams) zero stream at = rw (eq-eqb one.slot stream.slot (ap (λ (s : Stream). s.slot) (same_Some _ _ at))) refl
polled_by (one ∷ streams) (suc place) stream at = by_test (one.slot == stream.slot) (polled_by streams place stream at)
  where
    by_test : (test : Bool) → is_polled streams stream.slot ≡ true → (test || is_polled streams stream.slot) ≡ true
    by_test test later = grind arith

-- the fates after one more cycle
pub fates_more : (streams : List Stream) (openings : List Opening) (opening : Opening) (carried : ℕ → ℕ → Option ℕ) (old middle : List Fate) (frames : List TimedFrame)
    → SameSent old middle → length middle ≡ length streams
    → ((slot release place : ℕ) → slot < most_slots → carried slot release ≡ Some place → IsOfSlot streams slot place)
    → ((sent : TimedFrame) (slot : ℕ) → Contains frames sent → slot_sent sent.frame ≡ Some slot → (slot < most_slots) × (has_bit opening.mask slot ≡ true))
    → ((slot : ℕ) → is_polled streams slot ≡ true → has_bit opening.mask slot ≡ true → (sent : TimedFrame) × Contains frames sent × (slot_sent sent.frame ≡ Some slot))
    → AreFates streams openings carried old
    → AreFates streams (openings ++ opening ∷ []) carried (noted_all streams carried opening.placed opening.cycle middle frames)
fates_more streams openings opening carried old middle frames same each of_slot flagged sent_all fates = record {
  sent = λ place release cycle is. elim (all-back streams carried opening.placed opening.cycle frames middle place release cycle is) [
    | inl before ↦
        let it = fates.sent place release cycle ((same place release cycle).0 before) in
        record {
          stream = it.stream;
          at = it.at;
          opening = it.opening;
          opened = Contains-append_left openings (opening ∷ []) it.opening it.opened;
          in_cycle = it.in_cycle;
          flagged = it.flagged;
          released = it.released;
          took = it.took;
        }
    | inr now ↦
        let it = parts streams carried opening.placed opening.cycle now.0.sent place release now.0.ride in
        let flag = flagged now.0.sent it.slot now.0.among it.is_slot in
        let of = of_slot it.slot release place flag.0 it.took in
        record {
          stream = of.stream;
          at = of.at;
          opening = opening;
          opened = Contains-append_right openings (opening ∷ []) opening (0, omega arith, refl);
          in_cycle = sym now.1;
          flagged = ap (has_bit opening.mask) of.its_slot ∙ flag.1;
          released = ap (λ s. release_in opening.placed s cycle) of.its_slot ∙ ap (release_in opening.placed it.slot) now.1 ∙ it.released;
          took = ap (λ s. carried s release) of.its_slot ∙ it.took;
        }
  ];
  all = λ place release cycle ridden. elim (Contains-append_cases openings (opening ∷ []) ridden.opening ridden.opened) [
    | inl before ↦
        let it = fates.all place release cycle (grind arith) in
        all-keeps streams carried opening.placed opening.cycle frames middle place (record { release = it.release; cycle = it.cycle; is = (same place it.release it.cycle).1 it.is })
    | inr here ↦ elim (Contains-cases opening [] ridden.opening here) [
      | inl eq ↦
          let slot = ridden.stream.slot in
          let polled = polled_by streams place ridden.stream ridden.at in
          let found = sent_all slot polled (ap (λ (o : Opening). has_bit o.mask slot) eq ∙ ridden.flagged) in
          let released : release_in opening.placed slot opening.cycle ≡ Some release =
          ap (λ (o : Opening). release_in o.placed slot o.cycle) eq ∙ ap (release_in ridden.opening.placed slot) ridden.in_cycle ∙ ridden.released in
          let inside = slice_get_within streams place ridden.stream ridden.at in
          all-sets streams carried opening.placed opening.cycle frames middle place release (omega (arith, inside, each)) (record {
            sent = found.0;
            among = found.1;
            ride = made streams carried opening.placed opening.cycle found.0 slot place release found.2 polled released ridden.took;
          })
      | inr none ↦ absurd (omega (arith, none.1))
    ]
  ];
}
