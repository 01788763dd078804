-- Steps of the loops over slots and over frames.
use Rattle.std.proofs.Common.{◌≡◌, inl, inr, ℕ, zero, suc, ◌+◌, ◌*◌, ◌<◌, ◌≤◌, List, [], ◌∷◌, ◌++◌, length, map, take, drop, Option, Some, option_and_then, append_assoc, append-nil, refl, sym, subst, ◌∙◌, arith}
use Rattle.std.proofs.lemmas.Bool.{cases_eq, le-ltb, lt-ltb}
use Rattle.std.proofs.lemmas.List.Sums.{fold-append}
use Rattle.std.proofs.lemmas.Option.{none-some, same_Some}
use Rattle.std.specs.List.{slice_get}
use Rattle.can_frame.specs.DataFrame.{DataFrame}
use Rattle.can_frame.specs.Wire.{wire_length}
use Rattle.can_frame.specs.declared.data_frame.TimedFrame.{TimedFrame}
use Rattle.requirement_table.specs.declared.entries.Placed.{Placed}
use Rattle.bit_sets.specs.Sets.{most_slots}
use Rattle.cycle_engine.specs.SyncWindow.{back_to_back}
use Rattle.sporadic_poll.specs.declared.fate.Fate.{Fate}
use Rattle.sporadic_poll.specs.declared.stream.Stream.{Stream}
use Rattle.sporadic_poll.specs.Ride.{IsRide, length_released}
use Rattle.sporadic_poll.specs.Rides.{AreRidesAt, HasRidden, HaveRidden, IsNoting, Riding, SameSent, noted, polled_frame, ride_sent, sent_anew, slot_sent}
use Rattle.sporadic_poll.proofs.Riding.{same_sent-refl, same_sent-then}

-- the instances of the slots below one took their requests, those of the others not yet
pub record AreTaking (slot : ℕ) (carried : ℕ → ℕ → Option ℕ) (cycle : ℕ) (riding : Riding) : Type 0 where
  pub below : (other : ℕ) → other < slot → other < length riding.queued.next → HasRidden other (carried other) (cycle + 1) riding
  pub above : (other : ℕ) → slot ≤ other → other < length riding.queued.next → HasRidden other (carried other) cycle riding

pub record IsTaking (time cycle : ℕ) (placed : List Placed) (old new : Riding) (slot : ℕ) : Type 0 where
  pub streams : new.queued.streams ≡ old.queued.streams
  pub slots : length new.queued.next ≡ length old.queued.next
  pub taken : (layout_cycle mask : ℕ) (lengths carried : ℕ → ℕ → Option ℕ) → time ≡ cycle * layout_cycle
      → AreRidesAt layout_cycle old.queued.streams (record { cycle = cycle; mask = mask; placed = placed }) lengths carried
      → HaveRidden carried cycle old → AreTaking slot carried cycle new × SameSent old.fates new.fates

pub taking-first : (time cycle : ℕ) (placed : List Placed) (old : Riding) → IsTaking time cycle placed old old 0
taking-first time cycle placed old = record {
  streams = refl;
  slots = refl;
  taken = λ layout_cycle mask lengths carried at rides ridden. (
    record { below = λ other less known. absurd (omega (arith, less)); above = λ other more known. ridden other known },
    same_sent-refl old.fates,
  );
}

pub taking-more : (time cycle : ℕ) (placed : List Placed) (old now new : Riding) (slot : ℕ) → slot < most_slots → slot < length now.queued.next → IsTaking time cycle placed old now slot
    → new.queued.streams ≡ now.queued.streams → length new.queued.next ≡ length now.queued.next
    → ((layout_cycle : ℕ) (lengths carried : ℕ → Option ℕ) → time ≡ cycle * layout_cycle → IsRide layout_cycle now.queued.streams slot lengths carried
    → lengths cycle ≡ length_released placed slot cycle → HasRidden slot carried cycle now
    → HasRidden slot carried (cycle + 1) new × SameSent now.fates new.fates)
    → ((other since : ℕ) (carried : ℕ → Option ℕ) → (other ≡ slot → ⊥) → HasRidden other carried since now → HasRidden other carried since new)
    → IsTaking time cycle placed old new (slot + 1)
taking-more time cycle placed old now new slot few known taking streams slots takes others = record {
  streams = streams ∙ taking.streams;
  slots = slots ∙ taking.slots;
  taken = λ layout_cycle mask lengths carried at rides ridden.
      let so_far = taking.taken layout_cycle mask lengths carried at rides ridden in
      let ride : IsRide layout_cycle now.queued.streams slot (lengths slot) (carried slot) = rw taking.streams (rides.each slot few) in
      let one = takes layout_cycle (lengths slot) (carried slot) at ride (rides.here slot few) (so_far.0.above slot (omega arith) known) in (
        record {
          below = λ other less within. elim (cases_eq other slot) [
            | inl same ↦ subst (λ s. HasRidden s (carried s) (cycle + 1) new) (sym same) one.0
            | inr apart ↦ others other (cycle + 1) (carried other) apart (so_far.0.below other (omega (arith, less, apart)) (omega (arith, within, slots)))
          ];
          above = λ other more within.
              let apart : other ≡ slot → ⊥ = λ same. omega (arith, same, more) in
              others other cycle (carried other) apart (so_far.0.above other (omega (arith, more)) (omega (arith, within, slots)));
        },
        same_sent-then old.fates now.fates new.fates so_far.1 one.1,
      );
}

pub taking-all : (time cycle : ℕ) (placed : List Placed) (old new : Riding) (slots : ℕ) → length old.queued.next ≤ slots → IsTaking time cycle placed old new slots
    → (layout_cycle mask : ℕ) (lengths carried : ℕ → ℕ → Option ℕ) → time ≡ cycle * layout_cycle
    → AreRidesAt layout_cycle old.queued.streams (record { cycle = cycle; mask = mask; placed = placed }) lengths carried
    → HaveRidden carried cycle old → HaveRidden carried (cycle + 1) new × SameSent old.fates new.fates
taking-all time cycle placed old new slots all taking layout_cycle mask lengths carried at rides ridden =
    let it = taking.taken layout_cycle mask lengths carried at rides ridden in
    (λ slot within. it.0.below slot (omega (arith, within, taking.slots, all)) within, it.1)

-- frames that are noted
pub noting-first : (cycle : ℕ) (placed : List Placed) (frames : List TimedFrame) (old : Riding) → IsNoting cycle placed frames old old 0
noting-first cycle placed frames old = record { queued = refl; noted_so_far = λ carried ridden. (ridden, refl) }

-- the fates after one frame more
abbrev step_of : List Stream → (ℕ → ℕ → Option ℕ) → List Placed → ℕ → List Fate → TimedFrame → List Fate
step_of streams carried placed cycle fates sent = noted cycle fates (option_and_then (ride_sent streams carried placed cycle) (slot_sent sent.frame))

pub noting-more : (cycle : ℕ) (placed : List Placed) (frames : List TimedFrame) (old now new : Riding) (count : ℕ) (sent : TimedFrame) → take (count + 1) frames ≡ take count frames ++ sent ∷ []
    → IsNoting cycle placed frames old now count → new.queued ≡ now.queued
    → ((carried : ℕ → ℕ → Option ℕ) → HaveRidden carried (cycle + 1) now → HaveRidden carried (cycle + 1) new
    × (new.fates ≡ noted cycle now.fates (option_and_then (ride_sent now.queued.streams carried placed cycle) (slot_sent sent.frame))))
    → IsNoting cycle placed frames old new (count + 1)
noting-more cycle placed frames old now new count sent more noting queued notes = record {
  queued = queued ∙ noting.queued;
  noted_so_far = λ carried ridden.
      let so_far = noting.noted_so_far carried ridden in
      let one = notes carried so_far.0 in
      let streams = old.queued.streams in (grind (arith, option_and_then, fold-append));
}

-- Frames that are sent

-- nothing more is sent from the end on
pub back-past : (frames : List DataFrame) (at until : ℕ) → until ≤ at → back_to_back frames at until ≡ []
back-past [] at until past = refl
back-past (frame ∷ later) at until past = rw (le-ltb at until past) refl

-- what was sent so far, and what is to come, are all that is to be sent
abbrev pub IsSending : ℕ → List Placed → Riding → List TimedFrame → ℕ → List TimedFrame → ℕ → List TimedFrame → ℕ → ℕ → Type 0
IsSending cycle placed riding frames until old from now at count = (carried : ℕ → ℕ → Option ℕ) → HaveRidden carried (cycle + 1) riding
    → now ++ back_to_back (map (λ sent. polled_frame riding.queued.streams carried placed cycle sent.frame) (drop count frames)) at until
    ≡ old ++ back_to_back (map (λ sent. polled_frame riding.queued.streams carried placed cycle sent.frame) frames) from until

abbrev polled_of : Riding → (ℕ → ℕ → Option ℕ) → List Placed → ℕ → TimedFrame → DataFrame
polled_of riding carried placed cycle sent = polled_frame riding.queued.streams carried placed cycle sent.frame

-- a loop that sends, with room for what is to come
pub record InSend (cycle : ℕ) (placed : List Placed) (riding : Riding) (frames : List TimedFrame) (until : ℕ) (old : List TimedFrame) (from : ℕ) (now : List TimedFrame) (at count room had : ℕ) : Type 0 where
  pub sending : IsSending cycle placed riding frames until old from now at count
  pub room_left : length now + length frames ≤ room + count
  pub no_less : had ≤ room

pub sending-more : (cycle : ℕ) (placed : List Placed) (riding : Riding) (frames : List TimedFrame) (until : ℕ) (old : List TimedFrame) (from : ℕ) (now : List TimedFrame) (at count : ℕ)
    (sent : TimedFrame) (frame : DataFrame) (len : ℕ) → drop count frames ≡ sent ∷ drop (count + 1) frames → at < until → len ≡ wire_length frame
    → ((carried : ℕ → ℕ → Option ℕ) → HaveRidden carried (cycle + 1) riding → frame ≡ polled_frame riding.queued.streams carried placed cycle sent.frame)
    → IsSending cycle placed riding frames until old from now at count
    → IsSending cycle placed riding frames until old from (now ++ record { start = at; len = len; frame = frame } ∷ []) (at + len) (count + 1)
sending-more cycle placed riding frames until old from now at count sent frame len h0 h1 h2 h3 h4 = grind (arith, lt-ltb, append_assoc)

pub sending-past : (cycle : ℕ) (placed : List Placed) (riding : Riding) (frames : List TimedFrame) (until : ℕ) (old : List TimedFrame) (from : ℕ) (now : List TimedFrame) (at count : ℕ) → until ≤ at
    → IsSending cycle placed riding frames until old from now at count → (carried : ℕ → ℕ → Option ℕ) → HaveRidden carried (cycle + 1) riding
    → now ≡ old ++ back_to_back (map (λ sent. polled_frame riding.queued.streams carried placed cycle sent.frame) frames) from until
sending-past cycle placed riding frames until old from now at count past sending carried ridden = grind (arith, append-nil, back-past)

-- what is sent anew, by the first frame
pub anew_first : (polled : DataFrame → DataFrame) (until : ℕ) (window : List TimedFrame) (first : TimedFrame) → slice_get window 0 ≡ Some first
    → sent_anew polled until window ≡ back_to_back (map (λ it. polled it.frame) window) first.start until
anew_first polled until window first is = grind (arith, none-some, same_Some)

drop-end : (frames : List TimedFrame) (count : ℕ) → length frames ≤ count → drop count frames ≡ []
drop-end [] zero all = refl
drop-end [] (suc count) all = refl
drop-end (sent ∷ frames) zero all = absurd (omega (arith, all))
drop-end (sent ∷ frames) (suc count) all = drop-end frames count (omega (arith, all))

pub sending-done : (cycle : ℕ) (placed : List Placed) (riding : Riding) (frames : List TimedFrame) (until : ℕ) (old : List TimedFrame) (from : ℕ) (now : List TimedFrame) (at count : ℕ)
    → length frames ≤ count → IsSending cycle placed riding frames until old from now at count → (carried : ℕ → ℕ → Option ℕ) → HaveRidden carried (cycle + 1) riding
    → now ≡ old ++ back_to_back (map (λ sent. polled_frame riding.queued.streams carried placed cycle sent.frame) frames) from until
sending-done cycle placed riding frames until old from now at count all sending carried ridden = grind (arith, append-nil, drop-end)
