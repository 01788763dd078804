-- Bits and the trace that they record: frame by frame, and as the bits grow.
use Rattle.std.proofs.Common.{◌≡◌, ℕ, ◌+◌, ◌-◌, ◌<◌, ◌≤◌, Bool, true, false, List, [], ◌∷◌, ◌++◌, length, get_or, take, drop, replicate, All, Any, ◌⊎◌, inl, inr, append_assoc, refl, sym, ap, subst, ◌∙◌, arith}
use Rattle.std.proofs.lemmas.Grind.{common_steps}
use Rattle.std.specs.Prelude.{⊤}
use Rattle.std.specs.Bool.{beq}
use Rattle.std.proofs.lemmas.Bool.{cases_lt}
use Rattle.std.proofs.lemmas.List.{ext_get_or, get_or-drop, get_or-take, get_or-replicate, get_or_append_left, get_or-append_right, get_or_default, drop-drop, drop_at, drop-append-le, length-append, length-drop, length-replicate, length-take-le, take-append-drop, replicate_more, take-append-le, take_all, take_at, take_more, take_rest}
use Rattle.std.proofs.Math.Seq.{take-add}
use Rattle.std.proofs.lemmas.List.Elements.{All-head, All-tail, All-push}
use Rattle.can_frame.specs.declared.data_frame.Front.{Front}
use Rattle.can_frame.specs.declared.data_frame.TimedFrame.{TimedFrame}
use Rattle.can_frame.specs.DataFrame.{IsFrame}
use Rattle.can_frame.specs.Wire.{wire_of, wire_length}
use Rattle.can_frame.specs.Reading.{IsFront}
use Rattle.bus_line.specs.Trace.{IsOrdered, end_of, free_after}
use Rattle.bus_line.specs.Recording.{IsOnBus, IsRecording, StandsAt}
use Rattle.bus_line.proofs.Lists.{AllPairs-head, AllPairs-tail, AllPairs-push, Any-nil, Any-cases, Any-push_left, Any-push_last}

-- ---- bits that are all recessive

-- the first bits are recessive
idle_front : (bits : List Bool) (n : ℕ) → n ≤ length bits → ((k : ℕ) → k < n → get_or bits k false ≡ true) → take n bits ≡ replicate n true
idle_front bits n within idle =
    let long : length (take n bits) ≡ n = length-take-le n bits within in
    ext_get_or false (take n bits) (replicate n true) (long ∙ sym (length-replicate n true))
    (λ k h. let below : k < n = omega arith in get_or-take n bits k false below ∙ idle k below ∙ sym (get_or-replicate n k true false below))

-- all bits are recessive
idle_all : (bits : List Bool) (n : ℕ) → length bits ≡ n → ((k : ℕ) → k < n → get_or bits k false ≡ true) → bits ≡ replicate n true
idle_all bits n long idle =
    ext_get_or false bits (replicate n true) (long ∙ sym (length-replicate n true))
    (λ k h. let below : k < n = omega arith in idle k below ∙ sym (get_or-replicate n k true false below))

-- ---- frame by frame

-- the bits up to the end of the last frame, from the time `free` on
abbrev pub frames_of : ℕ → List TimedFrame → List Bool
frames_of free [] = []
frames_of free (sent ∷ later) = replicate (sent.start - free) true ++ (wire_of sent.frame ++ frames_of (end_of sent) later)

-- the frame is a whole one that starts when the bus is free
pub record IsSent (free : ℕ) (sent : TimedFrame) : Type 0 where
  pub when_free : free ≤ sent.start
  pub legal : IsFrame sent.frame
  pub whole : sent.len ≡ wire_length sent.frame

abbrev pub AreSent : ℕ → List TimedFrame → Type 0
AreSent free [] = ⊤
AreSent free (sent ∷ later) = IsSent free sent × AreSent (end_of sent) later

pub record Unrolled (trace : List TimedFrame) (from until : ℕ) (bits : List Bool) : Type 0 where
  pub sent : AreSent from trace
  pub is : bits ≡ frames_of from trace ++ replicate (until - free_after from trace) true

-- a piece of the bits, cut from a later time on
cut_later : (bits wire : List Bool) (n end start from : ℕ) → from ≤ end → end ≤ start → take n (drop (start - from) bits) ≡ wire → take n (drop (start - end) (drop (end - from) bits)) ≡ wire
cut_later bits wire n end start from order after is = grind (arith, drop-drop)

module _ (from until : ℕ) (sent : TimedFrame) (later : List TimedFrame) (bits : List Bool) (h : IsRecording (sent ∷ later) from until bits) where
  head : (from ≤ sent.start) × (end_of sent ≤ until)
  head = All-head (λ x. (from ≤ x.start) × (end_of x ≤ until)) sent later h.within

  apart : All (λ x. end_of sent ≤ x.start) later
  apart = AllPairs-head (λ earlier x. end_of earlier ≤ x.start) sent later h.ordered.apart

  first_bits : (k : ℕ) → k < sent.start - from → get_or bits k false ≡ true
  first_bits k below =
      let place : from + k - from ≡ k = omega arith in
      let P : ℕ → Type 0 = λ n. get_or bits n false ≡ true in
      elim (h.idle (from + k) (omega arith) (omega (arith, head.0, head.1))) [
        | inl any ↦
            absurd
            (grind (arith, apart))
        | inr bit ↦ subst P place bit
      ]

  later_bits : (at : ℕ) → end_of sent ≤ at → at < until → Any (IsOnBus at) later ⊎ (get_or (drop (end_of sent - from) bits) (at - end_of sent) false ≡ true)
  later_bits at after before =
      let place : end_of sent - from + (at - end_of sent) ≡ at - from = omega (arith, head.0) in
      elim (h.idle at (omega (arith, head.0)) before) [
        | inl any ↦
            elim (Any-cases (IsOnBus at) sent later any) [
              | inl now ↦ absurd (omega (arith, now.1))
              | inr soon ↦ inl soon
            ]
        | inr bit ↦ inr (get_or-drop (end_of sent - from) bits (at - end_of sent) false ∙ ap (λ n. get_or bits n false) place ∙ bit)
      ]

  behind : IsRecording later (end_of sent) until (drop (end_of sent - from) bits)
  behind = record {
    ordered = record { lengths = All-tail (λ x. x.len ≡ wire_length x.frame) sent later h.ordered.lengths; apart = AllPairs-tail (λ earlier x. end_of earlier ≤ x.start) sent later h.ordered.apart };
    legal = All-tail (λ x. IsFrame x.frame) sent later h.legal;
    within = λ k d below. (apart k d below, (All-tail (λ x. (from ≤ x.start) × (end_of x ≤ until)) sent later h.within k d below).1);
    long = omega (arith, length-drop (end_of sent - from) bits, h.long, head.0, head.1);
    wires = λ k d below.
        cut_later bits _ _ (end_of sent) (get_or later k d).start from (omega (arith, head.0)) (apart k d below)
        (All-tail (λ x. take x.len (drop (x.start - from) bits) ≡ wire_of x.frame) sent later h.wires k d below);
    idle = later_bits;
  }

  first_sent : IsSent from sent
  first_sent = grind (arith, head)

  cut : bits ≡ replicate (sent.start - from) true ++ (wire_of sent.frame ++ drop (end_of sent - from) bits)
  cut =
      let gap = sent.start - from in
      let places : gap + sent.len ≡ end_of sent - from = omega (arith, head.0) in
      let within : gap ≤ length bits = omega (arith, h.long, head.0, head.1) in
      let idle : take gap bits ≡ replicate gap true = idle_front bits gap within first_bits in
      let wire : take sent.len (drop gap bits) ≡ wire_of sent.frame = All-head (λ x. take x.len (drop (x.start - from) bits) ≡ wire_of x.frame) sent later h.wires in
      let rest : drop sent.len (drop gap bits) ≡ drop (end_of sent - from) bits = drop-drop sent.len gap bits ∙ ap (λ n. drop n bits) places in
      let tail : drop gap bits ≡ wire_of sent.frame ++ drop (end_of sent - from) bits =
      sym (take-append-drop sent.len (drop gap bits)) ∙ ap (λ w. w ++ drop sent.len (drop gap bits)) wire ∙ ap (λ r. wire_of sent.frame ++ r) rest in
      sym (take-append-drop gap bits) ∙ ap (λ w. w ++ drop gap bits) idle ∙ ap (λ r. replicate gap true ++ r) tail

-- the bits are those of the frames, and recessive ones behind them
pub unrolled : (from until : ℕ) (trace : List TimedFrame) (bits : List Bool) → IsRecording trace from until bits → Unrolled trace from until bits
unrolled from until [] bits h =
    let bit : (k : ℕ) → k < until - from → get_or bits k false ≡ true = λ k below.
    let place : from + k - from ≡ k = omega arith in
    let P : ℕ → Type 0 = λ n. get_or bits n false ≡ true in
    elim (h.idle (from + k) (omega arith) (omega arith)) [
      | inl any ↦ absurd (Any-nil (IsOnBus (from + k)) any)
      | inr here ↦ subst P place here
    ] in
    record { sent = tt; is = idle_all bits (until - from) h.long bit }
unrolled from until (sent ∷ later) bits h =
    let rest = unrolled (end_of sent) until later (drop (end_of sent - from) bits) (behind from until sent later bits h) in
    let idle = replicate (until - free_after (end_of sent) later) true in
    let gap = replicate (sent.start - from) true in
    record {
      sent = (first_sent from until sent later bits h, rest.sent);
      is =
          cut from until sent later bits h ∙ ap (λ r. gap ++ (wire_of sent.frame ++ r)) rest.is
          ∙ ap (λ r. gap ++ r) (sym (append_assoc (wire_of sent.frame) (frames_of (end_of sent) later) idle))
          ∙ sym (append_assoc gap (wire_of sent.frame ++ frames_of (end_of sent) later) idle);
    }

-- ---- as the bits grow

-- a piece of the bits stays where more bits come behind
cut_more : (bits more wire : List Bool) (n m : ℕ) → m + n ≤ length bits → take n (drop m bits) ≡ wire → take n (drop m (bits ++ more)) ≡ wire
cut_more bits more wire n m within is = grind (arith, length-drop, drop-append-le, take-append-le)

-- recessive bits behind
pub idle_more : (trace : List TimedFrame) (from until later : ℕ) (bits : List Bool) → from ≤ until → until ≤ later → IsRecording trace from until bits
    → IsRecording trace from later (bits ++ replicate (later - until) true)
idle_more trace from until later bits order after h =
    grind (arith, replicate, length-replicate, length-append, cut_more, cases_lt, get_or_append_left, get_or-append_right, get_or-replicate)

-- the wire of a frame behind
pub frame_more : (trace : List TimedFrame) (from until : ℕ) (sent : TimedFrame) (bits : List Bool) → from ≤ until → IsRecording trace from until bits → IsFrame sent.frame → sent.start ≡ until
    → sent.len ≡ wire_length sent.frame → IsRecording (trace ++ sent ∷ []) from (end_of sent) (bits ++ wire_of sent.frame)
unfolding wire_length
frame_more trace from until sent bits order h legal starts whole =
    let wire = wire_of sent.frame in
    record {
      ordered = record {
        lengths = All-push (λ x. x.len ≡ wire_length x.frame) trace sent h.ordered.lengths whole;
        apart = AllPairs-push (λ earlier x. end_of earlier ≤ x.start) trace sent h.ordered.apart (λ k d below. omega (arith, (h.within k d below).1));
      };
      legal = All-push (λ x. IsFrame x.frame) trace sent h.legal legal;
      within =
          All-push (λ x. (from ≤ x.start) × (end_of x ≤ end_of sent)) trace sent (λ k d below. ((h.within k d below).0, omega (arith, (h.within k d below).1)))
          (omega arith, omega arith);
      long = omega (arith, length-append bits wire, h.long);
      wires = grind (arith, common_steps, cut_more, drop_at, take_all);
      idle = λ at from_on before.
          elim (cases_lt at until) [
            | inl early ↦
                elim (h.idle at from_on early) [
                  | inl any ↦ inl (Any-push_left (IsOnBus at) trace sent any)
                  | inr bit ↦ inr (get_or_append_left bits wire false (at - from) (omega (arith, h.long)) ∙ bit)
                ]
            | inr late ↦ inl (Any-push_last (IsOnBus at) trace sent (omega arith, before))
          ];
    }

-- ---- a reader on its way through the bits

recessive_bit : (bit : Bool) → beq bit true ≡ true → bit ≡ true
recessive_bit bit e = grind arith

-- the next bit is recessive too
pub recessive_more : (bits : List Bool) (from place : ℕ) (d : Bool) → from ≤ place → place < length bits → beq (get_or bits place d) true ≡ true → take place bits ≡ take from bits ++ replicate (place - from) true
    → take (place + 1) bits ≡ take from bits ++ replicate (place + 1 - from) true
recessive_more bits from place d order within bit idle =
    grind (arith, common_steps, take_more, recessive_bit, append_assoc, replicate, replicate_more)

-- behind a frame, and recessive bits behind that
pub recorded_on : (trace : List TimedFrame) (bits : List Bool) (place later : ℕ) (sent : TimedFrame) → place ≤ length bits → IsRecording trace 0 place (take place bits) → StandsAt bits place sent
    → place + sent.len ≤ later → take later bits ≡ take (place + sent.len) bits ++ replicate (later - (place + sent.len)) true → IsRecording (trace ++ sent ∷ []) 0 later (take later bits)
recorded_on trace bits place later sent within h stands order idle =
    let end : end_of sent ≡ place + sent.len = omega (arith, stands.starts) in
    let wire : take place bits ++ wire_of sent.frame ≡ take (place + sent.len) bits = ap (λ w. take place bits ++ w) (sym stands.wire) ∙ sym (take-add place sent.len bits) in
    let P : List Bool → Type 0 = λ front. IsRecording (trace ++ sent ∷ []) 0 (end_of sent) front in
    let Q : ℕ → Type 0 = λ time. IsRecording (trace ++ sent ∷ []) 0 time (take (place + sent.len) bits) in
    let R : List Bool → Type 0 = λ front. IsRecording (trace ++ sent ∷ []) 0 later front in
    let one_more = frame_more trace 0 place sent (take place bits) (omega arith) h stands.legal stands.starts stands.whole in
    subst R (sym idle) (idle_more (trace ++ sent ∷ []) 0 (place + sent.len) later (take (place + sent.len) bits) (omega arith) order (subst Q end (subst P wire one_more)))

-- the frame at the front of the bits from a place on
pub stands_at : (bits : List Bool) (start : ℕ) (front : Front) → start ≤ length bits → IsFront (take (length bits - start) (drop start bits)) front
    → StandsAt bits start (record { start = start; len = front.end; frame = front.frame })
unfolding wire_length
stands_at bits start front within found = grind (arith, common_steps, take_rest, length-append, length-drop, take_at)

-- ---- a writer of the bits of a trace

-- a frame, and the recessive bits before it
pub recorded_next : (trace : List TimedFrame) (from : ℕ) (bits now : List Bool) (sent : TimedFrame) → IsRecording trace from (from + length bits) bits → from + length bits ≤ sent.start
    → IsFrame sent.frame → sent.len ≡ wire_length sent.frame → now ≡ (bits ++ replicate (sent.start - (from + length bits)) true) ++ wire_of sent.frame
    → IsRecording (trace ++ sent ∷ []) from (end_of sent) now
recorded_next trace from bits now sent h order legal whole is =
    let P : List Bool → Type 0 = λ all. IsRecording (trace ++ sent ∷ []) from (end_of sent) all in
    subst P (sym is) (frame_more trace from sent.start sent _ (omega arith) (idle_more trace from (from + length bits) sent.start bits (omega arith) order h) legal refl whole)

-- the bits so far are those of so many frames, and no other starts before them
pub record Written (trace : List TimedFrame) (count from until : ℕ) (bits : List Bool) : Type 0 where
  pub recorded : IsRecording (take count trace) from (from + length bits) bits
  pub few : length bits ≤ until - from
  pub free : (k : ℕ) (d : TimedFrame) → count ≤ k → k < length trace → from + length bits ≤ (get_or trace k d).start

pub written_next : (trace : List TimedFrame) (count from until : ℕ) (bits now : List Bool) (sent : TimedFrame) → IsOrdered trace → All (λ x. (from ≤ x.start) × (end_of x ≤ until)) trace
    → Written trace count from until bits → count < length trace → sent ≡ get_or trace count sent → IsFrame sent.frame
    → now ≡ (bits ++ replicate (sent.start - (from + length bits)) true) ++ wire_of sent.frame → Written trace (count + 1) from until now
written_next trace count from until bits now sent ordered within h below item legal is =
    let Lengths : TimedFrame → Type 0 = λ x. x.len ≡ wire_length x.frame in
    let Within : TimedFrame → Type 0 = λ x. (from ≤ x.start) × (end_of x ≤ until) in
    let Free : TimedFrame → Type 0 = λ x. from + length bits ≤ x.start in
    let back : get_or trace count sent ≡ sent = sym item in
    let whole : sent.len ≡ wire_length sent.frame = subst Lengths back (ordered.lengths count sent below) in
    let inside : (from ≤ sent.start) × (end_of sent ≤ until) = subst Within back (within count sent below) in
    let order : from + length bits ≤ sent.start = subst Free back (h.free count sent (omega arith) below) in
    let next = recorded_next (take count trace) from bits now sent h.recorded order legal whole is in
    let front : take count trace ++ sent ∷ [] ≡ take (count + 1) trace = ap (λ x. take count trace ++ x ∷ []) item ∙ sym (take_more trace count sent below) in
    let time : end_of sent ≡ from + length now = omega (arith, next.long, inside.0) in
    let P : List TimedFrame → Type 0 = λ frames. IsRecording frames from (from + length now) now in
    let Q : ℕ → Type 0 = λ until'. IsRecording (take count trace ++ sent ∷ []) from until' now in
    record {
      recorded = subst P front (subst Q time next);
      few = omega (arith, next.long, inside.0, inside.1);
      free = λ k d after within'.
          let same : end_of (get_or trace count d) ≡ end_of sent = ap end_of (get_or_default trace count d sent below ∙ back) in
          omega (arith, ordered.apart count k d (omega arith) within');
    }

-- the recessive bits behind the last frame
pub written_whole : (trace : List TimedFrame) (count places from until : ℕ) (bits now : List Bool) → Written trace count from until bits → length trace ≤ count
    → All (λ x. (from ≤ x.start) × (end_of x ≤ until)) trace → places ≡ until - from → now ≡ bits ++ replicate (places - length bits) true → IsRecording trace from until now
written_whole trace count places from until bits now h past within known is = grind (arith, common_steps, take_all, replicate, idle_more)
