-- Bits are the line of one trace, or break at one place.
use Rattle.std.proofs.Common.{◌≡◌, ◌≢◌, ℕ, zero, suc, ◌+◌, ◌-◌, ◌<◌, ◌≤◌, Bool, true, false, List, [], ◌∷◌, ◌++◌, length, get_or, take, drop, replicate, Result, Ok, Err, ◌⊎◌, inl, inr, append_assoc, refl, sym, ap, subst, ◌∙◌, arith}
use Rattle.std.proofs.lemmas.Grind.{common_steps}
use Rattle.std.proofs.lemmas.List.{append_cancel_left, drop_more, get_or_past, length-append, length-replicate, take-append-drop}
use Rattle.std.proofs.lemmas.Bool.{cases_lt}
use Rattle.can_frame.specs.declared.data_frame.Front.{Front}
use Rattle.can_frame.specs.declared.data_frame.TimedFrame.{TimedFrame}
use Rattle.can_frame.specs.declared.wire_fault.WireFault.{WireFault}
use Rattle.can_frame.specs.DataFrame.{DataFrame, IsFrame}
use Rattle.can_frame.specs.Wire.{wire_of, wire_length}
use Rattle.can_frame.specs.Reading.{IsFront, ReadsFront}
use Rattle.can_frame.proofs.Shared.{ReadsFront-one, wire-starts}
use Rattle.bus_line.specs.declared.line_fault.LineFault.{LineFault}
use Rattle.bus_line.specs.declared.line_fault.LineFault.TheVariants.{Frame, Memory}
use Rattle.bus_line.specs.Trace.{end_of, free_after}
use Rattle.bus_line.specs.Recording.{IsRecording, BreaksLine, BreaksAt, ReadsLine, counted_from}
use Rattle.bus_line.proofs.Traces.{same_sent}
use Rattle.bus_line.proofs.Recordings.{AreSent, frames_of, unrolled}

-- ---- where the first dominant bit stands

same_idle : (n m : ℕ) (xs ys : List Bool) → replicate n true ++ false ∷ xs ≡ replicate m true ++ false ∷ ys → (n ≡ m) × (xs ≡ ys)
same_idle zero zero xs ys e = (refl, cc)
same_idle zero (suc m) xs ys e = grind (arith, common_steps, replicate)
same_idle (suc n) zero xs ys e = grind (arith, common_steps, replicate)
same_idle (suc n) (suc m) xs ys e =
    let both : true ∷ (replicate n true ++ false ∷ xs) ≡ true ∷ (replicate m true ++ false ∷ ys) = e in
    let rest = same_idle n m xs ys (cc) in
    (ap suc rest.0, rest.1)

idle_only : (n m : ℕ) (xs : List Bool) → replicate n true ≡ replicate m true ++ false ∷ xs → ⊥
idle_only zero zero xs e = absurd (cc)
idle_only zero (suc m) xs e = grind (arith, replicate)
idle_only (suc n) zero xs e = grind (arith, replicate)
idle_only (suc n) (suc m) xs e =
    idle_only n m xs (cc)

-- no frame stands behind the recessive bits at the front
abbrev pub NoFrame : List Bool → Type 0
NoFrame bits = (idle : ℕ) (frame : DataFrame) (rest : List Bool) → IsFrame frame → bits ≡ replicate idle true ++ (wire_of frame ++ rest) → ⊥

-- the frame of an answer
abbrev frame_in : DataFrame → Result Front WireFault → DataFrame
frame_in other (Ok front) = front.frame
frame_in other (Err fault) = other

-- what *Reading* says of the front of bits, and how wires begin
front_of : (frame : DataFrame) (rest : List Bool) → IsFrame frame → IsFront (wire_of frame ++ rest) (record { frame = frame; end = wire_length frame })
front_of frame rest legal = record { legal = legal; rest = rest; split = refl; here = refl }

one_wire : (first second : DataFrame) (rest other : List Bool) → IsFrame first → IsFrame second → wire_of first ++ rest ≡ wire_of second ++ other → first ≡ second
one_wire first second rest other legal legal' e =
    let P : List Bool → Type 0 = λ bits. IsFront bits (record { frame = second; end = wire_length second }) in
    let same = ReadsFront-one (wire_of first ++ rest) (Ok (record { frame = first; end = wire_length first })) (Ok (record { frame = second; end = wire_length second }))
    (front_of first rest legal) (subst P (sym e) (front_of second other legal')) in
    ap (frame_in first) same

-- a wire behind recessive bits, with its first bit told apart
wire_bits : (n : ℕ) (frame : DataFrame) (rest : List Bool) → replicate n true ++ (wire_of frame ++ rest) ≡ replicate n true ++ false ∷ (drop 1 (wire_of frame) ++ rest)
wire_bits n frame rest = ap (λ wire. replicate n true ++ (wire ++ rest)) (wire-starts frame)

idle_has_none : (n : ℕ) → NoFrame (replicate n true)
idle_has_none n idle frame rest legal e = idle_only n idle (drop 1 (wire_of frame) ++ rest) (e ∙ wire_bits idle frame rest)

broken_has_none : (n : ℕ) (bits : List Bool) (fault : WireFault) → ReadsFront (false ∷ bits) (Err fault) → NoFrame (replicate n true ++ false ∷ bits)
broken_has_none n bits fault reads idle frame rest legal e =
    let same = same_idle n idle bits (drop 1 (wire_of frame) ++ rest) (e ∙ wire_bits idle frame rest) in
    let is : false ∷ bits ≡ wire_of frame ++ rest = ap (λ more. false ∷ more) same.1 ∙ sym (ap (λ wire. wire ++ rest) (wire-starts frame)) in
    let P : List Bool → Type 0 = λ found. IsFront found (record { frame = frame; end = wire_length frame }) in
    let both = ReadsFront-one (false ∷ bits) (Ok (record { frame = frame; end = wire_length frame })) (Err fault) (subst P (sym is) (front_of frame rest legal)) reads in
    absurd (cc)

-- the frames at the front of bits are the only ones
same_frames : (free : ℕ) (one other : List TimedFrame) (back back' : List Bool) → AreSent free one → AreSent free other → NoFrame back → NoFrame back'
    → frames_of free one ++ back ≡ frames_of free other ++ back' → (one ≡ other) × (back ≡ back')
same_frames free [] [] back back' h k none none' e = (refl, e)
same_frames free [] (sent ∷ later) back back' h k none none' e = grind (arith, common_steps, frames_of, append_assoc, replicate)
same_frames free (sent ∷ later) [] back back' h k none none' e = grind (arith, common_steps, frames_of, append_assoc, replicate)
same_frames free (x ∷ xs) (y ∷ ys) back back' h k none none' e =
    let rest = frames_of (end_of x) xs ++ back in
    let rest' = frames_of (end_of y) ys ++ back' in
    let is : (frames_of free (x ∷ xs)) ++ back ≡ replicate (x.start - free) true ++ (wire_of x.frame ++ rest) =
    append_assoc (replicate (x.start - free) true) (wire_of x.frame ++ frames_of (end_of x) xs) back ∙ ap (λ r. replicate (x.start - free) true ++ r) (append_assoc (wire_of x.frame) (frames_of (end_of x) xs) back) in
    let is' : (frames_of free (y ∷ ys)) ++ back' ≡ replicate (y.start - free) true ++ (wire_of y.frame ++ rest') =
    append_assoc (replicate (y.start - free) true) (wire_of y.frame ++ frames_of (end_of y) ys) back' ∙ ap (λ r. replicate (y.start - free) true ++ r) (append_assoc (wire_of y.frame) (frames_of (end_of y) ys) back') in
    let both = same_idle (x.start - free) (y.start - free) (drop 1 (wire_of x.frame) ++ rest) (drop 1 (wire_of y.frame) ++ rest')
    (sym (wire_bits (x.start - free) x.frame rest) ∙ sym is ∙ e ∙ is' ∙ wire_bits (y.start - free) y.frame rest') in
    let wires : wire_of x.frame ++ rest ≡ wire_of y.frame ++ rest' =
    ap (λ wire. wire ++ rest) (wire-starts x.frame) ∙ ap (λ more. false ∷ more) both.1 ∙ sym (ap (λ wire. wire ++ rest') (wire-starts y.frame)) in
    let frame : x.frame ≡ y.frame = one_wire x.frame y.frame rest rest' h.0.legal k.0.legal wires in
    let start : x.start ≡ y.start = omega (arith, both.0, h.0.when_free, k.0.when_free) in
    let len : x.len ≡ y.len = h.0.whole ∙ ap wire_length frame ∙ sym k.0.whole in
    let sent : x ≡ y = same_sent x y start len frame in
    let rests : rest ≡ rest' = append_cancel_left (wire_of x.frame) rest rest' (wires ∙ sym (ap (λ f. wire_of f ++ rest') frame)) in
    let ends : end_of y ≡ end_of x = ap end_of (sym sent) in
    let Q : ℕ → Type 0 = λ time. AreSent time ys in
    let more = same_frames (end_of x) xs ys back back' h.1 (subst Q ends k.1) none none' (rests ∙ ap (λ time. frames_of time ys ++ back') ends) in
    (cc, more.1)

-- ---- bits that break

record Broken (bits : List Bool) (start : ℕ) (fault : WireFault) (before : List TimedFrame) : Type 0 where
  sent : AreSent 0 before
  is : bits ≡ frames_of 0 before ++ (replicate (start - free_after 0 before) true ++ false ∷ drop (start + 1) bits)
  here : start ≡ length (frames_of 0 before) + (start - free_after 0 before)
  reads : ReadsFront (false ∷ drop (start + 1) bits) (Err fault)

-- a bit that is not the default stands in the list
in_list : (bits : List Bool) (start : ℕ) → get_or bits start true ≡ false → start < length bits
in_list bits start stands = grind (arith, cases_lt, get_or_past)

broken : (bits : List Bool) (start : ℕ) (fault : WireFault) (h : BreaksAt bits start fault) → Broken bits start fault h.before
broken bits start fault h =
    let rest : drop start bits ≡ false ∷ drop (start + 1) bits =
    drop_more bits start true (in_list bits start h.stands) ∙ ap (λ bit. bit ∷ drop (start + 1) bits) h.stands in
    let u = unrolled 0 start h.before (take start bits) h.recorded in
    let idle = replicate (start - free_after 0 h.before) true in
    let P : List Bool → Type 0 = λ found. ReadsFront found (Err fault) in
    record {
      sent = u.sent;
      is =
          sym (take-append-drop start bits) ∙ ap (λ front. front ++ drop start bits) u.is ∙ append_assoc (frames_of 0 h.before) idle (drop start bits)
          ∙ ap (λ more. frames_of 0 h.before ++ (idle ++ more)) rest;
      here = omega (arith, h.recorded.long, ap length u.is, length-append (frames_of 0 h.before) idle, length-replicate (start - free_after 0 h.before) true);
      reads = subst P rest h.reads;
    }

pub one_break : (bits : List Bool) (start start' : ℕ) (fault fault' : WireFault) → BreaksAt bits start fault → BreaksAt bits start' fault' → (start ≡ start') × (fault ≡ fault')
one_break bits start start' fault fault' h k =
    let s = broken bits start fault h in
    let t = broken bits start' fault' k in
    let both = same_frames 0 h.before k.before _ _ s.sent t.sent (broken_has_none _ _ fault s.reads) (broken_has_none _ _ fault' t.reads) (sym s.is ∙ t.is) in
    let gaps = same_idle _ _ _ _ both.1 in
    let lengths : length (frames_of 0 h.before) ≡ length (frames_of 0 k.before) = ap (λ frames. length (frames_of 0 frames)) both.0 in
    let same : start ≡ start' = omega (arith, s.here, t.here, gaps.0, lengths) in
    let P : ℕ → Type 0 = λ n. ReadsFront (false ∷ drop (n + 1) bits) (Err fault') in
    let faults = ReadsFront-one _ (Err fault) (Err fault') s.reads (subst P (sym same) t.reads) in
    (same, cc)

-- ---- times counted from another

counted_frames : (base free : ℕ) (trace : List TimedFrame) → base ≤ free → AreSent free trace → frames_of (free - base) (counted_from base trace) ≡ frames_of free trace
counted_frames base free [] order h = refl
counted_frames base free (sent ∷ later) order h =
    let gap : sent.start - base - (free - base) ≡ sent.start - free = omega (arith, h.0.when_free) in
    let ends : sent.start - base + sent.len ≡ end_of sent - base = omega (arith, h.0.when_free) in
    ap (λ n. replicate n true ++ (wire_of sent.frame ++ frames_of (sent.start - base + sent.len) (counted_from base later))) gap
    ∙ ap (λ rest. replicate (sent.start - free) true ++ (wire_of sent.frame ++ rest))
    (ap (λ time. frames_of time (counted_from base later)) ends ∙ counted_frames base (end_of sent) later (omega (arith, h.0.when_free)) h.1)

counted_sent : (base free : ℕ) (trace : List TimedFrame) → base ≤ free → AreSent free trace → AreSent (free - base) (counted_from base trace)
counted_sent base free [] order h = tt
counted_sent base free (sent ∷ later) order h =
    let ends : sent.start - base + sent.len ≡ end_of sent - base = omega (arith, h.0.when_free) in
    let P : ℕ → Type 0 = λ time. AreSent time (counted_from base later) in (
      record { when_free = omega (arith, h.0.when_free); legal = h.0.legal; whole = h.0.whole },
      subst P (sym ends) (counted_sent base (end_of sent) later (omega (arith, h.0.when_free)) h.1),
    )

-- a line, with times counted from its first
record FromZero (trace : List TimedFrame) (from until : ℕ) (bits : List Bool) : Type 0 where
  sent : AreSent 0 (counted_from from trace)
  is : bits ≡ frames_of 0 (counted_from from trace) ++ replicate (until - free_after from trace) true

from_zero : (trace : List TimedFrame) (from until : ℕ) (bits : List Bool) → IsRecording trace from until bits → FromZero trace from until bits
from_zero trace from until bits h =
    let u = unrolled from until trace bits h in
    let none : from - from ≡ 0 = omega arith in
    let P : ℕ → Type 0 = λ time. AreSent time (counted_from from trace) in
    record {
      sent = subst P none (counted_sent from from trace (omega arith) u.sent);
      is = grind (arith, common_steps, replicate, counted_frames, frames_of);
    }

-- ---- what a line tells of its trace

pub one_trace : (from until : ℕ) (bits : List Bool) (one other : List TimedFrame) → IsRecording one from until bits → IsRecording other from until bits → one ≡ other
one_trace from until bits one other h k =
    let u = unrolled from until one bits h in
    let v = unrolled from until other bits k in
    (same_frames from one other _ _ u.sent v.sent (idle_has_none (until - free_after from one)) (idle_has_none (until - free_after from other)) (sym u.is ∙ v.is)).0

pub unbroken : (trace : List TimedFrame) (from until : ℕ) (bits : List Bool) (start : ℕ) (fault : WireFault) → IsRecording trace from until bits → BreaksAt bits start fault → ⊥
unbroken trace from until bits start fault h k =
    let u = from_zero trace from until bits h in
    let s = broken bits start fault k in
    let both = same_frames 0 (counted_from from trace) k.before _ _ u.sent s.sent (idle_has_none (until - free_after from trace)) (broken_has_none _ _ fault s.reads) (sym u.is ∙ s.is) in
    idle_only _ _ _ both.1

pub read_back : (trace : List TimedFrame) (from until : ℕ) (bits : List Bool) → IsRecording trace from until bits → (answer : Result (List TimedFrame) LineFault) → ReadsLine bits answer
    → (answer ≡ Err Memory) ⊎ (answer ≡ Ok (counted_from from trace))
read_back trace from until bits h (Ok other) k =
    let u = from_zero trace from until bits h in
    let v = unrolled 0 (length bits) other bits k in
    let both = same_frames 0 other (counted_from from trace) _ _ v.sent u.sent (idle_has_none (length bits - free_after 0 other)) (idle_has_none (until - free_after from trace)) (sym v.is ∙ u.is) in
    inr (ap Ok both.0)
read_back trace from until bits h (Err (Frame start fault)) k = absurd (unbroken trace from until bits start fault h k)
read_back trace from until bits h (Err Memory) k = inl refl

-- a trace has one line
pub one_line : (trace : List TimedFrame) (from until : ℕ) (one other : List Bool) → IsRecording trace from until one → IsRecording trace from until other → one ≡ other
one_line trace from until one other h k = (unrolled from until trace one h).is ∙ sym (unrolled from until trace other k).is

-- bits that break are the line of no trace
pub no_trace : (bits : List Bool) → ((trace : List TimedFrame) (from until : ℕ) (line : List Bool) (start : ℕ) (fault : WireFault) → IsRecording trace from until line → BreaksAt line start fault → ⊥)
    → (fault : LineFault) → BreaksLine bits fault → fault ≢ Memory → (trace : List TimedFrame) → IsRecording trace 0 (length bits) bits → ⊥
no_trace bits unbroken' (Frame start fault) breaks other trace h = unbroken' trace 0 (length bits) bits start fault h breaks
no_trace bits unbroken' Memory breaks other trace h = other refl
