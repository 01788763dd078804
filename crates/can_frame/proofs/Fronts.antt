-- A frame at the front of bits: one answer, and what it says of all of them.
use Rattle.std.proofs.Common.{◌≡◌, ℕ, ◌<◌, ◌≤◌, Bool, false, List, [], ◌∷◌, ◌++◌, length, drop, Result, Ok, Err, refl, sym, ap, subst, ◌∙◌, inl, inr, arith}
use Rattle.std.proofs.lemmas.Grind.{common_steps}
use Rattle.std.proofs.lemmas.Bool.{cases_lt}
use Rattle.std.proofs.lemmas.List.{append-nil, length-append}
use Rattle.stuff_bound.specs.Stuffing.{stuffed}
use Rattle.stuff_bound.proofs.Shared.{Stuffs-stuffed}
use Rattle.can_frame.specs.declared.data_frame.Front.{Front}
use Rattle.can_frame.specs.declared.wire_fault.WireFault.{WireFault}
use Rattle.can_frame.specs.declared.wire_fault.WireFault.TheVariants.{Tail}
use Rattle.can_frame.specs.DataFrame.{DataFrame, IsFrame}
use Rattle.can_frame.specs.Wire.{header, covered, with_sequence, plain, wire_of, wire_length}
use Rattle.can_frame.specs.Reading.{carried, IsFront, Reads, ReadsFront}
use Rattle.can_frame.proofs.Carried.{carried-append, carried-Stuffs}
use Rattle.can_frame.proofs.OneAnswer.{Cut, cut, Reads-one}
use Rattle.can_frame.proofs.OneAnswer.Cut.{same, earlier, later}

-- an answer as to the front of some bits
abbrev pub FrontAnswer : Type 0
FrontAnswer = Result Front WireFault

-- what is found before a frame is whole is found in the bits
pub Reads-front : (bits : List Bool) (fault : WireFault) → ReadsFront bits (Err fault) → Reads bits (Err fault)
Reads-front bits fault h = grind arith

-- nothing is behind the frame
whole_front : (bits : List Bool) (front : Front) (rest : List Bool) → IsFrame front.frame → bits ≡ wire_of front.frame ++ rest → front.end ≡ wire_length front.frame → length bits ≤ front.end
    → Reads bits (Ok front.frame)
unfolding wire_length
whole_front bits front rest legal split here all = grind (arith, common_steps, append-nil, length-append)

pub Reads-whole : (bits : List Bool) (front : Front) → IsFront bits front → length bits ≤ front.end → Reads bits (Ok front.frame)
Reads-whole bits front h all = whole_front bits front h.rest h.legal h.split h.here all

-- a bit is behind the frame
more_front : (bits : List Bool) (front : Front) (rest : List Bool) → IsFrame front.frame → bits ≡ wire_of front.frame ++ rest → front.end ≡ wire_length front.frame → front.end < length bits
    → Reads bits (Err (Tail front.end))
unfolding wire_length
more_front bits front [] legal split here more = grind (arith, length-append)
more_front bits front (bit ∷ rest) legal split here more = record { frame = front.frame; bit = bit; after = rest; legal = legal; split = split; here = here }

pub Reads-more : (bits : List Bool) (front : Front) → IsFront bits front → front.end < length bits → Reads bits (Err (Tail front.end))
Reads-more bits front h more = more_front bits front h.rest h.legal h.split h.here more

abbrev front_of : DataFrame → ℕ → Front
front_of frame end = record { frame = frame; end = end }

same_front : (first second : Front) → first.frame ≡ second.frame → first.end ≡ wire_length first.frame → second.end ≡ wire_length second.frame → first ≡ second
same_front first second frames ends ends' = grind arith

-- of two wires at the front of the same bits neither goes on behind the other
one_wire : (first second : DataFrame) (back back' : List Bool) → IsFrame first → IsFrame second → Cut (wire_of first) back (wire_of second) back' → first ≡ second
one_wire first second back back' legal legal' (same e k) =
    let one = Reads-one (wire_of first) (Ok first) (Ok second) (legal, refl) (legal', e) in cc
one_wire first second back back' legal legal' (earlier bit between e k) =
    let tail : Reads (wire_of second) (Err (Tail (wire_length first))) = record { frame = first; bit = bit; after = between; legal = legal; split = e; here = refl } in
    let one = Reads-one (wire_of second) (Ok second) (Err (Tail (wire_length first))) (legal', refl) tail in absurd (cc)
one_wire first second back back' legal legal' (later bit between e k) =
    let tail : Reads (wire_of first) (Err (Tail (wire_length second))) = record { frame = second; bit = bit; after = between; legal = legal'; split = e; here = refl } in
    let one = Reads-one (wire_of first) (Ok first) (Err (Tail (wire_length second))) (legal, refl) tail in absurd (cc)

-- where a frame is whole, nothing is found before it is
no_fault : (bits : List Bool) (front : Front) (fault : WireFault) → IsFront bits front → ReadsFront bits (Err fault) → ⊥
no_fault bits front fault h k =
    elim (cases_lt front.end (length bits)) [
      | inl more ↦
          let one = Reads-one bits (Err (Tail front.end)) (Err fault) (Reads-more bits front h more) (Reads-front bits fault k) in
          let same : fault ≡ Tail front.end = cc in
          let P : WireFault → Type 0 = λ found. ReadsFront bits (Err found) in subst P same k
      | inr all ↦
          let one = Reads-one bits (Ok front.frame) (Err fault) (Reads-whole bits front h all) (Reads-front bits fault k) in absurd (cc)
    ]

-- bits have one answer as to their front
pub ReadsFront-one : (bits : List Bool) (first second : FrontAnswer) → ReadsFront bits first → ReadsFront bits second → first ≡ second
ReadsFront-one bits (Ok first) (Ok second) h k =
    ap Ok (same_front first second (one_wire first.frame second.frame h.rest k.rest h.legal k.legal (cut _ h.rest _ k.rest (sym h.split ∙ k.split))) h.here k.here)
ReadsFront-one bits (Ok first) (Err fault) h k = absurd (no_fault bits first fault h k)
ReadsFront-one bits (Err fault) (Ok second) h k = absurd (no_fault bits second fault k h)
ReadsFront-one bits (Err first) (Err second) h k =
    let one = Reads-one bits (Err first) (Err second) (Reads-front bits first h) (Reads-front bits second k) in cc

-- the first bit of a list is at no stuff place
first_carried : (wire plain : List Bool) (bit : Bool) → carried wire ≡ bit ∷ plain → wire ≡ bit ∷ drop 1 wire
first_carried [] plain bit e = absurd (cc)
first_carried (sent ∷ wire) plain bit e =
    let more = carried-append (sent ∷ []) wire in
    grind (arith, same)

-- a wire begins with the start of frame, which is dominant
pub wire-starts : (frame : DataFrame) → wire_of frame ≡ false ∷ drop 1 (wire_of frame)
unfolding wire_of plain with_sequence covered header
wire-starts frame =
    let v = plain frame in
    let first = first_carried (stuffed v) (drop 1 v) false (carried-Stuffs (stuffed v) v (Stuffs-stuffed v)) in
    cc
