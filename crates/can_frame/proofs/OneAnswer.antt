-- Bits have one answer: what is found at one place is not found before another.
use Rattle.std.proofs.Common.{◌≡◌, ◌≢◌, ℕ, ◌+◌, ◌^◌, ◌<◌, ◌≤◌, ◌⊎◌, Bool, true, cond, List, [], ◌∷◌, ◌++◌, length, reverse, Result, Ok, Err, append_assoc, refl, sym, ap, subst, ◌∙◌, inl, inr, arith}
use Rattle.std.specs.Bool.{beq}
use Rattle.std.proofs.lemmas.List.{append-nil, length-append}
use Rattle.stuff_bound.specs.Stuffing.{run, stuffed}
use Rattle.stuff_bound.proofs.Shared.{run-more, Stuffs-stuffed}
use Rattle.can_frame.specs.declared.wire_fault.WireFault.{WireFault}
use Rattle.can_frame.specs.declared.wire_fault.WireFault.TheVariants.{Stuff, Form, Crc, Short, Tail, Memory}
use Rattle.can_frame.specs.DataFrame.{DataFrame, IsFrame}
use Rattle.can_frame.specs.Crc.{IsSequence, sequence_of}
use Rattle.can_frame.specs.Wire.{covered, with_sequence, plain, trailer, wire_of, wire_length}
use Rattle.can_frame.specs.Reading.{carried, plain_length, IsMisplaced, IsBegun, GoesOn, Reads}
use Rattle.can_frame.proofs.Plain.{length-whole, plain_length-more, IsPlaced-with_sequence, with_sequence_one}
use Rattle.can_frame.proofs.Remainder.{IsRemainder-one, IsSequence-sequence_of}
use Rattle.can_frame.proofs.Carried.{HasNoSix-begun, carried-append, carried-plain, carried-Stuffs}

-- an answer to some bits
abbrev pub Answer : Type 0
Answer = Result DataFrame WireFault

-- ---- where two lists that begin some bits end

-- `front` and `back` are all bits, and so are `first` and `second`
pub data Cut (front back first second : List Bool) : Type 0 where
  same : front ≡ first → back ≡ second → Cut front back first second
  earlier : (bit : Bool) (between : List Bool) → first ≡ front ++ bit ∷ between → back ≡ bit ∷ between ++ second → Cut front back first second
  later : (bit : Bool) (between : List Bool) → front ≡ first ++ bit ∷ between → second ≡ bit ∷ between ++ back → Cut front back first second

cut_behind : (bit : Bool) (front back first second : List Bool) → Cut front back first second → Cut (bit ∷ front) back (bit ∷ first) second
cut_behind bit front back first second (same e k) = same (ap (λ bits. bit ∷ bits) e) k
cut_behind bit front back first second (earlier here between e k) = earlier here between (ap (λ bits. bit ∷ bits) e) k
cut_behind bit front back first second (later here between e k) = later here between (ap (λ bits. bit ∷ bits) e) k

pub cut : (front back first second : List Bool) → front ++ back ≡ first ++ second → Cut front back first second
cut [] back [] second e = same refl e
cut [] back (bit ∷ first) second e = earlier bit first refl e
cut (bit ∷ front) back [] second e = later bit front refl (sym e)
cut (bit ∷ front) back (bit' ∷ first) second e =
    let heads : bit ≡ bit' = cc in
    let tails : front ++ back ≡ first ++ second = cc in
    let P : Bool → Type 0 = λ b. Cut (bit ∷ front) back (b ∷ first) second in
    subst P heads (cut_behind bit front back first second (cut front back first second tails))

-- ---- inside the stuffed part

-- what is wrong at a place of the stuffed part, between the bits before it and those from it on
pub data Stop (before after : List Bool) (answer : Answer) : Type 0 where
  sixth : (bit : Bool) (rest : List Bool) → after ≡ bit ∷ rest → 6 ≤ run (bit ∷ reverse before) → answer ≡ Err (Stuff (length before)) → Stop before after answer
  misplaced : (bit : Bool) (rest : List Bool) → after ≡ bit ∷ rest → run (reverse before) < 5 → length (carried before) < plain_length (carried before)
      → IsMisplaced (carried before) bit → answer ≡ Err (Form (length before)) → Stop before after answer
  ended : after ≡ [] → GoesOn before → answer ≡ Err (Short (length before)) → Stop before after answer

pub record Inside (bits : List Bool) (answer : Answer) : Type 0 where
  pub before : List Bool
  pub after : List Bool
  pub split : bits ≡ before ++ after
  pub begun : IsBegun before
  pub stop : Stop before after answer

-- the bits do not go on as right ones where one of them is wrong
stop_is_wrong : (before after rest between : List Bool) (bit : Bool) (answer : Answer) → Stop before after answer → after ≡ bit ∷ rest → IsBegun (before ++ bit ∷ between) → ⊥
stop_is_wrong before after rest between bit answer (sixth bit' rest' e six is) k begun =
    let none = (HasNoSix-begun before between bit begun.no_six).0 in
    grind arith
stop_is_wrong before after rest between bit answer (misplaced bit' rest' e no_stuff unfinished wrong is) k begun =
    let more = carried-append (before ++ bit ∷ []) between in
    grind (arith, append_assoc, carried-plain)
stop_is_wrong before after rest between bit answer (ended e goes_on is) k begun = absurd (cc)

run_full : (before : List Bool) (bit : Bool) → 6 ≤ run (bit ∷ reverse before) → 5 ≤ run (reverse before)
run_full before bit six = let more = run-more bit (reverse before) in omega arith

inside_cut : (bits : List Bool) (first second : Answer) (h : Inside bits first) (k : Inside bits second) → Cut h.before h.after k.before k.after → first ≡ second
inside_cut bits first second h k (same e f) = grind arith
inside_cut bits first second h k (earlier bit between e f) =
    absurd (stop_is_wrong h.before h.after (between ++ k.after) between bit first h.stop f (subst IsBegun e k.begun))
inside_cut bits first second h k (later bit between e f) =
    absurd (stop_is_wrong k.before k.after (between ++ h.after) between bit second k.stop f (subst IsBegun e h.begun))

-- two answers inside the stuffed part are one
inside_one : (bits : List Bool) (first second : Answer) → Inside bits first → Inside bits second → first ≡ second
inside_one bits first second h k = inside_cut bits first second h k (cut h.before h.after k.before k.after (sym h.split ∙ k.split))

-- ---- behind the stuffed part

-- the stuffed part of a frame is right as far as it goes, and whole
pub IsBegun-stuffed : (frame : DataFrame) (sequence : ℕ) → IsFrame frame → IsBegun (stuffed (with_sequence frame sequence))
IsBegun-stuffed frame sequence legal =
    let whole = Stuffs-stuffed (with_sequence frame sequence) in
    let is = carried-Stuffs _ _ whole in
    record {
      no_six = whole.no_six;
      placed = rw is (IsPlaced-with_sequence frame sequence legal);
      within = rw is (let length_is = length-whole frame sequence legal in omega arith);
    }

-- nothing more of the stuffed part comes behind it
stuffed_is_all : (frame : DataFrame) (sequence : ℕ) (between : List Bool) (bit : Bool) → IsFrame frame → IsBegun (stuffed (with_sequence frame sequence) ++ bit ∷ between) → ⊥
stuffed_is_all frame sequence between bit legal begun =
    let v = with_sequence frame sequence in
    let wire = stuffed v in
    let whole = Stuffs-stuffed v in
    let more = carried-append (wire ++ bit ∷ []) between in
    grind (arith, carried-Stuffs, append_assoc, carried-plain, plain_length-more, length-append)

-- what comes of the bits behind the stuffed part, against those that are due there: the first that differs decides
pub ending : DataFrame → ℕ → List Bool → List Bool → Answer
ending frame place [] [] = Ok frame
ending frame place [] (bit ∷ due) = Err (Short place)
ending frame place (bit ∷ after) [] = Err (Tail place)
ending frame place (bit ∷ after) (bit' ∷ due) = cond (beq bit bit') (ending frame (place + 1) after due) (Err (Form place))

-- what is found behind the stuffed part of a frame, in the bits from there on
pub data End (frame : DataFrame) (sequence : ℕ) (after : List Bool) (answer : Answer) : Type 0 where
  crc : (computed : ℕ) → IsSequence (covered frame) computed → sequence ≢ computed → answer ≡ Err (Crc sequence computed) → End frame sequence after answer
  trailed : sequence ≡ sequence_of (covered frame) → answer ≡ ending frame (length (stuffed (with_sequence frame sequence))) after trailer → End frame sequence after answer

pub record Behind (bits : List Bool) (answer : Answer) : Type 0 where
  pub frame : DataFrame
  pub sequence : ℕ
  pub after : List Bool
  pub legal : IsFrame frame
  pub narrow : sequence < 2 ^ 15
  pub split : bits ≡ stuffed (with_sequence frame sequence) ++ after
  pub end : End frame sequence after answer

-- what is wrong inside the stuffed part is not there where it is whole
stop_in_stuffed : (frame : DataFrame) (sequence : ℕ) (after : List Bool) (answer : Answer) → IsFrame frame → Stop (stuffed (with_sequence frame sequence)) after answer → ⊥
stop_in_stuffed frame sequence after answer legal (sixth bit rest e six is) =
    let ended = (Stuffs-stuffed (with_sequence frame sequence)).ended in
    let full = run_full (stuffed (with_sequence frame sequence)) bit six in omega arith
stop_in_stuffed frame sequence after answer legal (misplaced bit rest e below unfinished wrong is) =
    let carried_is = carried-Stuffs _ _ (Stuffs-stuffed (with_sequence frame sequence)) in
    grind (arith, length-whole)
stop_in_stuffed frame sequence after answer legal (ended e (inl full) is) =
    let ended = (Stuffs-stuffed (with_sequence frame sequence)).ended in omega arith
stop_in_stuffed frame sequence after answer legal (ended e (inr unfinished) is) =
    let carried_is = carried-Stuffs _ _ (Stuffs-stuffed (with_sequence frame sequence)) in
    grind (arith, length-whole)

apart_cut : (bits : List Bool) (first second : Answer) (h : Inside bits first) (k : Behind bits second) → Cut h.before h.after (stuffed (with_sequence k.frame k.sequence)) k.after → ⊥
apart_cut bits first second h k (same e f) =
    let P : List Bool → Type 0 = λ v. Stop v h.after first in
    stop_in_stuffed k.frame k.sequence h.after first k.legal (subst P e h.stop)
apart_cut bits first second h k (earlier bit between e f) =
    stop_is_wrong h.before h.after (between ++ k.after) between bit first h.stop f (subst IsBegun e (IsBegun-stuffed k.frame k.sequence k.legal))
apart_cut bits first second h k (later bit between e f) = grind (arith, stuffed_is_all)

-- no bits have an answer inside the stuffed part and one behind it
apart : (bits : List Bool) (first second : Answer) → Inside bits first → Behind bits second → ⊥
apart bits first second h k = apart_cut bits first second h k (cut h.before h.after _ k.after (sym h.split ∙ k.split))

end_one : (frame : DataFrame) (sequence : ℕ) (after : List Bool) (first second : Answer) → End frame sequence after first → End frame sequence after second → first ≡ second
end_one frame sequence after first second (crc c is wrong e) (crc c' is' wrong' e') =
    e ∙ ap (λ n. Err (Crc sequence n)) (IsRemainder-one _ c c' is is') ∙ sym e'
end_one frame sequence after first second (crc c is wrong e) (trailed right e') =
    absurd (wrong (right ∙ IsRemainder-one _ _ c (IsSequence-sequence_of (covered frame)) is))
end_one frame sequence after first second (trailed right e') (crc c is wrong e) =
    absurd (wrong (right ∙ IsRemainder-one _ _ c (IsSequence-sequence_of (covered frame)) is))
end_one frame sequence after first second (trailed right e) (trailed right' e') = e ∙ sym e'

behind_cut : (bits : List Bool) (first second : Answer) (h : Behind bits first) (k : Behind bits second)
    → Cut (stuffed (with_sequence h.frame h.sequence)) h.after (stuffed (with_sequence k.frame k.sequence)) k.after → first ≡ second
behind_cut bits first second h k (same e f) =
    let plains : with_sequence h.frame h.sequence ≡ with_sequence k.frame k.sequence =
    sym (carried-Stuffs _ _ (Stuffs-stuffed (with_sequence h.frame h.sequence))) ∙ ap carried e ∙ carried-Stuffs _ _ (Stuffs-stuffed (with_sequence k.frame k.sequence)) in
    let one = with_sequence_one h.frame k.frame h.sequence k.sequence h.legal k.legal h.narrow k.narrow plains in
    let P : DataFrame → Type 0 = λ v. End v h.sequence h.after first in
    let Q : ℕ → Type 0 = λ n. End k.frame n h.after first in
    let R : List Bool → Type 0 = λ v. End k.frame k.sequence v first in
    end_one k.frame k.sequence k.after first second (subst R f (subst Q one.1 (subst P one.0 h.end))) k.end
behind_cut bits first second h k (earlier bit between e f) =
    absurd (stuffed_is_all h.frame h.sequence between bit h.legal (subst IsBegun e (IsBegun-stuffed k.frame k.sequence k.legal)))
behind_cut bits first second h k (later bit between e f) =
    absurd (stuffed_is_all k.frame k.sequence between bit k.legal (subst IsBegun e (IsBegun-stuffed h.frame h.sequence h.legal)))

-- two answers behind the stuffed part are one
behind_one : (bits : List Bool) (first second : Answer) → Behind bits first → Behind bits second → first ≡ second
behind_one bits first second h k = behind_cut bits first second h k (cut _ h.after _ k.after (sym h.split ∙ k.split))

-- ---- each answer is inside the stuffed part or behind it

-- a bit is itself
beq_self : (bit : Bool) → beq bit bit ≡ true
beq_self bit = grind arith

-- bits that are due are gone over
ending-append : (frame : DataFrame) (place : ℕ) (before after due : List Bool) → ending frame place (before ++ after) (before ++ due) ≡ ending frame (place + length before) after due
unfolding ending
ending-append frame place [] after due = ap (λ n. ending frame n after due) (omega arith)
ending-append frame place (bit ∷ before) after due =
    let next : place + 1 + length before ≡ place + length (bit ∷ before) = omega arith in
    rw (beq_self bit) (ending-append frame (place + 1) before after due ∙ ap (λ n. ending frame n after due) next)

-- a wire is 13 bits longer than its stuffed part
pub length-wire : (frame : DataFrame) → wire_length frame ≡ length (stuffed (plain frame)) + 13
unfolding wire_length wire_of
length-wire frame = length-append (stuffed (plain frame)) trailer

-- the stuffed part of a frame with its own sequence is behind, with what comes of the bits from there on
trailed_behind : (bits : List Bool) (frame : DataFrame) (after : List Bool) (answer : Answer) → IsFrame frame → bits ≡ stuffed (plain frame) ++ after
    → answer ≡ ending frame (length (stuffed (plain frame))) after trailer → Behind bits answer
unfolding plain
trailed_behind bits frame after answer legal split is = record {
  frame = frame;
  sequence = sequence_of (covered frame);
  after = after;
  legal = legal;
  narrow = (IsSequence-sequence_of (covered frame)).below;
  split = split;
  end = trailed refl is;
}

pub placed_answer : (bits : List Bool) (answer : Answer) → Reads bits answer → Inside bits answer ⊎ Behind bits answer
unfolding wire_of ending
placed_answer bits (Ok frame) h = grind (arith, trailed_behind, ending-append)
placed_answer bits (Err (Stuff place)) h =
    inl (record { before = h.before; after = h.bit ∷ h.after; split = h.split; begun = h.begun; stop = sixth h.bit h.after refl h.sixth (ap (λ n. Err (Stuff n)) h.here) })
placed_answer bits (Err (Form place)) (inl h) =
    inl (record { before = h.before; after = h.bit ∷ h.after; split = h.split; begun = h.begun; stop = misplaced h.bit h.after refl h.no_stuff_place h.unfinished h.misplaced (ap (λ n. Err (Form n)) h.here) })
placed_answer bits (Err (Form place)) (inr h) = grind (arith, ending, ending-append, trailed_behind)
placed_answer bits (Err (Crc sent computed)) h =
    inr (record { frame = h.frame; sequence = sent; after = h.after; legal = h.legal; narrow = h.narrow; split = h.split; end = crc computed h.remainder h.wrong refl })
placed_answer bits (Err (Short have)) (e, inl h) = grind (arith, append-nil)
placed_answer bits (Err (Short have)) (e, inr h) =
    let place' = length (stuffed (plain h.frame)) in
    let long : have ≡ place' + length h.before = e ∙ ap length h.split ∙ length-append (stuffed (plain h.frame)) h.before in
    let is : ending h.frame place' h.before trailer ≡ Err (Short have) =
    ap (λ due. ending h.frame place' h.before due) h.missing ∙ ap (λ after. ending h.frame place' after (h.before ++ h.bit ∷ h.due)) (sym (append-nil h.before))
    ∙ ending-append h.frame place' h.before [] (h.bit ∷ h.due) ∙ ap (λ n. Err (Short n)) (sym long) in
    inr (trailed_behind bits h.frame h.before _ h.legal h.split (sym is))
placed_answer bits (Err (Tail place)) h = grind (arith, length-wire, ending, ending-append, trailed_behind, append_assoc)
placed_answer bits (Err Memory) h = absurd h

either_one : (bits : List Bool) (first second : Answer) → Inside bits first ⊎ Behind bits first → Inside bits second ⊎ Behind bits second → first ≡ second
either_one bits first second (inl h) (inl k) = inside_one bits first second h k
either_one bits first second (inl h) (inr k) = absurd (apart bits first second h k)
either_one bits first second (inr h) (inl k) = absurd (apart bits second first k h)
either_one bits first second (inr h) (inr k) = behind_one bits first second h k

-- *Reading*: bits have one answer
pub Reads-one : (bits : List Bool) (first second : Answer) → Reads bits first → Reads bits second → first ≡ second
Reads-one bits first second h k = either_one bits first second (placed_answer bits first h) (placed_answer bits second k)
