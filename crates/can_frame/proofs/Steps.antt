-- The steps of a reader of wire bits, over lists.
use Rattle.std.proofs.Common.{◌≡◌, ℕ, zero, suc, ◌+◌, ◌*◌, ◌^◌, ◌<◌, ◌≤◌, Bool, true, List, [], ◌∷◌, ◌++◌, length, take, drop, reverse, Err, append_assoc, refl, sym, ap, subst, ◌∙◌, inl, inr, arith, lit<}
use Rattle.std.proofs.lemmas.Grind.{common_steps}
use Rattle.std.proofs.lemmas.List.{append-nil, length-append}
use Rattle.std.proofs.Math.Nat.{pow-suc}
use mir.Val.{bool_byte}
use Rattle.stuff_bound.specs.Stuffing.{run, HasNoSix}
use Rattle.stuff_bound.proofs.Shared.{run-more}
use Rattle.can_frame.specs.declared.wire_fault.WireFault.TheVariants.{Form, Short}
use Rattle.stuff_bound.specs.Fields.{bits}
use Rattle.can_frame.specs.Reading.{carried, plain_length, IsMisplaced, IsPlaced, IsBegun, GoesOn, Reads}
use Rattle.can_frame.specs.Progress.{Progress, all_bits, Expects, Went, EndsPlain}
use Rattle.can_frame.proofs.Carried.{reverse_more, carried-plain}
use Rattle.can_frame.proofs.Fields.{bit_number, bits_more}
use Rattle.can_frame.proofs.OneAnswer.{Answer}
use Rattle.can_frame.proofs.Plain.{same_parts}

-- the next bit is there, and is read
pub record Next (bits : List Bool) (place : ℕ) (bit : Bool) : Type 0 where
  pub within : place < length bits
  pub read : take (place + 1) bits ≡ take place bits ++ bit ∷ []
  pub rest : drop (place + 1) bits ≡ drop 1 (drop place bits)

pub next_bit : (bits : List Bool) (place : ℕ) (bit : Bool) → drop place bits ≡ bit ∷ drop 1 (drop place bits) → Next bits place bit
next_bit [] zero bit e = absurd (cc)
next_bit [] (suc place) bit e = absurd (cc)
next_bit (x ∷ bits) zero bit e = record { within = omega arith; read = (let same : x ≡ bit = cc in ap (λ b. b ∷ []) same); rest = refl }
next_bit (x ∷ bits) (suc place) bit e =
    let more = next_bit bits place bit e in
    grind arith

-- ---- one bit, from one progress to the next

-- the reader went over the next bit
pub record Stepped (old new : Progress) (bit : Bool) : Type 0 where
  pub next : old.rest ≡ bit ∷ drop 1 old.rest
  pub is : new ≡ record { read = old.read ++ bit ∷ []; rest = drop 1 old.rest }

all_stepped : (old new : Progress) (bit : Bool) → Stepped old new bit → all_bits new ≡ all_bits old
all_stepped old new bit h = grind (arith, append_assoc)

-- nothing was read
pub went_none : (at : Progress) → HasNoSix (reverse at.read) → Went at at []
went_none at h = record { all = refl; no_six = h; carried = sym (append-nil (carried at.read)) }

no_six_more : (read : List Bool) (bit : Bool) → run (bit ∷ reverse read) < 6 → HasNoSix (reverse read) → HasNoSix (reverse (read ++ bit ∷ []))
no_six_more read bit below h = subst HasNoSix (sym (reverse_more read bit)) (below, h)

-- a bit of the plain part was read
pub went_plain : (old new : Progress) (bit : Bool) → Stepped old new bit → run (reverse old.read) < 5 → HasNoSix (reverse old.read) → Went old new (bit ∷ [])
went_plain old new bit h short no_six = grind (arith, all_stepped, no_six_more, run-more, carried-plain)

-- one part of the way after another
pub went_then : (old mid new : Progress) (field more : List Bool) → Went old mid field → Went mid new more → Went old new (field ++ more)
went_then old mid new field more h k = grind (arith, append_assoc)

-- ---- what is found on the way

-- what is found in the bits is found in the bits that the reader was given at first
pub Reads_given : (old mid : Progress) (answer : Answer) → all_bits mid ≡ all_bits old → Reads (all_bits mid) answer → Reads (all_bits old) answer
Reads_given old mid answer is h = let P : List Bool → Type 0 = λ given. Reads given answer in subst P is h

-- the bits that were read are right so far where these of the plain part are
pub IsBegun-read : (at : Progress) (v : List Bool) → HasNoSix (reverse at.read) → carried at.read ≡ v → IsPlaced v → length v ≤ plain_length v → IsBegun at.read
IsBegun-read at v no_six is placed within = grind arith

-- and so are they where more is expected
pub IsBegun-expected : (at : Progress) (width : ℕ) → 0 < width → Expects at width → IsBegun at.read
IsBegun-expected at width some h =
    IsBegun-read at (carried at.read ++ []) h.no_six (sym (append-nil (carried at.read))) (h.placed [] some) (omega arith)

-- the bits end where the stuffed part goes on
pub short_found : (at : Progress) (have : ℕ) → at.rest ≡ [] → have ≡ length (all_bits at) → IsBegun at.read → GoesOn at.read → Reads (all_bits at) (Err (Short have))
short_found at have none is begun goes_on = grind (arith, append-nil)

-- the bits end behind a stuff bit, or without one
pub short_after : (old mid : Progress) (have : ℕ) → Expects old 1 → Went old mid [] → mid.rest ≡ [] → have ≡ length (all_bits mid) → Reads (all_bits old) (Err (Short have))
short_after old mid have h went none is =
    let v = carried old.read ++ [] in
    let unfinished : length v < plain_length v = h.unfinished [] (lit< tt) in
    let begun = IsBegun-read mid v went.no_six went.carried (h.placed [] (lit< tt)) (omega arith) in
    Reads_given old mid (Err (Short have)) went.all (short_found mid have none is begun (inr (rw went.carried unfinished)))

-- ---- a misplaced bit

-- two lists with one more bit each that are equal were equal, and the bits are
push_one : (first second : List Bool) (bit bit' : Bool) → first ++ bit ∷ [] ≡ second ++ bit' ∷ [] → (first ≡ second) × (bit ≡ bit')
push_one first second bit bit' e = grind (arith, common_steps, length-append, same_parts)

-- the bit that was read last is misplaced
pub form_found : (old new : Progress) (field : List Bool) (bit : Bool) (place : ℕ) → Went old new (field ++ bit ∷ []) → EndsPlain new.read
    → IsPlaced (carried old.read ++ field) → length (carried old.read ++ field) < plain_length (carried old.read ++ field)
    → IsMisplaced (carried old.read ++ field) bit → place + 1 ≡ length new.read → Reads (all_bits old) (Err (Form place))
form_found old new field bit place went last placed unfinished wrong here =
    let v = carried old.read ++ field in
    let both : carried last.before ++ last.bit ∷ [] ≡ v ++ bit ∷ [] =
    sym (carried-plain last.before last.bit last.no_stuff_place) ∙ ap carried (sym last.split) ∙ went.carried ∙ sym (append_assoc (carried old.read) field (bit ∷ [])) in
    let one = push_one (carried last.before) v last.bit bit both in
    let sent : reverse new.read ≡ last.bit ∷ reverse last.before = ap reverse last.split ∙ reverse_more last.before last.bit in
    let long : length new.read ≡ length last.before + 1 = ap length last.split ∙ length-append last.before (last.bit ∷ []) in
    let at : Progress = record { read = last.before; rest = last.bit ∷ new.rest } in
    inl (grind (arith, append_assoc, IsBegun-read))

-- a recessive bit was read where none may be
pub recessive_found : (old new : Progress) (bit : Bool) (place : ℕ) → bit ≡ true → Expects old 1 → Went old new (bit ∷ []) → EndsPlain new.read
    → IsMisplaced (carried old.read) true → place + 1 ≡ length new.read → Reads (all_bits old) (Err (Form place))
recessive_found old new bit place recessive h went last wrong here =
    let none = append-nil (carried old.read) in
    form_found old new [] bit place went last (h.placed [] (lit< tt)) (h.unfinished [] (lit< tt)) (rw none (rw recessive wrong)) here

-- ---- a field, bit by bit

nothing : (more : List Bool) → length more < 1 → more ≡ []
nothing more h = grind (arith, common_steps)

bool_byte_is : (bit : Bool) → bool_byte bit ≡ bit_number bit
bool_byte_is bit = grind arith

-- where a field is expected, and some of it was read, another bit is expected
pub expects_more : (old mid : Progress) (field : List Bool) (width : ℕ) → Expects old width → Went old mid field → length field < width → Expects mid 1
expects_more old mid field width h went below = grind (arith, nothing, append-nil)

-- the value of a field with one more bit
pub field_more : (old mid new : Progress) (width value b : ℕ) (bit : Bool) → Went old mid (bits width value) → Went mid new (bit ∷ []) → b ≡ bool_byte bit
    → Went old new (bits (width + 1) (2 * value + b))
field_more old mid new width value b bit h k is = grind (arith, bit_number, bool_byte_is, bits_more, went_then)

-- and its bound
pub value_more : (width value b : ℕ) (bit : Bool) → b ≡ bool_byte bit → value < 2 ^ width → 2 * value + b < 2 ^ (width + 1)
value_more width value b bit is below = grind (arith, common_steps, pow-suc)
