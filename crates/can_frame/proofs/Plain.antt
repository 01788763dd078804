-- The plain part of a frame: its length, its fields at their places, and that it is of one frame.
use Rattle.std.proofs.Common.{◌≡◌, ℕ, ◌+◌, ◌*◌, ◌/◌, ◌%◌, ◌^◌, ◌<◌, ◌≤◌, Bool, true, false, List, [], ◌∷◌, ◌++◌, length, take, drop, append_assoc, refl, sym, ap, ap₂, ◌∙◌, arith, lit<}
use Rattle.std.proofs.lemmas.Grind.{common_steps}
use Rattle.std.specs.List.{flat_map, All}
use Rattle.std.proofs.lemmas.Grind.{flat_map-append}
use Rattle.std.proofs.lemmas.List.{append-nil, append_cancel_left, append_cancel_right, length-append, length-drop, take_at, drop_at}
use Rattle.std.proofs.lemmas.List.Elements.{All-head, All-tail}
use Rattle.can_frame.specs.DataFrame.{DataFrame, IsFrame}
use Rattle.stuff_bound.specs.Fields.{bits}
use Rattle.can_frame.specs.Number.{number}
use Rattle.can_frame.specs.Wire.{header, covered, with_sequence}
use Rattle.can_frame.specs.Reading.{plain_length, IsMisplaced, IsPlaced}
use Rattle.can_frame.specs.Reading.IsMisplaced.{start, identifier, reserved, code}
use Rattle.stuff_bound.proofs.Shared.{length-bits, length-bits_of, bits-append}
use Rattle.can_frame.proofs.Fields.{number-bits}

-- two lists that begin with parts of one length begin with one part
pub same_parts : (xs ys vs ws : List Bool) → length xs ≡ length ys → xs ++ vs ≡ ys ++ ws → (xs ≡ ys) × (vs ≡ ws)
same_parts [] [] vs ws h e = (refl, e)
same_parts [] (y ∷ ys) vs ws h e = absurd (omega arith)
same_parts (x ∷ xs) [] vs ws h e = absurd (omega arith)
same_parts (x ∷ xs) (y ∷ ys) vs ws h e =
    let tails : xs ++ vs ≡ ys ++ ws = cc in
    let rest = same_parts xs ys vs ws (omega arith) tails in
    (let parts = rest.0 in cc, rest.1)

-- the first 15 bits, up to the data length code
abbrev pub before_code : ℕ → List Bool
before_code id = (false ∷ []) ++ bits 11 id ++ (false ∷ []) ++ (false ∷ []) ++ (false ∷ [])

header_is : (id n : ℕ) → header id n ≡ before_code id ++ bits 4 n
unfolding header
header_is id n = refl

pub length-before_code : (id : ℕ) → length (before_code id) ≡ 15
length-before_code id = simp (length-append, length-bits 11 id) (omega arith)

pub length-header : (id n : ℕ) → length (header id n) ≡ 19
length-header id n = ap length (header_is id n) ∙ length-append (before_code id) (bits 4 n) ∙ omega (arith, length-before_code id, length-bits 4 n)

-- they are the bits of one number
pub header-bits : (id n : ℕ) → id < 2 ^ 11 → n < 2 ^ 4 → header id n ≡ bits 19 (128 * id + n)
unfolding bits
header-bits id n small few =
    let value : 128 * id + n ≡ id * 8 * 2 ^ 4 + n = omega arith in
    let shifted : id * 8 ≡ id * 2 ^ 3 + 0 = omega arith in
    let alone : id ≡ 0 * 2 ^ 11 + id = omega arith in
    let dominant : List Bool = false ∷ [] in
    let start : bits 12 id ≡ dominant ++ bits 11 id = ap (bits 12) alone ∙ bits-append 1 11 0 id small in
    let fixed : bits 15 (id * 8) ≡ bits 12 id ++ (false ∷ false ∷ false ∷ []) = ap (bits 15) shifted ∙ bits-append 12 3 id 0 (lit< tt) in
    let together : before_code id ≡ (dominant ++ bits 11 id) ++ (false ∷ false ∷ false ∷ []) = simp append_assoc in
    header_is id n ∙ ap (λ field. field ++ bits 4 n) (together ∙ ap (λ field. field ++ (false ∷ false ∷ false ∷ [])) (sym start) ∙ sym fixed)
    ∙ sym (ap (bits 19) value ∙ bits-append 15 4 (id * 8) n few)

pub length-data : (bytes : List ℕ) → length (flat_map (bits 8) bytes) ≡ 8 * length bytes
length-data bytes = length-bits_of bytes

-- one byte more
pub data-more : (bytes : List ℕ) (byte : ℕ) → flat_map (bits 8) (bytes ++ byte ∷ []) ≡ flat_map (bits 8) bytes ++ bits 8 byte
data-more bytes byte = grind (arith, flat_map-append, append-nil)

pub length-covered : (frame : DataFrame) → length (covered frame) ≡ 19 + 8 * length frame.bytes
unfolding covered
length-covered frame = length-append (header frame.identifier (length frame.bytes)) _ ∙ omega (arith, length-header frame.identifier (length frame.bytes), length-data frame.bytes)

pub length-with_sequence : (frame : DataFrame) (sequence : ℕ) → length (with_sequence frame sequence) ≡ 34 + 8 * length frame.bytes
unfolding with_sequence
length-with_sequence frame sequence = length-append (covered frame) (bits 15 sequence) ∙ omega (arith, length-covered frame, length-bits 15 sequence)

-- the code that follows the first 15 bits is in the plain part's length
pub plain_length-code : (id n : ℕ) (rest : List Bool) → n < 16 → plain_length (header id n ++ rest) ≡ 34 + 8 * n
unfolding plain_length
plain_length-code id n rest small =
    let parts : header id n ++ rest ≡ before_code id ++ (bits 4 n ++ rest) = ap (λ v. v ++ rest) (header_is id n) ∙ append_assoc (before_code id) (bits 4 n) rest in
    let dropped : drop 15 (header id n ++ rest) ≡ bits 4 n ++ rest = ap (drop 15) parts ∙ drop_at (before_code id) (bits 4 n ++ rest) 15 (length-before_code id) in
    let taken : take 4 (drop 15 (header id n ++ rest)) ≡ bits 4 n = ap (take 4) dropped ∙ take_at (bits 4 n) rest 4 (length-bits 4 n) in
    ap (λ v. 34 + 8 * number v) taken ∙ ap (λ k. 34 + 8 * k) (number-bits 4 n small)

-- it is not less than 34
pub plain_length-least : (begun : List Bool) → 34 ≤ plain_length begun
unfolding plain_length
plain_length-least begun = omega arith

-- ---- the plain part is of one frame and one sequence

header_one : (id id' n n' : ℕ) → id < 2 ^ 11 → id' < 2 ^ 11 → n < 2 ^ 4 → n' < 2 ^ 4 → header id n ≡ header id' n' → (id ≡ id') × (n ≡ n')
unfolding header
header_one id id' n n' h h' k k' e =
    let parts = same_parts (before_code id) (before_code id') (bits 4 n) (bits 4 n') (length-before_code id ∙ sym (length-before_code id')) e in
    let dominant : List Bool = false ∷ [] in
    let begun = append_cancel_right _ _ dominant (append_cancel_right _ _ dominant (append_cancel_right _ _ dominant parts.0)) in
    let ids : bits 11 id ≡ bits 11 id' = append_cancel_left dominant _ _ begun in
    (sym (number-bits 11 id h) ∙ ap number ids ∙ number-bits 11 id' h', sym (number-bits 4 n k) ∙ ap number parts.1 ∙ number-bits 4 n' k')

data_one : (bytes bytes' : List ℕ) (rest rest' : List Bool) → All (λ byte. byte < 256) bytes → All (λ byte. byte < 256) bytes' → length bytes ≡ length bytes'
    → flat_map (bits 8) bytes ++ rest ≡ flat_map (bits 8) bytes' ++ rest' → (bytes ≡ bytes') × (rest ≡ rest')
data_one [] [] rest rest' small small' h e = (refl, e)
data_one [] (y ∷ ys) rest rest' small small' h e = absurd (omega arith)
data_one (x ∷ xs) [] rest rest' small small' h e = absurd (omega arith)
data_one (x ∷ xs) (y ∷ ys) rest rest' small small' h e =
    let regrouped : bits 8 x ++ (flat_map (bits 8) xs ++ rest) ≡ bits 8 y ++ (flat_map (bits 8) ys ++ rest') = sym (append_assoc (bits 8 x) (flat_map (bits 8) xs) rest) ∙ e ∙ append_assoc (bits 8 y) (flat_map (bits 8) ys) rest' in
    let parts = same_parts (bits 8 x) (bits 8 y) _ _ (length-bits 8 x ∙ sym (length-bits 8 y)) regrouped in
    let tails = data_one xs ys rest rest' (All-tail (λ byte. byte < 256) x xs small) (All-tail (λ byte. byte < 256) y ys small') (omega arith) parts.1 in
    let heads : x ≡ y = sym (number-bits 8 x (All-head (λ byte. byte < 256) x xs small)) ∙ ap number parts.0 ∙ number-bits 8 y (All-head (λ byte. byte < 256) y ys small') in
    (let equal = tails.0 in cc, tails.1)

-- two frames and sequences with one plain part are the same
pub with_sequence_one : (frame frame' : DataFrame) (sequence sequence' : ℕ) → IsFrame frame → IsFrame frame' → sequence < 2 ^ 15 → sequence' < 2 ^ 15
    → with_sequence frame sequence ≡ with_sequence frame' sequence' → (frame ≡ frame') × (sequence ≡ sequence')
unfolding with_sequence covered
with_sequence_one frame frame' sequence sequence' legal legal' h h' e =
    let id = frame.identifier in
    let id' = frame'.identifier in
    let n = length frame.bytes in
    let n' = length frame'.bytes in
    let data_bits = flat_map (bits 8) frame.bytes in
    let data_bits' = flat_map (bits 8) frame'.bytes in
    let regrouped : header id n ++ (data_bits ++ bits 15 sequence) ≡ header id' n' ++ (data_bits' ++ bits 15 sequence') = sym (append_assoc (header id n) data_bits _) ∙ e ∙ append_assoc (header id' n') data_bits' _ in
    let parts = same_parts (header id n) (header id' n') _ _ (length-header id n ∙ sym (length-header id' n')) regrouped in
    let heads = header_one id id' n n' (omega arith) (omega arith) (omega arith) (omega arith) parts.0 in
    let rests = data_one frame.bytes frame'.bytes (bits 15 sequence) (bits 15 sequence') legal.bytes legal'.bytes heads.1 parts.1 in
    let ids : id ≡ id' = heads.0 in
    let datas : frame.bytes ≡ frame'.bytes = rests.0 in
    let made : ℕ → List ℕ → DataFrame = λ id bytes. record { identifier = id; bytes = bytes } in
    (ap₂ made ids datas, sym (number-bits 15 sequence h) ∙ ap number rests.1 ∙ number-bits 15 sequence' h')

-- ---- no bit of a frame's plain part is misplaced

-- the bits up to one of them
begins : (whole front back : List Bool) (bit : Bool) (n : ℕ) → whole ≡ front ++ bit ∷ back → length front + 1 ≡ n → take n whole ≡ front ++ bit ∷ []
begins whole front back bit n e h =
    ap (take n) (e ∙ sym (append_assoc front (bit ∷ []) back))
    ∙ take_at (front ++ bit ∷ []) back n (length-append front (bit ∷ []) ∙ h)

-- of two ways to cut a list, the longer front begins with the shorter one
pub longer : (xs ys vs ws : List Bool) → length xs ≤ length ys → xs ++ vs ≡ ys ++ ws → vs ≡ drop (length xs) ys ++ ws
longer [] ys vs ws h e = e
longer (x ∷ xs) [] vs ws h e = absurd (omega arith)
longer (x ∷ xs) (y ∷ ys) vs ws h e = longer xs ys vs ws (omega arith) (cc)

-- the first three of these bits are dominant
three_dominant : (front back rest : List Bool) (bit : Bool) → length front ≤ 2 → false ∷ false ∷ false ∷ rest ≡ front ++ bit ∷ back → bit ≡ false
three_dominant [] back rest bit h e = cc
three_dominant (a ∷ []) back rest bit h e = cc
three_dominant (a ∷ b ∷ []) back rest bit h e = cc
three_dominant (a ∷ b ∷ c ∷ front) back rest bit h e = absurd (omega arith)

first_dominant : (front back rest : List Bool) (bit : Bool) → length front ≡ 0 → false ∷ rest ≡ front ++ bit ∷ back → bit ≡ false
first_dominant front back rest bit h e = grind (arith, common_steps)

recessive_not : (bit : Bool) → bit ≡ false → bit ≡ true → ⊥
recessive_not bit e k = cc

-- the identifier is in two parts, the first of them its seven most significant bits
pub identifier_parts : (id : ℕ) → bits 11 id ≡ bits 7 (id / 16) ++ bits 4 (id % 16)
identifier_parts id =
    let value : id / 16 * 2 ^ 4 + id % 16 ≡ id = omega arith in
    ap (bits 11) (sym value) ∙ bits-append 7 4 (id / 16) (id % 16) (omega arith)

seven_first : (id n : ℕ) (rest : List Bool) → drop 1 (take 8 (header id n ++ rest)) ≡ bits 7 (id / 16)
unfolding header
seven_first id n rest =
    let parts : header id n ++ rest ≡ (false ∷ bits 7 (id / 16)) ++ (bits 4 (id % 16) ++ (false ∷ false ∷ false ∷ (bits 4 n ++ rest))) =
    ap (λ field. (false ∷ []) ++ field ++ (false ∷ []) ++ (false ∷ []) ++ (false ∷ []) ++ bits 4 n ++ rest) (identifier_parts id) ∙ simp append_assoc in
    let eight : length (false ∷ bits 7 (id / 16)) ≡ 8 = omega (arith, length-bits 7 (id / 16)) in
    ap (λ v. drop 1 (take 8 v)) parts ∙ ap (drop 1) (take_at (false ∷ bits 7 (id / 16)) _ 8 eight)

-- a header and what is behind it has nothing misplaced in the header
pub placed_header : (id n : ℕ) (rest front back : List Bool) (bit : Bool) → id ≤ 0x7EF → n ≤ 8 → header id n ++ rest ≡ front ++ bit ∷ back → ¬ IsMisplaced front bit
unfolding header
placed_header id n rest front back bit in_range few e (start none recessive) = grind (arith, recessive_not, first_dominant)
placed_header id n rest front back bit in_range few e (identifier here all) =
    let seven : drop 1 (take 8 (header id n ++ rest)) ≡ drop 1 (front ++ bit ∷ []) = ap (drop 1) (begins _ front back bit 8 e (omega arith)) in
    let value : number (bits 7 (id / 16)) ≡ 127 = ap number (sym (seven_first id n rest) ∙ seven ∙ all) in
    grind (arith, number-bits)
placed_header id n rest front back bit in_range few e (reserved least most recessive) =
    let begun : List Bool = (false ∷ []) ++ bits 11 id in
    let long : length begun ≡ 12 = omega (arith, length-bits 11 id) in
    let parts : begun ++ (false ∷ false ∷ false ∷ (bits 4 n ++ rest)) ≡ header id n ++ rest = simp append_assoc in
    let behind = longer begun front _ (bit ∷ back) (omega arith) (parts ∙ e) in
    recessive_not bit (three_dominant (drop (length begun) front) back _ bit (omega (arith, length-drop (length begun) front)) behind) recessive
placed_header id n rest front back bit in_range few e (code here above) =
    let nineteen : header id n ≡ front ++ bit ∷ [] = sym (take_at (header id n) rest 19 (length-header id n)) ∙ begins _ front back bit 19 e (omega arith) in
    let four : bits 4 n ≡ drop 15 (front ++ bit ∷ []) = sym (drop_at (before_code id) (bits 4 n) 15 (length-before_code id)) ∙ ap (drop 15) nineteen in
    grind (arith, number-bits)

-- the plain part of a frame, with any sequence, has no misplaced bit
pub IsPlaced-with_sequence : (frame : DataFrame) (sequence : ℕ) → IsFrame frame → IsPlaced (with_sequence frame sequence)
unfolding with_sequence covered
IsPlaced-with_sequence frame sequence legal = grind (arith, placed_header, append_assoc)

-- the length of a frame's plain part is that which its data length code gives
pub length-whole : (frame : DataFrame) (sequence : ℕ) → IsFrame frame → length (with_sequence frame sequence) ≡ plain_length (with_sequence frame sequence)
unfolding with_sequence covered
length-whole frame sequence legal = grind (arith, append_assoc, length-with_sequence, plain_length-code)

-- and it stays so, whatever comes behind it
pub plain_length-more : (frame : DataFrame) (sequence : ℕ) (more : List Bool) → IsFrame frame → plain_length (with_sequence frame sequence ++ more) ≡ length (with_sequence frame sequence)
unfolding with_sequence covered
plain_length-more frame sequence more legal = grind (arith, append_assoc, plain_length-code, length-with_sequence)
