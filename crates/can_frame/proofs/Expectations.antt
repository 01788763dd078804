-- What a reader expects, field by field of a frame.
use Rattle.std.proofs.Common.{◌≡◌, ◌≢◌, ℕ, ◌+◌, ◌*◌, ◌/◌, ◌%◌, ◌^◌, ◌<◌, ◌≤◌, ◌==◌, Bool, true, false, List, [], ◌∷◌, ◌++◌, length, take, drop, reverse, Err, append_assoc, refl, sym, ap, subst, ◌∙◌, arith, lit<, lit≤}
use Rattle.std.proofs.lemmas.Grind.{common_steps}
use Rattle.std.specs.List.{flat_map}
use Rattle.std.proofs.lemmas.List.{append-nil, length-append, length-take-le, reverse-reverse, drop_at}
use Rattle.stuff_bound.specs.Stuffing.{run, HasNoSix, stuffed}
use Rattle.stuff_bound.proofs.Shared.{stuffed_only}
use Rattle.can_frame.specs.declared.wire_fault.WireFault.TheVariants.{Form}
use Rattle.can_frame.specs.DataFrame.{DataFrame}
use Rattle.stuff_bound.specs.Fields.{bits}
use Rattle.can_frame.specs.Number.{number}
use Rattle.can_frame.specs.Wire.{header, covered, with_sequence}
use Rattle.can_frame.specs.Reading.{carried, IsMisplaced, IsPlaced, IsBegun, Reads}
use Rattle.can_frame.specs.Reading.IsMisplaced.{identifier, code}
use Rattle.can_frame.specs.Progress.{Progress, all_bits, Expects, Went, EndsPlain}
use Rattle.stuff_bound.proofs.Shared.{length-bits, bits-append}
use Rattle.can_frame.proofs.Fields.{number-bits}
use Rattle.can_frame.proofs.Plain.{before_code, placed_header, plain_length-code, plain_length-least, length-header, length-data}
use Rattle.can_frame.proofs.OneAnswer.{Cut, cut}
use Rattle.can_frame.proofs.OneAnswer.Cut.{same, earlier, later}
use Rattle.can_frame.proofs.Steps.{form_found, went_then}

-- a place at which no bit is misplaced
pub record IsFree (place : ℕ) : Type 0 where
  pub started : place ≢ 0
  pub seventh : place ≢ 7
  pub reserved : 12 ≤ place → place ≤ 14 → ⊥
  pub last : place ≢ 18

free_right : (front : List Bool) (bit : Bool) → IsFree (length front) → ¬ IsMisplaced front bit
free_right front bit h = grind arith

placed_cut : (plain field front back : List Bool) (bit : Bool) → IsPlaced plain → ((place : ℕ) → length plain ≤ place → place < length plain + length field → IsFree place)
    → Cut plain field front (bit ∷ back) → ¬ IsMisplaced front bit
placed_cut plain field front back bit placed free (same e k) =
    let long : length plain ≡ length front = ap length e in
    let some : length field ≡ length back + 1 = ap length k ∙ omega arith in
    free_right front bit (free (length front) (omega arith) (omega arith))
placed_cut plain field front back bit placed free (earlier bit' between e k) =
    let long : length front ≡ length plain + length (bit' ∷ between) = ap length e ∙ length-append plain (bit' ∷ between) in
    let some : length field ≡ length (bit' ∷ between) + length (bit ∷ back) = ap length k ∙ length-append (bit' ∷ between) (bit ∷ back) in
    free_right front bit (free (length front) (omega arith) (omega arith))
placed_cut plain field front back bit placed free (later bit' between e k) = grind arith

-- bits at free places may be any
pub placed_more : (plain field : List Bool) → IsPlaced plain → ((place : ℕ) → length plain ≤ place → place < length plain + length field → IsFree place) → IsPlaced (plain ++ field)
placed_more plain field placed free =
    λ front back bit e. placed_cut plain field front back bit placed free (cut plain field front (bit ∷ back) e)

-- what begins bits that are right is right
pub placed_begun : (plain more : List Bool) → IsPlaced (plain ++ more) → IsPlaced plain
placed_begun plain more placed = grind (arith, append_assoc)

nothing_there : (front back : List Bool) (bit : Bool) → [] ≡ front ++ bit ∷ back → ¬ IsMisplaced front bit
nothing_there [] back bit e = absurd (cc)
nothing_there (b ∷ front) back bit e = absurd (cc)

-- nothing is right
pub placed_none : IsPlaced []
placed_none = λ front back bit e. nothing_there front back bit e

-- a header and what is behind it is right
pub placed_behind : (id n : ℕ) (rest : List Bool) → id ≤ 0x7EF → n ≤ 8 → IsPlaced (header id n ++ rest)
placed_behind id n rest in_range few = λ front back bit e. placed_header id n rest front back bit in_range few e

-- ---- a field in the first 34 bits

pub expects_early : (at : Progress) (plain : List Bool) (width : ℕ) → HasNoSix (reverse at.read) → carried at.read ≡ plain → IsPlaced plain → length plain + width ≤ 34
    → ((place : ℕ) → length plain ≤ place → place + 1 < length plain + width → IsFree place) → Expects at width
expects_early at plain width no_six is placed early free = record {
  no_six = no_six;
  placed = λ field short. rw is (placed_more plain field placed (λ place h k. free place h (omega arith)));
  unfinished = λ field short. rw is (omega (arith, length-append plain field, plain_length-least (plain ++ field)));
}

-- ---- a field behind the header

pub expects_late : (at : Progress) (id n : ℕ) (rest : List Bool) (width : ℕ) → id ≤ 0x7EF → n ≤ 8 → HasNoSix (reverse at.read) → carried at.read ≡ header id n ++ rest
    → length rest + width ≤ 8 * n + 15 → Expects at width
expects_late at id n rest width in_range few no_six is room =
    grind (arith, append_assoc, placed_behind, plain_length-code, length-append, length-header)

-- ---- the identifier

-- a header in the order of its fields
header_parts : (id n : ℕ) (rest : List Bool) → header id n ++ rest ≡ (false ∷ []) ++ (bits 11 id ++ (false ∷ false ∷ false ∷ (bits 4 n ++ rest)))
unfolding header
header_parts id n rest = simp append_assoc

-- what begins with an identifier is right so far
pub placed_identifier : (id : ℕ) → id ≤ 0x7EF → IsPlaced ((false ∷ []) ++ bits 11 id)
placed_identifier id in_range =
    let whole = placed_behind id 0 [] in_range (lit≤ tt) in
    let parts : header id 0 ++ [] ≡ ((false ∷ []) ++ bits 11 id) ++ (false ∷ false ∷ false ∷ (bits 4 0 ++ [])) = header_parts id 0 [] ∙ sym (append_assoc (false ∷ []) (bits 11 id) _) in
    placed_begun ((false ∷ []) ++ bits 11 id) _ (subst IsPlaced parts whole)

placed_start : IsPlaced (false ∷ [])
placed_start = placed_begun (false ∷ []) (bits 11 0) (placed_identifier 0 (lit≤ tt))

placed_high : (high : ℕ) → high ≤ 126 → IsPlaced ((false ∷ []) ++ bits 7 high)
placed_high high small =
    let parts : (false ∷ []) ++ bits 11 (high * 2 ^ 4 + 0) ≡ ((false ∷ []) ++ bits 7 high) ++ bits 4 0 = ap (λ v. (false ∷ []) ++ v) (bits-append 7 4 high 0 (lit< tt)) in
    placed_begun ((false ∷ []) ++ bits 7 high) (bits 4 0) (subst IsPlaced parts (placed_identifier (high * 2 ^ 4 + 0) (omega arith)))

free_of : (place : ℕ) → place ≢ 0 → place ≢ 7 → (12 ≤ place → place ≤ 14 → ⊥) → place ≢ 18 → IsFree place
free_of place a b c d = record { started = a; seventh = b; reserved = c; last = d }

pub expects_high : (at : Progress) → HasNoSix (reverse at.read) → carried at.read ≡ false ∷ [] → Expects at 7
expects_high at no_six is =
    expects_early at (false ∷ []) 7 no_six is placed_start (lit≤ tt)
    (λ place h k. free_of place (λ e. omega arith) (λ e. omega arith) (λ l m. omega arith) (λ e. omega arith))

pub expects_low : (at : Progress) (high : ℕ) → HasNoSix (reverse at.read) → carried at.read ≡ (false ∷ []) ++ bits 7 high → high < 2 ^ 7 → high ≢ 127 → Expects at 4
expects_low at high no_six is below other =
    let long : length ((false ∷ []) ++ bits 7 high) ≡ 8 = omega (arith, length-bits 7 high) in
    expects_early at ((false ∷ []) ++ bits 7 high) 4 no_six is (placed_high high (omega arith)) (omega arith)
    (λ place h k. free_of place (λ e. omega arith) (λ e. omega arith) (λ l m. omega arith) (λ e. omega arith))

-- seven recessive bits were read
pub high_found : (old new : Progress) (high place : ℕ) → HasNoSix (reverse old.read) → carried old.read ≡ false ∷ [] → Went old new (bits 7 high) → high ≡ 127 → EndsPlain new.read
    → place + 1 ≡ length new.read → Reads (all_bits old) (Err (Form place))
unfolding bits
high_found old new high place no_six is went all last here =
    let h = expects_high old no_six is in
    let six : length (bits 6 (high / 2)) < 7 = omega (arith, length-bits 6 (high / 2)) in
    let wrong : IsMisplaced ((false ∷ []) ++ bits 6 (high / 2)) (high % 2 == 1) = identifier (omega (arith, length-bits 6 (high / 2))) (ap (bits 7) all) in
    form_found old new (bits 6 (high / 2)) (high % 2 == 1) place went last (h.placed _ six) (h.unfinished _ six) (rw is wrong) here

-- both parts of an identifier were read
pub identifier_read : (old mid new : Progress) (high low : ℕ) → Went old mid (bits 7 high) → Went mid new (bits 4 low) → low < 2 ^ 4 → Went old new (bits 11 (16 * high + low))
identifier_read old mid new high low h k below =
    let value : 16 * high + low ≡ high * 2 ^ 4 + low = omega arith in
    rw value (rw (bits-append 7 4 high low below) (went_then old mid new (bits 7 high) (bits 4 low) h k))

-- ---- the other fields of the header

-- what stands before the data length code is right
pub placed_before_code : (id : ℕ) → id ≤ 0x7EF → IsPlaced (before_code id)
unfolding header
placed_before_code id in_range =
    placed_begun (before_code id) (bits 4 0) (placed_begun (header id 0) [] (placed_behind id 0 [] in_range (lit≤ tt)))

-- RTR, r1 or r0 is next
pub expects_reserved : (at : Progress) (plain : List Bool) → HasNoSix (reverse at.read) → carried at.read ≡ plain → IsPlaced plain → length plain ≤ 14 → Expects at 1
expects_reserved at plain no_six is placed early =
    expects_early at plain 1 no_six is placed (omega arith) (λ place h k. absurd (omega arith))

-- the data length code is next
pub expects_code : (at : Progress) → HasNoSix (reverse at.read) → IsPlaced (carried at.read) → length (carried at.read) ≡ 15 → Expects at 4
expects_code at no_six placed long =
    expects_early at (carried at.read) 4 no_six refl placed (omega arith)
    (λ place h k. free_of place (λ e. omega arith) (λ e. omega arith) (λ l m. omega arith) (λ e. omega arith))

-- a data length code above 8 was read
pub code_found : (old new : Progress) (n place : ℕ) → Expects old 4 → length (carried old.read) ≡ 15 → Went old new (bits 4 n) → n < 2 ^ 4 → 8 < n → EndsPlain new.read
    → place + 1 ≡ length new.read → Reads (all_bits old) (Err (Form place))
unfolding bits
code_found old new n place h long went below above last here =
    let three : length (bits 3 (n / 2)) < 4 = omega (arith, length-bits 3 (n / 2)) in
    let code_is : number (drop 15 ((carried old.read ++ bits 3 (n / 2)) ++ (n % 2 == 1) ∷ [])) ≡ n =
    ap (λ v. number (drop 15 v)) (append_assoc (carried old.read) (bits 3 (n / 2)) _) ∙ ap number (drop_at (carried old.read) (bits 4 n) 15 long) ∙ number-bits 4 n below in
    let wrong : IsMisplaced (carried old.read ++ bits 3 (n / 2)) (n % 2 == 1) =
    code (omega (arith, length-append (carried old.read) (bits 3 (n / 2)), length-bits 3 (n / 2))) (omega arith) in
    form_found old new (bits 3 (n / 2)) (n % 2 == 1) place went last (h.placed _ three) (h.unfinished _ three) wrong here

-- ---- the header, from its start

-- what the plain part is after a field from the start on
pub carried_start : (old new : Progress) (field : List Bool) → old.read ≡ [] → Went old new field → carried new.read ≡ field
carried_start old new field here went = went.carried ∙ ap (λ read. carried read ++ field) here

pub expects_start : (at : Progress) → at.read ≡ [] → Expects at 1
expects_start at is =
    let P : List Bool → Type 0 = λ read. HasNoSix (reverse read) in
    expects_early at [] 1 (subst P (sym is) tt) (ap carried is) placed_none (lit≤ tt) (λ place h k. absurd (omega arith))

-- the bits up to each of RTR, r1 and r0
abbrev pub before_rtr : ℕ → List Bool
before_rtr id = (false ∷ []) ++ bits 11 id

abbrev pub before_r1 : ℕ → List Bool
before_r1 id = before_rtr id ++ (false ∷ [])

abbrev pub before_r0 : ℕ → List Bool
before_r0 id = before_r1 id ++ (false ∷ [])

-- one of these bits is next
pub record Reserved (at : Progress) : Type 0 where
  pub expects : Expects at 1
  pub fixed : IsMisplaced (carried at.read) true

reserved_at : (at : Progress) (plain : List Bool) → HasNoSix (reverse at.read) → carried at.read ≡ plain → IsPlaced plain → 12 ≤ length plain → length plain ≤ 14 → Reserved at
reserved_at at plain no_six is placed least most = grind (arith, expects_reserved)

-- RTR is next behind the identifier, r1 behind RTR, and r0 behind r1
pub rtr_next : (old first at : Progress) (id : ℕ) → id ≤ 0x7EF → old.read ≡ [] → Went old first (false ∷ []) → Went first at (bits 11 id) → Reserved at
rtr_next old first at id in_range here h k = grind (arith, went_then, reserved_at, carried_start, placed_identifier, length-bits)

pub r1_next : (old first second at : Progress) (id : ℕ) → id ≤ 0x7EF → old.read ≡ [] → Went old first (false ∷ []) → Went first second (bits 11 id) → Went second at (false ∷ []) → Reserved at
r1_next old first second at id in_range here h k l =
    let went = went_then old second at (before_rtr id) (false ∷ []) (went_then old first second (false ∷ []) (bits 11 id) h k) l in
    let placed = placed_begun (before_r1 id) (false ∷ []) (placed_begun (before_r0 id) (false ∷ []) (placed_before_code id in_range)) in
    let long : length (before_r1 id) ≡ 13 = length-append (before_rtr id) (false ∷ []) ∙ omega (arith, length-bits 11 id) in
    reserved_at at (before_r1 id) went.no_six (carried_start old at _ here went) placed (omega arith) (omega arith)

pub r0_next : (old first second third at : Progress) (id : ℕ) → id ≤ 0x7EF → old.read ≡ [] → Went old first (false ∷ []) → Went first second (bits 11 id) → Went second third (false ∷ [])
    → Went third at (false ∷ []) → Reserved at
r0_next old first second third at id in_range here h k l m =
    let to_r1 = went_then old second third (before_rtr id) (false ∷ []) (went_then old first second (false ∷ []) (bits 11 id) h k) l in
    let went = went_then old third at (before_r1 id) (false ∷ []) to_r1 m in
    let placed = placed_begun (before_r0 id) (false ∷ []) (placed_before_code id in_range) in
    let long : length (before_r0 id) ≡ 14 = length-append (before_r1 id) (false ∷ []) ∙ ap (λ n. n + 1) (length-append (before_rtr id) (false ∷ [])) ∙ omega (arith, length-bits 11 id) in
    reserved_at at (before_r0 id) went.no_six (carried_start old at _ here went) placed (omega arith) (omega arith)

-- all that stands before the data length code was read
pub to_code : (old first second third fourth at : Progress) (id : ℕ) → Went old first (false ∷ []) → Went first second (bits 11 id) → Went second third (false ∷ [])
    → Went third fourth (false ∷ []) → Went fourth at (false ∷ []) → Went old at (before_code id)
to_code old first second third fourth at id h k l m n = grind (arith, common_steps, went_then)

-- ---- the data bytes

-- the next data byte is expected, where some of them were read
pub expects_byte : (old mid : Progress) (bytes : List ℕ) (place n : ℕ) → length bytes ≡ 8 → n ≤ 8 → place < n → Expects old (8 * n) → Went old mid (flat_map (bits 8) (take place bytes)) → Expects mid 8
expects_byte old mid bytes place n room few below h went = grind (arith, common_steps, length-take-le, length-data)

-- ---- the stuffed part

-- the data bytes are expected behind the header
pub expects_data : (old at : Progress) (id n : ℕ) → id ≤ 0x7EF → n ≤ 8 → old.read ≡ [] → Went old at (header id n) → Expects at (8 * n)
expects_data old at id n in_range few here went =
    expects_late at id n [] (8 * n) in_range few went.no_six (carried_start old at (header id n) here went ∙ sym (append-nil (header id n))) (omega arith)

-- and the CRC sequence behind them
pub expects_sequence : (old at : Progress) (id n : ℕ) (bytes : List ℕ) → id ≤ 0x7EF → n ≤ 8 → length bytes ≡ 8 → old.read ≡ [] → Went old at (header id n ++ flat_map (bits 8) (take n bytes)) → Expects at 15
expects_sequence old at id n bytes in_range few room here went =
    let taken : length (take n bytes) ≡ n = length-take-le n bytes (omega arith) in
    expects_late at id n (flat_map (bits 8) (take n bytes)) 15 in_range few went.no_six (carried_start old at _ here went) (omega (arith, length-data (take n bytes)))

-- the frame of these fields
abbrev pub frame_of : ℕ → List ℕ → DataFrame
frame_of id bytes = record { identifier = id; bytes = bytes }

-- what was read is the plain part of a frame with its sequence
pub plain_read : (old at : Progress) (id n sequence : ℕ) (bytes : List ℕ) → n ≤ 8 → length bytes ≡ 8 → old.read ≡ [] → Went old at (header id n ++ flat_map (bits 8) (take n bytes) ++ bits 15 sequence)
    → carried at.read ≡ with_sequence (frame_of id (take n bytes)) sequence
unfolding with_sequence covered
plain_read old at id n sequence bytes few room here went = grind (arith, length-take-le, carried_start)

pub plain_begun : (old at : Progress) (id n sequence : ℕ) (bytes : List ℕ) → id ≤ 0x7EF → n ≤ 8 → length bytes ≡ 8 → old.read ≡ []
    → Went old at (header id n ++ flat_map (bits 8) (take n bytes) ++ bits 15 sequence) → IsBegun at.read
plain_begun old at id n sequence bytes in_range few room here went =
    grind (arith, length-take-le, carried_start, append_assoc, placed_behind, plain_length-code, length-append, length-header, length-data, length-bits)

-- and with the stuff bit behind it, where one is due, the stuffed part
pub stuffed_read : (mid new : Progress) (plain : List Bool) → carried mid.read ≡ plain → Went mid new [] → run (reverse new.read) < 5 → new.read ≡ stuffed plain
stuffed_read mid new plain is went ended = grind (arith, stuffed_only, reverse-reverse, append-nil)
