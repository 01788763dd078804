-- What is heard of the trigger frames of a cycle: they say what they were made of.
use Rattle.std.proofs.Common.{◌≡◌, ℕ, ◌%◌, ◌^◌, ◌<◌, ◌≤◌, Bool, nat_eq, leb, List, [], ◌∷◌, Option, Some, None, refl, ap, subst, arith, ◌≢◌, IfSome}
use Rattle.std.proofs.lemmas.Bool.{and_from, cond-true, eq-eqb, le-leb, and_parts, eqb-true, leb-true}
use Rattle.std.proofs.lemmas.Bool.Decides.{nat_tests}
use Rattle.std.proofs.Math.Nat.{pow-le-pow_right}
use Rattle.profile.specs.Limits.{longest_window, most_slots}
use Rattle.trigger_kind.specs.declared.Triggers.{Triggers}
use Rattle.trigger_kind.specs.declared.Triggers.TheVariants.{One, Two}
use Rattle.trigger_kind.specs.Kind.{IsSlots, triggers_of, opening_of}
use Rattle.trigger_codec.specs.declared.message.Trigger.{Trigger}
use Rattle.trigger_codec.specs.Bytes.{later_frames, low_slots, second_frame, second_of, trigger_frame, trigger_of, triggers_with}
use Rattle.trigger_codec.specs.Heard.{first_heard, heard_of, joined, last_heard, told, trigger_in, IsNoted, Noted}
use Rattle.trigger_codec.proofs.Flags.{both-parts, first-part}
use Rattle.trigger_codec.proofs.Told.{second_of-second, trigger_of-first}
use Rattle.can_frame.specs.DataFrame.{DataFrame}

-- the first one
first-heard : (window cycle l mask : ℕ) → l ≤ window → l ≤ 16383
    → first_heard window cycle (trigger_of (trigger_frame cycle l mask)) ≡ Some (record { low = cycle % 256; l = l; mask = low_slots mask })
first-heard window cycle l mask fits small = grind (arith, trigger_of-first, cond-true, leb, and_from, le-leb, eq-eqb)

-- and the second one together with it
both-heard : (cycle l mask : ℕ) → mask < 2 ^ 96
    → joined (Some (record { low = cycle % 256; l = l; mask = low_slots mask })) (second_of (second_frame cycle mask))
    ≡ Some (record { low = cycle % 256; l = l; mask = mask })
both-heard cycle l mask below = grind (arith, second_of-second, cond-true, eq-eqb, both-parts)

-- what frames say that are heard one after the other, where this was noted before them: all but the last one are noted
abbrev pub heard_in_turn : Triggers → ℕ → ℕ → Noted → List DataFrame → Option Trigger
heard_in_turn triggers window cycle noted [] = None
heard_in_turn triggers window cycle noted (frame ∷ []) = last_heard triggers window cycle noted frame
heard_in_turn triggers window cycle noted (frame ∷ next ∷ more) =
    heard_in_turn triggers window cycle (first_heard window cycle (trigger_of frame)) (next ∷ more)

in-turn : (triggers : Triggers) (window cycle l mask : ℕ) (noted : Noted) → l ≤ window → l ≤ 16383 → (triggers ≡ One → mask < 2 ^ 40) → mask < 2 ^ 96
    → heard_in_turn triggers window cycle noted (trigger_frame cycle l mask ∷ later_frames triggers cycle mask)
    ≡ Some (record { low = cycle % 256; l = l; mask = mask })
in-turn triggers window cycle l mask noted fits small few below = grind (arith, first-heard, first-part, both-heard)

all-heard : (triggers : Triggers) (cycle l mask : ℕ) → l ≤ 16383 → (triggers ≡ One → mask < 2 ^ 40) → mask < 2 ^ 96
    → trigger_in triggers cycle (trigger_frame cycle l mask ∷ later_frames triggers cycle mask) ≡ Some (record { low = cycle % 256; l = l; mask = mask })
all-heard One cycle l mask small few below = in-turn One longest_window cycle l mask None small small few below
all-heard Two cycle l mask small few below = in-turn Two longest_window cycle l mask None small small few below

-- with one trigger frame there are 40 slots
slots-of_one : (slots : ℕ) (few : Bool) → nat_eq slots 40 ≡ few → triggers_of slots ≡ One → slots ≡ 40
slots-of_one slots few is one = grind (arith, nat_tests)

-- the flags of a cycle, with one trigger frame and with any
few-flags : (slots mask : ℕ) → mask < 2 ^ slots → triggers_of slots ≡ One → mask < 2 ^ 40
few-flags slots mask below one = subst (λ (s : ℕ). mask < 2 ^ s) (slots-of_one slots (nat_eq slots 40) refl one) below

most-flags : (slots mask : ℕ) → slots ≤ most_slots → mask < 2 ^ slots → mask < 2 ^ 96
most-flags slots mask room below = let more : 2 ^ slots ≤ 2 ^ 96 = pow-le-pow_right {n = 2} (omega arith) room in omega (arith, more, below)

pub heard-triggers : (slots cycle l mask : ℕ) → slots ≤ most_slots → l ≤ longest_window → mask < 2 ^ slots
    → heard_of slots cycle (triggers_with slots cycle l mask) ≡ Some (record { l = l; mask = mask })
heard-triggers slots cycle l mask room small below =
    ap told (all-heard (triggers_of slots) cycle l mask small (few-flags slots mask below) (most-flags slots mask room below))

-- and so in turn, whatever was noted before
pub heard-in_turn : (slots window cycle l mask : ℕ) (noted : Noted) → IsSlots slots → l ≤ window → l ≤ longest_window → mask < 2 ^ slots
    → heard_in_turn (triggers_of slots) window cycle noted (triggers_with slots cycle l mask)
    ≡ Some (record { low = cycle % 256; l = l; mask = mask })
heard-in_turn slots window cycle l mask noted known fits small below = grind (arith, in-turn, few-flags, most-flags)

-- What was heard of trigger frames has a window that is not too long

-- the window that a trigger says is not longer than this
abbrev FitsIn : ℕ → Trigger → Type 0
FitsIn window trigger = trigger.l ≤ window

-- what a first trigger frame of the cycle says
first-is : (window cycle : ℕ) (read : Option Trigger) (P : Trigger → Type 0) → ((t : Trigger) → t.l ≤ window → t.low ≡ cycle % 256 → P t)
    → IfSome (first_heard window cycle read) P
first-is window cycle read P is = grind (arith, leb, and_parts, leb-true, eqb-true)

-- it may be noted where it is not the last one
pub first-noted : (triggers : Triggers) (window cycle : ℕ) (read : Option Trigger) → opening_of triggers ≢ 0
    → IfSome (first_heard window cycle read) (IsNoted triggers window cycle)
first-noted triggers window cycle read more = grind (arith, first-is)

-- what the trigger frames say has a window that is not longer than the largest one
pub last-fits : (triggers : Triggers) (window cycle : ℕ) (noted : Noted) (frame : DataFrame) → IfSome noted (IsNoted triggers window cycle)
    → IfSome (last_heard triggers window cycle noted frame) (FitsIn window)
last-fits triggers window cycle noted frame is = grind (arith, first-is)
