-- Frames that are the trigger of no cycle.
use Rattle.std.proofs.Common.{◌≡◌, ◌≢◌, ℕ, ◌%◌, ◌==◌, ◌&&◌, [], ◌∷◌, Bool, true, false, leb, Option, Some, None, if◌then◌else◌, refl, sym, ap, ◌∙◌}
use Rattle.std.proofs.lemmas.Bool.{ne_eqb}
use Rattle.profile.specs.Limits.{first_slots, longest_window, most_slots}
use Rattle.can_frame.specs.DataFrame.{DataFrame}
use Rattle.trigger_codec.specs.declared.message.Second.{Second}
use Rattle.trigger_codec.specs.declared.message.Trigger.{Trigger}
use Rattle.trigger_codec.specs.Bytes.{flags_of_both, second_of, trigger_of}
use Rattle.trigger_codec.specs.Heard.{Noted, first_heard, heard_of, joined, told}

-- a frame that is no first trigger frame
pub none_heard : (first : DataFrame) (cycle : ℕ) → trigger_of first ≡ None → heard_of first_slots cycle (first ∷ []) ≡ None
none_heard first cycle none = ap (λ (t : Option Trigger). told (first_heard longest_window cycle t)) none

pub none_first : (first second : DataFrame) (cycle : ℕ) → trigger_of first ≡ None
    → heard_of most_slots cycle (first ∷ second ∷ []) ≡ None
none_first first second cycle none =
    ap (λ (t : Option Trigger). told (joined (first_heard longest_window cycle t) (second_of second))) none

silent-second : (noted : Noted) → told (joined noted None) ≡ None
silent-second None = refl
silent-second (Some trigger) = refl

-- a frame that is no second trigger frame
pub none_second : (first second : DataFrame) (cycle : ℕ) → second_of second ≡ None
    → heard_of most_slots cycle (first ∷ second ∷ []) ≡ None
none_second first second cycle none =
    ap (λ (s : Option Second). told (joined (first_heard longest_window cycle (trigger_of first)) s)) none
    ∙ silent-second (first_heard longest_window cycle (trigger_of first))

-- two frames of different cycles
split-cycles : (cycle : ℕ) (one : Trigger) (other : Second) (test : Bool)
    → (leb one.l longest_window && (one.low == cycle % 256)) ≡ test → one.low ≢ other.low
    → told (joined (first_heard longest_window cycle (Some one)) (Some other)) ≡ None
split-cycles cycle one other false is differ =
    ap (λ (b : Bool). told (joined (if b then Some one else None) (Some other))) is
split-cycles cycle one other true is differ =
    ap (λ (b : Bool). told (joined (if b then Some one else None) (Some other))) is
    ∙ ap (λ (b : Bool). told (if b then Some (record one { mask = flags_of_both one.mask other.mask }) else None))
    (ne_eqb other.low one.low (λ same. differ (sym same)))

pub other_cycle : (first second : DataFrame) (cycle : ℕ) (one : Trigger) (other : Second) → trigger_of first ≡ Some one
    → second_of second ≡ Some other → one.low ≢ other.low → heard_of most_slots cycle (first ∷ second ∷ []) ≡ None
other_cycle first second cycle one other is too differ =
    ap (λ (t : Option Trigger). told (joined (first_heard longest_window cycle t) (second_of second))) is
    ∙ ap (λ (s : Option Second). told (joined (first_heard longest_window cycle (Some one)) s)) too
    ∙ split-cycles cycle one other (leb one.l longest_window && (one.low == cycle % 256)) refl differ
