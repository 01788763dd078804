-- There is one answer about the first repeat of a walk.
use Rattle.std.proofs.Common.{◌≡◌, ◌≢◌, ℕ, ◌+◌, ◌<◌, ◌≤◌, Ok, Err, Result, ap, ◌∙◌, sym, refl, arith, subst}
use Rattle.recurrence_check.specs.Course.{Course, IsRepeat, IsLeastRepeat, Breaks, StaysNew}
use Rattle.recurrence_check.specs.Ends.{IsWalkAnswer}
use Rattle.recurrence_check.specs.declared.walk_end.Repeat.{Repeat}
use Rattle.recurrence_check.specs.declared.walk_end.WalkEnd.{WalkEnd}
use Rattle.recurrence_check.specs.declared.walk_end.WalkEnd.TheVariants.{Broken, NoRepeat, Memory}
use Rattle.recurrence_check.proofs.Shared.{Breaks-last}

-- repeats with the same parts are the same
Repeat-same : (one two : Repeat) → one.first ≡ two.first → one.length ≡ two.length → one ≡ two
Repeat-same one two first steps =
    ap (λ (n : ℕ). record one { first = n }) first ∙ ap (λ (n : ℕ). record two { length = n }) steps

module _ {State : Type 0} (course : Course State) where
  -- a walk has at most one least repeat
  same_earlier : (earlier later other : ℕ) → IsLeastRepeat course earlier later → IsLeastRepeat course other later
      → earlier ≡ other
  same_earlier earlier later other one two =
      let below : earlier ≤ other = one.earliest other two.repeats in
      let above : other ≤ earlier = two.earliest earlier one.repeats in
      omega arith

  same_later : (earlier later other other_later : ℕ) → IsLeastRepeat course earlier later
      → IsLeastRepeat course other other_later → later ≡ other_later
  same_later earlier later other other_later one two =
      let below : later ≤ other_later = one.soonest other other_later two.repeats in
      let above : other_later ≤ later = two.soonest earlier later one.repeats in
      omega arith

  same_repeat : (one two : Repeat) → IsLeastRepeat course one.first (one.first + one.length)
      → IsLeastRepeat course two.first (two.first + two.length) → one ≡ two
  same_repeat one two is_one is_two =
      let ends : one.first + one.length ≡ two.first + two.length = same_later _ _ _ _ is_one is_two in
      let again : IsLeastRepeat course two.first (one.first + one.length) =
      subst (λ later. IsLeastRepeat course two.first later) (sym ends) is_two in
      let first : one.first ≡ two.first = same_earlier _ _ _ is_one again in
      Repeat-same one two first (omega arith)

  -- a repeat does not stand beside a break or a walk without one
  no_break : (earlier later at : ℕ) → IsRepeat course earlier later → Breaks course at → ⊥
  no_break earlier later at repeats breaks =
      breaks.new earlier later (Breaks-last course at later repeats.again breaks repeats.again_is) repeats

  same_break : (at other : ℕ) → Breaks course at → Breaks course other → at ≡ other
  same_break at other one two =
      let below : at ≤ other = Breaks-last course other at one.last two one.last_is in
      let above : other ≤ at = Breaks-last course at other two.last one two.last_is in
      omega arith

  not_both : (at walked : ℕ) → Breaks course at → at < walked → StaysNew course walked → ⊥
  not_both at walked breaks before stays =
      let last : walked ≤ at = Breaks-last course at walked stays.last breaks stays.last_is in
      absurd (omega arith)

  -- two answers are the same one
  pub only_answer : (horizon : ℕ) (one other : Result Repeat WalkEnd) → IsWalkAnswer course horizon one
      → IsWalkAnswer course horizon other → one ≢ Err Memory → other ≢ Err Memory → one ≡ other
  only_answer horizon (Ok one) (Ok two) is_one is_two _ _ =
      ap (λ again. Ok again) (same_repeat one two is_one.1 is_two.1)
  only_answer horizon (Ok one) (Err (Broken at)) is_one is_two _ _ =
      absurd (no_break _ _ at is_one.1.repeats is_two.1)
  only_answer horizon (Ok one) (Err (NoRepeat walked)) is_one is_two _ _ =
      let within : one.first + one.length ≤ walked = omega arith in
      absurd (is_two.1.new one.first (one.first + one.length) within is_one.1.repeats)
  only_answer horizon one (Err Memory) is_one is_two _ given = absurd (given refl)
  only_answer horizon (Err Memory) other is_one is_two given _ = absurd (given refl)
  only_answer horizon (Err (Broken at)) (Ok two) is_one is_two _ _ =
      absurd (no_break _ _ at is_two.1.repeats is_one.1)
  only_answer horizon (Err (Broken at)) (Err (Broken other)) is_one is_two _ _ =
      ap (λ n. Err (Broken n)) (same_break at other is_one.1 is_two.1)
  only_answer horizon (Err (Broken at)) (Err (NoRepeat walked)) is_one is_two _ _ =
      absurd (not_both at walked is_one.1 (omega arith) is_two.1)
  only_answer horizon (Err (NoRepeat walked)) (Ok two) is_one is_two _ _ =
      let within : two.first + two.length ≤ walked = omega arith in
      absurd (is_one.1.new two.first (two.first + two.length) within is_two.1.repeats)
  only_answer horizon (Err (NoRepeat walked)) (Err (Broken at)) is_one is_two _ _ =
      absurd (not_both at walked is_two.1 (omega arith) is_one.1)
  only_answer horizon (Err (NoRepeat walked)) (Err (NoRepeat other)) is_one is_two _ _ =
      ap (λ n. Err (NoRepeat n)) (is_one.0 ∙ sym is_two.0)
