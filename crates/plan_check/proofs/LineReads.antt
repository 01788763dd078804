-- The lines of runs: which run a line gives.
use Rattle.std.proofs.Common.{◌≡◌, ◌≢◌, ℕ, ◌^◌, ◌<◌, ◌≤◌, true, Bool, not, nat_eq, List, [], ◌∷◌, ◌++◌, Option, Some, None, codes, length, refl, arith, append_assoc}
use Rattle.std.specs.Fmt.{decimal}
use Rattle.std.proofs.lemmas.Bool.{eqb-true}
use Rattle.std.proofs.lemmas.Fmt.{decimal_injective}
use Rattle.std.proofs.lemmas.List.{length-append}
use Rattle.text_fields.specs.MaskText.{mask_digits}
use Rattle.text_fields.proofs.Shared.{length-mask, mask-injective, same_last, same_split}
use Rattle.std.proofs.lemmas.Bool.{cases_lt}
use Rattle.plan_check.specs.declared.plan_runs.MaskRun.{MaskRun}
use Rattle.plan_check.specs.declared.plan_runs.Version.{Version}
use Rattle.plan_check.specs.declared.plan_runs.Version.TheVariants.{One, Two}
use Rattle.plan_check.specs.PlanText.{FollowsRun, HasNoSpace, IsOfVersion, MayFollow, first_line, is_other, mask_bound, run_line}
use Rattle.plan_check.proofs.Runs.{run_with}
use Rattle.plan_check.proofs.Spaces.{decimal-space, mask-space}

pub neither : (text : List ℕ) → ((after : List ℕ) → text ≡ codes "fttcan plan 2" ++ 10 ∷ after → ⊥) → ((after : List ℕ) → text ≡ codes "fttcan plan 1" ++ 10 ∷ after → ⊥)
    → (version : Version) (after : List ℕ) → text ≡ first_line version ++ 10 ∷ after → ⊥
neither text two one One after is = one after is
neither text two one Two after is = two after is

-- no mask of the version has these digits
pub mask-above : (version : Version) (digits : List ℕ) (bits bound m : ℕ) → digits ≡ mask_digits bits → bits < 2 ^ 96 → bound ≡ mask_bound version → bound ≤ bits
    → m < mask_bound version → digits ≡ mask_digits m → ⊥
mask-above version digits bits bound m is small same high below other = grind (arith, mask-injective)

pub counted-parts : (m n : ℕ) → (mask_digits m ++ 32 ∷ []) ++ decimal n ≡ mask_digits m ++ 32 ∷ decimal n
counted-parts m n = append_assoc (mask_digits m) (32 ∷ []) (decimal n)

-- a line that is split at its first space gives this mask and this count
pub counted-same : (line digits behind : List ℕ) (m n : ℕ) → line ≡ digits ++ 32 ∷ behind → HasNoSpace digits → line ≡ (mask_digits m ++ 32 ∷ []) ++ decimal n
    → (digits ≡ mask_digits m) × (behind ≡ decimal n)
counted-same line digits behind m n split front is = grind (arith, same_split, mask-space, counted-parts)

-- the same where it is split at its last space
pub counted-last : (line digits behind : List ℕ) (m n : ℕ) → n < 2 ^ 42 → line ≡ digits ++ 32 ∷ behind → HasNoSpace behind → line ≡ (mask_digits m ++ 32 ∷ []) ++ decimal n
    → (digits ≡ mask_digits m) × (behind ≡ decimal n)
counted-last line digits behind m n small split last is = grind (arith, same_last, decimal-space, counted-parts)

-- a line gives one run
pub run-same : (version : Version) (r s : MaskRun) → IsOfVersion version r → IsOfVersion version s → run_line version r ≡ run_line version s → r ≡ s
run-same One r s one other same = grind (arith, mask-injective, run_with)
run-same Two r s one other same =
    let parts = counted-same (run_line Two r) (mask_digits r.mask) (decimal r.count) s.mask s.count (counted-parts r.mask r.count) (mask-space r.mask) same in
    grind (arith, mask-injective, decimal_injective, run_with)

pub follows-other : (version : Version) (last : Option ℕ) (run : MaskRun) → FollowsRun version last run → is_other last run.mask version ≡ true
follows-other One last run follows = refl
follows-other Two None run follows = refl
follows-other Two (Some last) run follows = differs last run.mask follows
  where
    differs : (a b : ℕ) → a ≢ b → not (nat_eq a b) ≡ true
    differs a b other = by (nat_eq a b) refl
      where
        by : (t : Bool) → nat_eq a b ≡ t → not (nat_eq a b) ≡ true
        by t is = grind (arith, eqb-true)

pub of-version : (version : Version) (last : Option ℕ) (run : MaskRun) → MayFollow version last run → run.count < 2 ^ 42 → IsOfVersion version run
of-version version last run may small = grind arith

-- the line of a run is not the last one of a text
pub line-not-end : (version : Version) (run : MaskRun) → run_line version run ≡ codes "end" → ⊥
line-not-end version run is =
    grind (arith, run-long)
  where
    mask-long : (m : ℕ) → 10 ≤ length (mask_digits m)
    mask-long m = grind (arith, length-mask, cases_lt)

    run-long : (version : Version) (run : MaskRun) → 10 ≤ length (run_line version run)
    run-long version run = grind (arith, mask-long, length-append, codes)
