-- The masks of the first cycles of a planning, and of a planning that goes on.
use Rattle.std.proofs.Common.{◌≡◌, ℕ, zero, suc, ◌+◌, ◌<◌, ◌≤◌, List, [], ◌∷◌, ◌++◌, get_or, length, length-append, refl, ap, ◌∙◌, ⊎_elim, arith}
use Rattle.std.proofs.Math.Seq.{get_or-append_seam}
use Rattle.std.proofs.lemmas.Bool.{cases_lt}
use Rattle.std.proofs.lemmas.List.{append-nil, append_assoc, get_or_append_left}
use Rattle.bit_sets.proofs.Shared.{set_of-same}
use Rattle.planner_policies.specs.Plan.{Planning, mask_at, pending_at}
use Rattle.planner_policies.proofs.Shared.{on-planned}
use Rattle.admission.specs.Verdict.{masks_of}

-- the planning that goes on behind the first n cycles
abbrev pub later_plan : Planning → ℕ → Planning
later_plan plan n = record plan { from = plan.from + n; pending = pending_at plan n }

pub masks-length : (plan : Planning) (n : ℕ) → length (masks_of plan n) ≡ n
masks-length plan zero = refl
masks-length plan (suc n) =
    let rest = masks-length plan n in
    grind (arith, length-append)

pub masks-at : (plan : Planning) (n i : ℕ) → i < n → get_or (masks_of plan n) i 0 ≡ mask_at plan i
masks-at plan zero i within = absurd (omega arith)
masks-at plan (suc n) i within =
    let all = masks-length plan n in
    ⊎_elim
    (λ (before : i < n).
    get_or_append_left (masks_of plan n) (mask_at plan n ∷ []) 0 i (omega arith) ∙ masks-at plan n i before)
    (λ (behind : n ≤ i). grind (arith, get_or-append_seam))
    (cases_lt i n)

pub on-mask : (plan : Planning) (n m : ℕ) → mask_at plan (n + m) ≡ mask_at (later_plan plan n) m
on-mask plan n m = grind (arith, set_of-same, on-planned)

pub on-masks : (plan : Planning) (n m : ℕ) → masks_of plan (n + m) ≡ masks_of plan n ++ masks_of (later_plan plan n) m
on-masks plan n zero = grind (arith, append-nil)
on-masks plan n (suc m) =
    let next : n + suc m ≡ suc (n + m) = omega arith in
    ap (masks_of plan) next
    ∙ ap (λ (list : List ℕ). list ++ mask_at plan (n + m) ∷ []) (on-masks plan n m)
    ∙ ap (λ (mask : ℕ). (masks_of plan n ++ masks_of (later_plan plan n) m) ++ mask ∷ []) (on-mask plan n m)
    ∙ append_assoc (masks_of plan n) (masks_of (later_plan plan n) m) (mask_at (later_plan plan n) m ∷ [])
