-- The instance of the least slot of those in their last cycle.
use Rattle.std.proofs.Common.{◌≡◌, ◌≢◌, ℕ, ◌≤◌, Bool, true, false, nat_eq, nat_lt, if◌then◌else◌, Option, Some, None, List, ◌∷◌, [], ◌++◌, All, Any, refl, ⊎_elim, arith}
use Rattle.std.proofs.lemmas.Grind.{common_steps}
use Rattle.std.proofs.lemmas.List.Elements.{All-push, All-weaker}
use Rattle.std.proofs.lemmas.List.Quantifiers.{Any-push}
use Rattle.std.proofs.lemmas.Bool.{cases_Bool, eqb-false, eqb-true, ltb-true, ltb-false}
use Rattle.planner_policies.specs.declared.due.Due.{Due}
use Rattle.planner_policies.specs.declared.state.Miss.{Miss}
use Rattle.planner_policies.specs.Due.{IsLeastMissed, lesser_miss, miss_of, with_missed}

least-chosen : (c : ℕ) (line : List Due) (d : Due) (miss : Miss) (lesser : Bool) → nat_lt miss.slot d.slot ≡ lesser
    → Any (λ due. (due.last ≡ c) × (miss ≡ miss_of due)) line → All (λ due. due.last ≡ c → miss.slot ≤ due.slot) line → d.last ≡ c
    → IsLeastMissed c (line ++ d ∷ []) (Some (if lesser then miss else miss_of d))
least-chosen c line d miss true test any all last = grind (arith, common_steps, ltb-true)
least-chosen c line d miss false test any all last =
    let above = ltb-false miss.slot d.slot test in (
      Any-push (λ due. (due.last ≡ c) × (miss_of d ≡ miss_of due)) line d (last, refl),
      All-push (λ due. due.last ≡ c → d.slot ≤ due.slot) line d
          (grind arith)
          (λ _. omega arith),
    )

-- one more instance that is in its last cycle
pub least_missed-more : (c : ℕ) (line : List Due) (d : Due) (least : Option Miss) → IsLeastMissed c line least → d.last ≡ c
    → IsLeastMissed c (line ++ d ∷ []) (Some (lesser_miss least d))
least_missed-more c line d None none last = (
  Any-push (λ due. (due.last ≡ c) × (miss_of d ≡ miss_of due)) line d (last, refl),
  All-push (λ due. due.last ≡ c → d.slot ≤ due.slot) line d
      (All-weaker (λ due. due.last ≢ c) (λ due. due.last ≡ c → d.slot ≤ due.slot) (λ due never here. absurd (never here)) line none)
      (λ _. omega arith),
)
least_missed-more c line d (Some miss) least last = least-chosen c line d miss (nat_lt miss.slot d.slot) refl least.0 least.1 last

-- one more instance that is not
pub least_missed-other : (c : ℕ) (line : List Due) (d : Due) (least : Option Miss) → IsLeastMissed c line least → d.last ≢ c
    → IsLeastMissed c (line ++ d ∷ []) least
least_missed-other c line d least none other = grind (arith, common_steps)

-- one more instance, whether or not it is in its last cycle
pub least_missed-with : (c : ℕ) (line : List Due) (d : Due) (least : Option Miss) → IsLeastMissed c line least
    → IsLeastMissed c (line ++ d ∷ []) (with_missed c least d)
least_missed-with c line d least is =
    ⊎_elim
    (λ (here : nat_eq d.last c ≡ true). rw here (least_missed-more c line d least is (eqb-true d.last c here)))
    (λ (other : nat_eq d.last c ≡ false). rw other (least_missed-other c line d least is (eqb-false d.last c other)))
    (cases_Bool (nat_eq d.last c))
