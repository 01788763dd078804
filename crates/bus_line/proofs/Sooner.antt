-- The sooner of two times at which something is offered.
use Rattle.std.proofs.Common.{◌≡◌, ◌≢◌, ℕ, List, [], ◌∷◌, ◌++◌, Option, refl, ap, ◌∙◌, arith}
use Rattle.std.proofs.lemmas.Bool.{cases_lt}
use Rattle.bus_line.specs.Stations.{IsWake, sooner}

-- both lists are empty, or one of them is not
both-none : (xs ys : List ℕ) → xs ≡ [] → ys ≡ [] → xs ++ ys ≡ []
both-none xs ys left right = ap (λ zs. zs ++ ys) left ∙ right

front-some : (xs ys : List ℕ) → xs ≢ [] → xs ++ ys ≢ []
front-some [] ys some = λ _. some refl
front-some (x ∷ xs) ys some = λ none. absurd (cc)

module _ (one other : ℕ → List ℕ) (at : ℕ) where
  abbrev Both : ℕ → List ℕ
  Both later = one later ++ other later

  pub sooner-together : (first second : Option ℕ) → IsWake one at first → IsWake other at second → IsWake Both at (sooner first second)
  sooner-together first second is also = grind (arith, both-none, front-some, cases_lt)
