-- The identifiers that have an owner.
use Rattle.std.proofs.Common.{◌≡◌, ℕ, zero, suc, ◌<◌, Bool, true, false, cond, eqb, List, [], ◌∷◌, ◌++◌, get_or, refl, sym, ap, subst, ◌∙◌, arith, inl, inr}
use Rattle.std.specs.List.{list_any, All, AllPairs, Any}
use Rattle.std.proofs.lemmas.Bool.{cases_eq, eqb-true, eq-eqb}
use Rattle.std.proofs.lemmas.List.{append-nil}
use Rattle.std.proofs.lemmas.List.Elements.{All-append}
use Rattle.std.proofs.lemmas.List.Folds.{Any-from_list_any, list_any-append}
use Rattle.std.proofs.lemmas.List.Quantifiers.{all_pairs_push}
use Rattle.async_window.specs.declared.request.Owner.{Owner}
use Rattle.plan_report.specs.Report.{is_owned, owned_below}
use Rattle.plan_report.proofs.Instances.{or-left, or-right, any-test}

next : (owners : List Owner) (n : ℕ) → owned_below owners (suc n) ≡ owned_below owners n ++ cond (is_owned owners n) (n ∷ []) []
unfolding owned_below
next owners n = refl

none : (owners : List Owner) → owned_below owners 0 ≡ []
unfolding owned_below
none owners = refl

-- the identifier has an owner
abbrev HasOwner : List Owner → ℕ → Type 0
HasOwner owners id = Any (λ owner. owner.id ≡ id) owners

has_owner : (owners : List Owner) (id : ℕ) → is_owned owners id ≡ true → HasOwner owners id
has_owner owners id is =
    let found = Any-from_list_any (λ owner. eqb owner.id id) owners is in
    (found.0, found.1, found.2, found.3, eqb-true _ _ found.4)

pub owned-sound : (owners : List Owner) (n : ℕ) → All (λ id. (id < n) × HasOwner owners id) (owned_below owners n)
owned-sound owners zero = subst (All (λ id. (id < 0) × HasOwner owners id)) (sym (none owners)) (λ k d within. absurd (omega arith))
owned-sound owners (suc n) =
    subst (All (λ id. (id < suc n) × HasOwner owners id)) (sym (next owners n))
    (All-append (λ id. (id < suc n) × HasOwner owners id) (owned_below owners n) (cond (is_owned owners n) (n ∷ []) [])
    (λ k d within. let lower = owned-sound owners n k d within in let below = lower.0 in (omega arith, lower.1))
    (by (is_owned owners n) refl))
  where
    by : (b : Bool) → is_owned owners n ≡ b → All (λ id. (id < suc n) × HasOwner owners id) (cond b (n ∷ []) [])
    by false is = λ k d within. absurd (omega arith)
    by true is = λ k d within.
        let first : k ≡ 0 = omega arith in
        subst (λ i. (get_or (n ∷ []) i d < suc n) × HasOwner owners (get_or (n ∷ []) i d)) (sym first) (omega arith, has_owner owners n is)

pub owned-ascending : (owners : List Owner) (n : ℕ) → AllPairs (λ one other. one < other) (owned_below owners n)
owned-ascending owners zero = subst (AllPairs (λ one other. one < other)) (sym (none owners)) (λ i j d lower within. absurd (omega arith))
owned-ascending owners (suc n) =
    subst (AllPairs (λ one other. one < other)) (sym (next owners n)) (by (is_owned owners n) (owned-ascending owners n))
  where
    by : (b : Bool) → AllPairs (λ one other. one < other) (owned_below owners n)
        → AllPairs (λ one other. one < other) (owned_below owners n ++ cond b (n ∷ []) [])
    by false before = subst (AllPairs (λ one other. one < other)) (sym (append-nil (owned_below owners n))) before
    by true before = all_pairs_push (λ one other. one < other) (owned_below owners n) n before (λ k d within. (owned-sound owners n k d within).0)

listed : (owners : List Owner) (n id : ℕ) → id < n → is_owned owners id ≡ true → list_any (λ other. eqb other id) (owned_below owners n) ≡ true
listed owners zero id below is = absurd (omega arith)
listed owners (suc n) id below is =
    ap (list_any (λ other. eqb other id)) (next owners n)
    ∙ list_any-append (λ other. eqb other id) (owned_below owners n) (cond (is_owned owners n) (n ∷ []) [])
    ∙ elim (cases_eq id n) [
      | inl same ↦
          let owned : is_owned owners n ≡ true = subst (λ i. is_owned owners i ≡ true) same is in
          or-right _ _ (ap (λ b. list_any (λ other. eqb other id) (cond b (n ∷ []) [])) owned ∙ or-left _ _ (eq-eqb n id (sym same)))
      | inr lower ↦ or-left _ _ (listed owners n id (omega arith) is)
    ]

pub owned-complete : (owners : List Owner) (n id : ℕ) → id < n → HasOwner owners id → Any (λ other. other ≡ id) (owned_below owners n)
owned-complete owners n id below has =
    let found = Any-from_list_any (λ other. eqb other id) (owned_below owners n)
    (listed owners n id below (any-test (λ owner. eqb owner.id id) (λ owner. owner.id ≡ id) (λ owner same. eq-eqb _ _ same) owners has)) in
    (found.0, found.1, found.2, found.3, eqb-true _ _ found.4)
