-- Beginnings of lists, and the entries with one number. The crates above may cite these lemmas.
use Rattle.std.proofs.Common.{◌≡◌, ◌≢◌, ℕ, suc, zero, ◌<◌, ◌≤◌, ◌⊎◌, List, [], ◌∷◌, ◌++◌, length, cond, Bool, true, false, refl, sym, ap, ◌∙◌, subst, inl, inr, ⊎_elim, arith, eq-eqb, ne_eqb, append_assoc, append-nil, length-append}
use mathlib.Core.List.{IsPrefix}
use mathlib.Core.Option.{some, some-injective, some-ne-none}
use lib.ListN.{get_elem?}
use Rattle.std.proofs.lemmas.List.Elements.{filter-append}
use lib.Dec.{leb}
use borrow.Author.Tests.{leb-true, leb-false}
use Rattle.turn_lock.specs.History.{own}
use Rattle.turn_lock.specs.Passes.{longer}

module _ {A : Type 0} where
  pub prefix_refl : (xs : List A) → IsPrefix xs xs
  prefix_refl xs = ([], append-nil xs)

  pub prefix_trans : (xs ys zs : List A) → IsPrefix xs ys → IsPrefix ys zs → IsPrefix xs zs
  prefix_trans xs ys zs p q = (p.0 ++ q.0, sym (append_assoc xs p.0 q.0) ∙ (ap (λ l. l ++ q.0) p.1 ∙ q.1))

  pub prefix_length : (xs ys : List A) → IsPrefix xs ys → length xs ≤ length ys
  prefix_length xs ys p = let long = ap length p.1 in omega (arith, length-append xs p.0)

  pub nil_of_length : (xs : List A) → length xs ≤ 0 → xs ≡ []
  nil_of_length [] h = refl
  nil_of_length (x ∷ xs) h = absurd (omega arith)

  pub prefix_whole : (xs ys : List A) → IsPrefix xs ys → length ys ≤ length xs → xs ≡ ys
  prefix_whole xs ys p h =
      let long = ap length p.1 in
      let none : p.0 ≡ [] = nil_of_length p.0 (omega (arith, length-append xs p.0)) in
      sym (append-nil xs) ∙ (ap (λ l. xs ++ l) (sym none) ∙ p.1)

  of_one_list : (xs t ys u : List A) → xs ++ t ≡ ys ++ u → length xs ≤ length ys → IsPrefix xs ys
  of_one_list [] t ys u e h = (ys, refl)
  of_one_list (x ∷ xs) t [] u e h = absurd (omega arith)
  of_one_list (x ∷ xs) t (y ∷ ys) u e h =
      let tails : xs ++ t ≡ ys ++ u = cc in
      let r = of_one_list xs t ys u tails (omega arith) in
      let rest = r.1 in
      (r.0, cc)

  -- of two beginnings of one list the shorter begins the longer
  pub prefix_between : (xs ys zs : List A) → IsPrefix xs zs → IsPrefix ys zs → length xs ≤ length ys → IsPrefix xs ys
  prefix_between xs ys zs p q h = of_one_list xs p.0 ys q.0 (p.1 ∙ sym q.1) h

  pub at_below : (l : List A) (i : ℕ) (a : A) → get_elem? l i ≡ some a → i < length l
  at_below [] i a e = absurd (some-ne-none a (sym e))
  at_below (x ∷ xs) zero a e = omega arith
  at_below (x ∷ xs) (suc i) a e = let h = at_below xs i a e in omega arith

  pub at_snoc_at : (l : List A) (a b : A) (j : ℕ) → get_elem? (l ++ a ∷ []) j ≡ some b → (get_elem? l j ≡ some b) ⊎ ((j ≡ length l) × (a ≡ b))
  at_snoc_at [] a b zero e = inr (refl, some-injective a b e)
  at_snoc_at [] a b (suc j) e = absurd (some-ne-none b (sym e))
  at_snoc_at (x ∷ xs) a b zero e = inl e
  at_snoc_at (x ∷ xs) a b (suc j) e =
      elim (at_snoc_at xs a b j e) [ inl t ↦ inl t | inr t ↦ inr (ap suc t.0, t.1) ]

module _ {E : Type 0} (number : E → ℕ) (n : ℕ) where
  pub own-append : (xs ys : List E) → own number n (xs ++ ys) ≡ own number n xs ++ own number n ys
  own-append xs ys = filter-append _ xs ys

  pub own_prefix : (xs ys : List E) → IsPrefix xs ys → IsPrefix (own number n xs) (own number n ys)
  own_prefix xs ys p = (own number n p.0, sym (own-append xs p.0) ∙ ap (own number n) p.1)

  -- a list between two that have the same entries has them too
  pub own_between : (xs ys zs es : List E) → IsPrefix xs ys → IsPrefix ys zs → own number n xs ≡ es → own number n zs ≡ es → own number n ys ≡ es
  own_between xs ys zs es p q a b =
      let low = prefix_length _ _ (own_prefix xs ys p) in
      let same = ap length (a ∙ sym b) in
      prefix_whole _ _ (own_prefix ys zs q) (omega arith) ∙ b

  pub own_none : (xs ys : List E) → IsPrefix xs ys → own number n ys ≡ [] → own number n xs ≡ []
  own_none xs ys p e =
      let low = prefix_length _ _ (own_prefix xs ys p) in
      let none = ap length e in
      nil_of_length _ (omega arith)

  pub own_one_more : (log : List E) (e : E) → number e ≡ n → own number n (log ++ e ∷ []) ≡ own number n log ++ e ∷ []
  own_one_more log e is = own-append log (e ∷ []) ∙ ap (λ b. own number n log ++ cond b (e ∷ []) []) (eq-eqb (number e) n is)

  pub own_no_more : (log : List E) (e : E) → number e ≢ n → own number n (log ++ e ∷ []) ≡ own number n log
  own_no_more log e is = own-append log (e ∷ []) ∙ (ap (λ b. own number n log ++ cond b (e ∷ []) []) (ne_eqb (number e) n is) ∙ append-nil (own number n log))

module _ {A : Type 0} where
  by_test : (xs ys : List A) (b : Bool) → leb (length ys) (length xs) ≡ b → ((cond b xs ys ≡ xs) × (length ys ≤ length xs)) ⊎ ((cond b xs ys ≡ ys) × (length xs ≤ length ys))
  by_test xs ys true e = inl (refl, leb-true (length ys) (length xs) e)
  by_test xs ys false e = let more = leb-false (length ys) (length xs) e in inr (refl, omega arith)

  longer_cases : (xs ys : List A) → ((longer xs ys ≡ xs) × (length ys ≤ length xs)) ⊎ ((longer xs ys ≡ ys) × (length xs ≤ length ys))
  longer_cases xs ys = by_test xs ys (leb (length ys) (length xs)) refl

  -- of two beginnings of one list: both begin the longer one, which begins the list
  module _ (xs ys log : List A) (p : IsPrefix xs log) (q : IsPrefix ys log) where
    pub longer_left : IsPrefix xs (longer xs ys)
    longer_left = ⊎_elim (λ c. subst (IsPrefix xs) (sym c.0) (prefix_refl xs)) (λ c. subst (IsPrefix xs) (sym c.0) (prefix_between xs ys log p q c.1)) (longer_cases xs ys)

    pub longer_right : IsPrefix ys (longer xs ys)
    longer_right = ⊎_elim (λ c. subst (IsPrefix ys) (sym c.0) (prefix_between ys xs log q p c.1)) (λ c. subst (IsPrefix ys) (sym c.0) (prefix_refl ys)) (longer_cases xs ys)

    pub longer_begins : IsPrefix (longer xs ys) log
    longer_begins = ⊎_elim (λ c. subst (λ (l : List A). IsPrefix l log) (sym c.0) p) (λ c. subst (λ (l : List A). IsPrefix l log) (sym c.0) q) (longer_cases xs ys)

    pub longer_whole : (xs ≡ log) ⊎ (ys ≡ log) → longer xs ys ≡ log
    longer_whole w = prefix_whole (longer xs ys) log longer_begins
        (⊎_elim (λ e. let long = ap length e in let less = prefix_length xs (longer xs ys) longer_left in omega arith) (λ e. let long = ap length e in let less = prefix_length ys (longer xs ys) longer_right in omega arith) w)
