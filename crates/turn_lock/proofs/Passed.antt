-- What a pass knows, from what it knew and from what it was told.
use Rattle.std.proofs.Common.{◌≡◌, ℕ, zero, suc, ◌<◌, ◌⊎◌, List, [], ◌∷◌, length, eqb, cond, Bool, true, false, refl, sym, ap, ◌∙◌, subst, inl, inr, ⊎_elim, arith, eq-eqb, Contains}
use mathlib.Core.Logic.{dite}
use mathlib.Core.List.{IsPrefix}
use native.Mathlib.Decide.{ℕ_discrete}
use Rattle.turn_lock.specs.History.{own}
use Rattle.turn_lock.specs.Passes.{Facts, IsCovered, split_from, joined}
use Rattle.turn_lock.specs.declared.view.View.{View}

cons_contains : {A : Type 0} (x : A) (xs : List A) (y : A) → Contains xs y → Contains (x ∷ xs) y
cons_contains x xs y c = let low = c.1 in (suc c.0, omega arith, c.2)

cons_cases : {A : Type 0} (x : A) (xs : List A) (y : A) → Contains (x ∷ xs) y → (x ≡ y) ⊎ Contains xs y
cons_cases x xs y c = by_place c.0 c.1 c.2
  where
    by_place : (k : ℕ) → k < length (x ∷ xs) → Rattle.std.specs.List.slice_index_or (x ∷ xs) k y ≡ y → (x ≡ y) ⊎ Contains xs y
    by_place zero low e = inl e
    by_place (suc k) low e = inr (k, omega arith, e)

no_element : {A : Type 0} (x : A) → Contains [] x → ⊥
no_element x c = let low = c.1 in omega arith

module _ {E : Type 0} (number : E → ℕ) where
  -- an entry is one of those with its number
  contains_own : (xs : List E) (e : E) → Contains xs e → Contains (own number (number e) xs) e
  contains_own [] e c = absurd (no_element e c)
  contains_own (x ∷ xs) e c = ⊎_elim
      (λ is. subst (λ (b : Bool). Contains (cond b (x ∷ own number (number e) xs) (own number (number e) xs)) e) (sym (eq-eqb (number x) (number e) (ap number is))) (0, omega arith, is))
      (λ later. by_test (eqb (number x) (number e)) (contains_own xs e later)) (cons_cases x xs e c)
    where
      by_test : (b : Bool) → Contains (own number (number e) xs) e → Contains (cond b (x ∷ own number (number e) xs) (own number (number e) xs)) e
      by_test true h = cons_contains x (own number (number e) xs) e h
      by_test false h = h

module _ {E F : Type 0} (number : E → ℕ) (v : View E F) (f : Facts number v) where
  pub covered_whole : v.number ≡ 0 → v.out ≡ 0 → IsCovered v
  covered_whole z empty e c = dite (ℕ_discrete (number e) 0)
      (λ is. inl (subst (λ (es : List E). Contains es e) (ap (λ (n : ℕ). own number n v.seen) (is ∙ sym z) ∙ f.own_are) (contains_own number v.seen e c)))
      (λ ne. ⊎_elim (λ h. inr (number e, h.0, h.1, subst (λ (es : List E). Contains es e) (f.ended_are (number e) h.0 h.1).0 (contains_own number v.seen e c)))
      (λ none_seen. absurd (no_element e (subst (λ (es : List E). Contains es e) none_seen (contains_own number v.seen e c)))) (f.covered z empty (number e) ne))

  pub facts_split : Facts number (split_from v)
  facts_split = let counted = f.counted in record {
    own_are = f.own_are;
    ended_are = f.ended_are;
    counted = omega arith;
    met_begin = f.met_begin;
    covered = λ z empty. absurd (omega arith);
    odd = f.odd;
    waited = λ z empty. absurd (omega arith);
  }

  -- what two passes had seen that were joined begins what the pass has seen
  pub met_left : (a b : View E F) → v ≡ joined a b → IsPrefix a.seen v.seen
  met_left a b e = f.met_begin a.seen (subst (λ (u : View E F). Contains u.met a.seen) (sym e) (0, omega arith, refl))

  pub met_right : (a b : View E F) → v ≡ joined a b → IsPrefix b.seen v.seen
  met_right a b e = f.met_begin b.seen (subst (λ (u : View E F). Contains u.met b.seen) (sym e) (1, omega arith, refl))
