-- Passes that were made and not joined.
use Rattle.std.proofs.Common.{◌≡◌, ◌≢◌, ℕ, suc, zero, ◌+◌, ◌≤◌, List, [], ◌∷◌, ◌++◌, set, Bool, true, false, cond, Some, None, refl, sym, ap, ◌∙◌, subst, ⊎_elim, arith}
use mathlib.Core.Logic.{dite}
use mathlib.Core.Option.{some, some-injective, some-ne-none}
use native.Mathlib.Decide.{ℕ_discrete}
use lib.ListN.{get_elem?}
use Rattle.atomic_table.proofs.Lists.{at_set, set_here, set_else}
use Rattle.turn_lock.specs.Passes.{spent_view}
use Rattle.turn_lock.specs.Rule.{IsLivePass, count_live}
use Rattle.turn_lock.specs.declared.view.View.{View}
use Rattle.turn_lock.proofs.Shared.{at_below}

abbrev weight : Bool → ℕ
weight spent = cond spent 0 1

module _ {E F : Type 0} where
  pub count-snoc : (vs : List (View E F)) (v : View E F) → v.spent ≡ false → count_live (vs ++ v ∷ []) ≡ count_live vs + 1
  count-snoc [] v e = ap (λ (b : Bool). cond b 0 1 + 0) e
  count-snoc (x ∷ xs) v e = let more = count-snoc xs v e in omega arith

  pub count-set_same : (vs : List (View E F)) (i : ℕ) (v w : View E F) → get_elem? vs i ≡ some v → w.spent ≡ v.spent → count_live (set vs i w) ≡ count_live vs
  count-set_same [] i v w at e = refl
  count-set_same (x ∷ xs) zero v w at e = ap (λ (b : Bool). cond b 0 1 + count_live xs) (e ∙ ap (λ (u : View E F). u.spent) (sym (some-injective x v at)))
  count-set_same (x ∷ xs) (suc i) v w at e = ap (λ (k : ℕ). cond x.spent 0 1 + k) (count-set_same xs i v w at e)

  pub count-set_spent : (vs : List (View E F)) (i : ℕ) (v w : View E F) → get_elem? vs i ≡ some v → v.spent ≡ false → w.spent ≡ true → count_live (set vs i w) + 1 ≡ count_live vs
  count-set_spent [] i v w at alive e = absurd (some-ne-none v (sym at))
  count-set_spent (x ∷ xs) zero v w at alive e =
      let here : ◌≡◌ {A = ℕ} (weight x.spent) 1 = ap weight (ap (λ (u : View E F). u.spent) (some-injective x v at) ∙ alive) in
      let gone : ◌≡◌ {A = ℕ} (weight w.spent) 0 = ap weight e in
      omega arith
  count-set_spent (x ∷ xs) (suc i) v w at alive e = let less = count-set_spent xs i v w at alive e in omega arith

  pub count_some : (vs : List (View E F)) (i : ℕ) (v : View E F) → get_elem? vs i ≡ some v → v.spent ≡ false → 1 ≤ count_live vs
  count_some vs i v at alive = let less = count-set_spent vs i v spent_view at alive refl in omega arith

  -- where one is left, there is no other
  pub only_one : (vs : List (View E F)) (i j : ℕ) (v w : View E F) → count_live vs ≡ 1 → get_elem? vs i ≡ some v → v.spent ≡ false → get_elem? vs j ≡ some w → w.spent ≡ false → j ≡ i
  only_one vs i j v w one at alive at' alive' =
      dite (ℕ_discrete j i) (λ e. e) (λ ne.
      let less = count-set_spent vs i v spent_view at alive refl in
      let more = count_some (set vs i spent_view) j w (set_else vs i j spent_view ne ∙ at') alive' in
      absurd (omega arith))

  -- where two are left, they are counted
  pub two_live : (vs : List (View E F)) (i j : ℕ) (v w : View E F) → get_elem? vs i ≡ some v → v.spent ≡ false → get_elem? vs j ≡ some w → w.spent ≡ false → j ≢ i → 2 ≤ count_live vs
  two_live vs i j v w at alive at' alive' ne =
      let less = count-set_spent vs i v spent_view at alive refl in
      let more = count_some (set vs i spent_view) j w (set_else vs i j spent_view ne ∙ at') alive' in
      omega arith

  pub live_here : (vs : List (View E F)) (i : ℕ) (v w : View E F) → get_elem? vs i ≡ some v → w.spent ≡ false → IsLivePass (set vs i w) i
  live_here vs i v w at alive = (w, set_here vs i w (at_below vs i v at), alive)

  pub live_after : (vs : List (View E F)) (i : ℕ) (v w : View E F) → get_elem? vs i ≡ some v → w.spent ≡ false → (n : ℕ) → IsLivePass vs n → IsLivePass (set vs i w) n
  live_after vs i v w at alive n l =
      dite (ℕ_discrete n i) (λ e. subst (IsLivePass (set vs i w)) (sym e) (live_here vs i v w at alive)) (λ ne. (l.0, set_else vs i n w ne ∙ l.1, l.2))

  pub live_before : (vs : List (View E F)) (i : ℕ) (v w : View E F) → get_elem? vs i ≡ some v → v.spent ≡ false → (n : ℕ) → IsLivePass (set vs i w) n → IsLivePass vs n
  live_before vs i v w at alive n l =
      ⊎_elim (λ t. (v, ap (get_elem? vs) t.0 ∙ at, alive)) (λ t. (l.0, t.1, l.2)) (at_set vs i n w l.0 l.1)

  pub same_view : (vs : List (View E F)) (i j : ℕ) (v w : View E F) → get_elem? vs i ≡ some v → get_elem? vs j ≡ some w → j ≡ i → w ≡ v
  same_view vs i j v w at at' e = some-injective w v (sym at' ∙ (ap (get_elem? vs) e ∙ at))

  -- a pass that holds no turn is not the one that holds it
  pub other_holds : (vs : List (View E F)) (i : ℕ) (v : View E F) → get_elem? vs i ≡ some v → v.found ≡ None → (found : List E) (j : ℕ) (w : View E F) → get_elem? vs j ≡ some w → w.found ≡ Some found → j ≢ i
  other_holds vs i v at idle found j w at' has e =
      let clash : None ≡ Some found = sym idle ∙ (ap (λ (u : View E F). u.found) (sym (same_view vs i j v w at at' e)) ∙ has) in
      cc
