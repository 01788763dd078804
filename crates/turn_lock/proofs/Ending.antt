-- The lock at its start and at its end.
use Rattle.std.proofs.Common.{◌≡◌, ℕ, zero, suc, ◌+◌, List, [], ◌∷◌, false, Option, Some, None, refl, sym, ap, ◌∙◌, subst, inl, inr, ⊎_elim, arith, Contains}
use mathlib.Core.Option.{some, some-injective, some-ne-none}
use lib.ListN.{get_elem?}
use Rattle.atomic_table.specs.Table.{State, Seen, opening}
use Rattle.turn_lock.specs.Passes.{first_view}
use Rattle.turn_lock.specs.Rule.{count_live, FitsLog, IsRuleKept}
use Rattle.turn_lock.specs.declared.view.View.{View}
use Rattle.turn_lock.proofs.Live.{only_one, same_view}

no_element : {A : Type 0} (x : A) → Contains [] x → ⊥
no_element x c = let low = c.1 in omega arith

-- the one view there is
alone : {A : Type 0} (a b : A) (j : ℕ) → get_elem? (a ∷ []) j ≡ some b → (j ≡ 0) × (a ≡ b)
alone a b zero e = (refl, some-injective a b e)
alone a b (suc j) e = absurd (some-ne-none b (sym e))

module _ {T E F : Type 0} (entries : T → List E) (fixed : T → F) (number : E → ℕ) (key : F) where
  pub opens : (x : T) → entries x ≡ [] → fixed x ≡ key → IsRuleKept entries fixed number key (opening (0 ∷ []) (Some x ∷ []) (first_view key))
  opens x empty keeps =
      let fits : FitsLog entries fixed number key [] (first_view key ∷ []) 0 (first_view key) = record {
        numbered = refl;
        shows = refl;
        begins = ([], refl);
        seen_own = refl;
        all_own = refl;
        ended_are = λ n es c. absurd (no_element (n, es) c);
        met_begin = λ xs c. absurd (no_element xs c);
        counted = refl;
        counts = λ _. (refl, refl);
        covers = λ _ n. inr (inr refl);
        waits = λ r. absurd (r refl);
      } in record {
        log = [];
        wide = refl;
        first = (first_view key, refl, refl);
        each = λ i v at live. let t = alone (first_view key) v i at in subst (λ (z : ℕ × View E F). FitsLog entries fixed number key [] (first_view key ∷ []) z.0 z.1) (λ k. (sym t.0 k, t.1 k)) fits;
        known = record { seat = 0; view = first_view key; there = refl; alive = refl; whole = refl };
        turn = inl record {
          even = refl;
          none_holds = λ i v at live. ap (λ (u : View E F). u.found) (sym (alone (first_view key) v i at).1);
          value = x;
          home = refl;
          stands = empty;
          keeps = keeps;
        };
      }

  -- the first pass, with none out and the turn let go, has seen what the value at home stands for
  pub closes : (s : State (Option T) (View E F)) (id : ℕ) (v : View E F) → Seen (IsRuleKept entries fixed number key) id v s → v.spent ≡ false → v.number ≡ 0 → v.out ≡ 0 → v.found ≡ None
      → (x : T) × (get_elem? s.homes 0 ≡ some (some (Some x))) × (entries x ≡ v.seen) × (fixed x ≡ key)
  closes s id v seen alive z empty idle =
      let kept = seen.0 in
      let at = seen.1 in
      let fit = kept.each id v at alive in
      let first : id ≡ 0 = sym fit.numbered ∙ z in
      let one : count_live s.views ≡ 1 = (fit.counts first).1 ∙ ap (λ (k : ℕ). k + 1) empty in
      let k = kept.known in
      let is : k.view ≡ v = same_view s.views id k.seat v k.view at k.there (only_one s.views id k.seat v k.view one at alive k.there k.alive) in
      let whole : v.seen ≡ kept.log = ap (λ (u : View E F). u.seen) (sym is) ∙ k.whole in
      ⊎_elim (λ f. (f.value, ap (λ (hs : List (mathlib.Core.Option.Option (Option T))). get_elem? hs 0) f.home, f.stands ∙ sym whole, f.keeps))
      (λ t.
      let same = same_view s.views id t.holder v t.view at t.there (only_one s.views id t.holder v t.view one at alive t.there t.alive) in
      let clash : None ≡ Some kept.log = sym idle ∙ (ap (λ (u : View E F). u.found) (sym same) ∙ t.found) in
      absurd (let no : ⊥ = cc in no)) kept.turn
