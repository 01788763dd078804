-- Lists of operators.
use Rattle.std.proofs.Common.{◌≡◌, ℕ, suc, zero, ◌<◌, ◌≤◌, ◌++◌, ◌∷◌, [], List, Bool, true, length, slice_index_or, All, Contains, refl, sym, ap, ◌∙◌, subst, arith, append_assoc}
use Rattle.std.proofs.lemmas.List.Elements.{All-cons, All-head, All-nil, All-push, All-tail, Contains-append_left, Contains-append_right}
use Rattle.admission_rules.specs.declared.Rules.{Rules}
use Rattle.turn_lock.specs.declared.view.View.{View}
use Rattle.master_core.specs.declared.event.Event.{Event}
use Rattle.live_run.specs.declared.crew.Operator.{Operator}
use Rattle.live_run.specs.Retiring.{HaveRetired}

module _ {A : Type 0} where
  -- what holds at each place of a list and at the place behind it holds at each place of the list with one element more
  pub places-more : (P : ℕ → A → Type 0) (xs : List A) (x : A) → ((k : ℕ) (d : A) → k < length xs → P k (slice_index_or xs k d)) → P (length xs) x
      → (k : ℕ) (d : A) → k < length (xs ++ x ∷ []) → P k (slice_index_or (xs ++ x ∷ []) k d)
  places-more P [] x each last zero d within = last
  places-more P [] x each last (suc k) d within = absurd (omega arith)
  places-more P (y ∷ ys) x each last zero d within = each 0 d (omega arith)
  places-more P (y ∷ ys) x each last (suc k) d within =
      places-more (λ i. P (suc i)) ys x (λ i e less. each (suc i) e (omega arith)) last k d (omega arith)

-- what stands under the numbers of operators that are gone stands there when one more was retired
under-more : (v w : View Event Rules) (entry : ℕ × List Event) (gone : List Operator) → w.ended ≡ v.ended ++ entry ∷ []
    → All (λ (operator : Operator). Contains v.ended (operator.pass.view.number, operator.pass.view.mine)) gone
    → All (λ (operator : Operator). Contains w.ended (operator.pass.view.number, operator.pass.view.mine)) gone
under-more v w entry gone more all = λ k d within.
    let o = slice_index_or gone k d in
    subst (λ (l : List (ℕ × List Event)). Contains l (o.pass.view.number, o.pass.view.mine)) (sym more)
    (Contains-append_left v.ended (entry ∷ []) (o.pass.view.number, o.pass.view.mine) (all k d within))

pub retired-one : (all rest left : List Operator) (operator : Operator) (v w : View Event Rules) (flag after : Bool)
    → rest ≡ left ++ operator ∷ [] → w.ended ≡ v.ended ++ (operator.pass.view.number, operator.pass.view.mine) ∷ []
    → (after ≡ true → flag ≡ true) → (after ≡ true → operator.answered ≡ true)
    → (gone : List Operator) × HaveRetired all rest gone v flag → (gone : List Operator) × HaveRetired all left gone w after
retired-one all rest left operator v w flag after last more kept answered retired =
    let gone = retired.0 in
    let before = retired.1 in (
      operator ∷ gone,
      record {
        parts = sym (append_assoc left (operator ∷ []) gone) ∙ (ap (λ l. l ++ gone) (sym last) ∙ before.parts);
        ended = All-cons (λ (o : Operator). Contains w.ended (o.pass.view.number, o.pass.view.mine)) operator gone
            (subst (λ (l : List (ℕ × List Event)). Contains l (operator.pass.view.number, operator.pass.view.mine)) (sym more)
            (Contains-append_right v.ended ((operator.pass.view.number, operator.pass.view.mine) ∷ []) (operator.pass.view.number, operator.pass.view.mine) (0, omega arith, refl)))
            (under-more v w (operator.pass.view.number, operator.pass.view.mine) gone more before.ended);
        answered = λ is. All-cons (λ (o : Operator). o.answered ≡ true) operator gone (answered is) (before.answered (kept is));
      },
    )

-- numbers that are not above a bound, of the operators before the last one and of the last one
few-parts : (most : ℕ) (left : List Operator) (operator : Operator) → All (λ (o : Operator). o.pass.view.number ≤ most) (left ++ operator ∷ [])
    → All (λ (o : Operator). o.pass.view.number ≤ most) left × (operator.pass.view.number ≤ most)
few-parts most [] operator all = (All-nil (λ (o : Operator). o.pass.view.number ≤ most), all 0 operator (omega arith))
few-parts most (o ∷ os) operator all =
    let P : Operator → Type 0 = λ (x : Operator). x.pass.view.number ≤ most in
    let rest = few-parts most os operator (All-tail P o (os ++ operator ∷ []) all) in
    (All-cons P o os (All-head P o (os ++ operator ∷ []) all) rest.0, rest.1)

pub few-left : (most : ℕ) (rest left : List Operator) (operator : Operator) → rest ≡ left ++ operator ∷ []
    → All (λ (o : Operator). o.pass.view.number ≤ most) rest
    → All (λ (o : Operator). o.pass.view.number ≤ most) left × (operator.pass.view.number ≤ most)
few-left most rest left operator last all =
    few-parts most left operator (subst (λ (l : List Operator). All (λ (o : Operator). o.pass.view.number ≤ most) l) last all)

-- the numbers under which calls stand stay below a bound when one more operator was retired
pub few-joined : (most : ℕ) (v w : View Event Rules) (operator : Operator)
    → w.ended ≡ v.ended ++ (operator.pass.view.number, operator.pass.view.mine) ∷ []
    → All (λ (entry : ℕ × List Event). entry.0 ≤ most) v.ended → operator.pass.view.number ≤ most
    → All (λ (entry : ℕ × List Event). entry.0 ≤ most) w.ended
few-joined most v w operator more ended few =
    subst (λ (l : List (ℕ × List Event)). All (λ (entry : ℕ × List Event). entry.0 ≤ most) l) (sym more)
    (All-push (λ (entry : ℕ × List Event). entry.0 ≤ most) v.ended (operator.pass.view.number, operator.pass.view.mine) ended few)
