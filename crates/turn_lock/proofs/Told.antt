-- What the rule tells of a pass that was not joined.
use Rattle.std.proofs.Common.{◌≡◌, ℕ, ◌+◌, List, false, sym, ap, ◌∙◌, subst, inl, inr, ⊎_elim, Contains}
use mathlib.Core.Option.{some}
use lib.ListN.{get_elem?}
use Rattle.turn_lock.specs.History.{own}
use Rattle.turn_lock.specs.Passes.{Facts}
use Rattle.turn_lock.specs.Rule.{count_live, FitsLog}
use Rattle.turn_lock.specs.declared.view.View.{View}
use Rattle.turn_lock.proofs.Shared.{own_none}
use Rattle.turn_lock.proofs.Live.{only_one, same_view}

module _ {T E F : Type 0} (entries : T → List E) (fixed : T → F) (number : E → ℕ) (key : F) (views : List (View E F)) (log : List E) (i : ℕ) (v : View E F) (at : get_elem? views i ≡ some v) (alive : v.spent ≡ false)
    (f : FitsLog entries fixed number key log views i v) where
  alone : v.number ≡ 0 → v.out ≡ 0 → (i ≡ 0) × (count_live views ≡ 1)
  alone z0 empty = let first : i ≡ 0 = sym f.numbered ∙ z0 in (first, (f.counts first).1 ∙ ap (λ (k : ℕ). k + 1) empty)

  pub told : Facts number v
  told = record {
    own_are = ap (λ (n : ℕ). own number n v.seen) f.numbered ∙ f.seen_own;
    ended_are = λ n es c. let j = f.ended_are n es c in (j.seen_own, λ e. j.gone (v, ap (get_elem? views) (e ∙ f.numbered) ∙ at, alive));
    counted = f.counted;
    met_begin = f.met_begin;
    covered = λ z0 empty n other.
        let a = alone z0 empty in
        ⊎_elim (λ l. absurd (other (only_one views i n v l.0 a.1 at alive l.1 l.2 ∙ a.0))) (λ d. ⊎_elim (λ h. inl h) (λ e. inr (own_none number n v.seen log f.begins e)) d) (f.covers a.0 n);
    odd = λ r. let b = f.waits r in (b.at, b.odd);
    waited = λ z0 empty r.
        let a = alone z0 empty in
        let b = f.waits r in
        let same = same_view views i b.seat v b.view at b.there (only_one views i b.seat v b.view a.1 at alive b.there b.alive) in
        (b.by, b.at, (λ e. b.other (e ∙ sym a.0)), b.odd, subst (λ (u : View E F). Contains u.taken (b.by, b.at)) same b.kept);
  }
