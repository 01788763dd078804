-- A step that changes one view keeps what the rule says of every view.
use Rattle.std.proofs.Common.{◌≡◌, ◌≢◌, ℕ, ◌+◌, ◌⊎◌, List, [], length, set, false, Option, sym, ap, ◌∙◌, subst, inl, inr, ⊎_elim, arith, length-set, Contains, append-nil}
use mathlib.Core.Logic.{dite}
use mathlib.Core.Option.{some, none}
use mathlib.Core.List.{IsPrefix}
use native.Mathlib.Decide.{ℕ_discrete}
use lib.ListN.{get_elem?}
use Rattle.atomic_table.proofs.Lists.{at_set, set_here, set_else}
use Rattle.turn_lock.specs.History.{own, HasEnded}
use Rattle.turn_lock.specs.Passes.{Facts}
use Rattle.turn_lock.proofs.Told.{told}
use Rattle.turn_lock.specs.Rule.{IsLivePass, IsSeenWhole, IsBlamed, IsJoined, FitsLog, IsFree, IsTurnTaken, IsRuleKept}
use Rattle.turn_lock.specs.declared.view.View.{View}
use Rattle.turn_lock.proofs.Shared.{prefix_trans, at_below}
use Rattle.turn_lock.proofs.Live.{count-set_same, live_here, live_after, live_before, same_view}

-- what no step on the word changes of a view
pub record Goes {E F : Type 0} (v w : View E F) : Type 0 where
  pub number : w.number ≡ v.number
  pub fixed : w.fixed ≡ v.fixed
  pub spent : w.spent ≡ v.spent
  pub made : w.made ≡ v.made
  pub out : w.out ≡ v.out
  pub ended : w.ended ≡ v.ended
  pub met : w.met ≡ v.met
  pub taken : (p : ℕ × ℕ) → Contains v.taken p → Contains w.taken p

module _ {T E F : Type 0} (entries : T → List E) (fixed : T → F) (number : E → ℕ) (key : F) where
  abbrev Fit : List E → List (View E F) → ℕ → View E F → Type 0
  Fit = FitsLog entries fixed number key

  abbrev Join : List E → List (View E F) → List E → ℕ → List E → Type 0
  Join = IsJoined entries fixed number

  module _ (views : List (View E F)) (log log' : List E) (i : ℕ) (v w : View E F) (at : get_elem? views i ≡ some v) (alive : v.spent ≡ false) (goes : Goes v w) (grows : IsPrefix log log')
      (others : (n : ℕ) → n ≢ i → own number n log' ≡ own number n log)
      (each : (j : ℕ) (u : View E F) → get_elem? views j ≡ some u → u.spent ≡ false → Fit log views j u) where
    alive' : w.spent ≡ false
    alive' = goes.spent ∙ alive

    pub blamed_after : (j word : ℕ) → IsBlamed views j word → IsBlamed (set views i w) j word
    blamed_after j word b = dite (ℕ_discrete b.seat i)
        (λ e. record {
          at = b.at;
          by = b.by;
          seat = i;
          view = w;
          odd = b.odd;
          other = b.other;
          there = set_here views i w (at_below views i v at);
          alive = alive';
          kept = goes.taken (b.by, b.at) (subst (λ (u : View E F). Contains u.taken (b.by, b.at)) (same_view views i b.seat v b.view at b.there e) b.kept);
        })
        (λ ne. record { at = b.at; by = b.by; seat = b.seat; view = b.view; odd = b.odd; other = b.other; there = set_else views i b.seat w ne ∙ b.there; alive = b.alive; kept = b.kept })

    apart : (seen es : List E) (n : ℕ) → Join log views seen n es → n ≢ i
    apart seen es n j e = j.gone (v, ap (get_elem? views) e ∙ at, alive)

    joined_after : (seen seen' es : List E) (n : ℕ) → Join log views seen n es → own number n seen' ≡ es → Join log' (set views i w) seen' n es
    joined_after seen seen' es n j e =
        let long = length-set views i w in
        let made = j.made in record {
          seen_own = e;
          all_own = others n (apart seen es n j) ∙ j.all_own;
          made = omega arith;
          gone = λ l. j.gone (live_before views i v w at alive n l);
        }

    covers_after : (n : ℕ) (ended : List (ℕ × List E)) → IsLivePass views n ⊎ (HasEnded ended n ⊎ (own number n log ≡ [])) → IsLivePass (set views i w) n ⊎ (HasEnded ended n ⊎ (own number n log' ≡ []))
    covers_after n ended c = ⊎_elim (λ l. inl (live_after views i v w at alive' n l))
        (λ d. ⊎_elim (λ h. inr (inl h)) (λ e. dite (ℕ_discrete n i) (λ is. inl (subst (IsLivePass (set views i w)) (sym is) (live_here views i v w at alive'))) (λ ne. inr (inr (others n ne ∙ e)))) d) c

    fits_other : (j : ℕ) (u : View E F) → j ≢ i → Fit log views j u → Fit log' (set views i w) j u
    fits_other j u ne f = record {
      numbered = f.numbered;
      shows = f.shows;
      begins = prefix_trans u.seen log log' f.begins grows;
      seen_own = f.seen_own;
      all_own = others j ne ∙ f.all_own;
      ended_are = λ n es c. joined_after u.seen u.seen es n (f.ended_are n es c) (f.ended_are n es c).seen_own;
      met_begin = f.met_begin;
      counted = f.counted;
      counts = λ z. (length-set views i w ∙ (f.counts z).0, count-set_same views i v w at goes.spent ∙ (f.counts z).1);
      covers = λ z n. covers_after n u.ended (f.covers z n);
      waits = λ r. blamed_after j u.last (f.waits r);
    }

    module _ (mine : own number i log' ≡ w.mine) (sees : ((w.seen ≡ v.seen) × (log' ≡ log)) ⊎ (w.seen ≡ log')) (waits : w.refused ≢ 0 → IsBlamed (set views i w) i w.last) where
      f : Fit log views i v
      f = each i v at alive

      fits_here : Fit log' (set views i w) i w
      fits_here = record {
        numbered = goes.number ∙ f.numbered;
        shows = goes.fixed ∙ f.shows;
        begins = ⊎_elim (λ p. subst (λ (xs : List E). IsPrefix xs log') (sym p.0) (prefix_trans v.seen log log' f.begins grows)) (λ p. subst (λ (xs : List E). IsPrefix xs log') (sym p) ([], append-nil log')) sees;
        seen_own = ⊎_elim (λ p. ap (own number i) p.0 ∙ (f.seen_own ∙ (sym f.all_own ∙ (ap (own number i) (sym p.1) ∙ mine)))) (λ p. ap (own number i) p ∙ mine) sees;
        all_own = mine;
        ended_are = λ n es c.
            let j = f.ended_are n es (subst (λ (l : List (ℕ × List E)). Contains l (n, es)) goes.ended c) in
            joined_after v.seen w.seen es n j (⊎_elim (λ p. ap (own number n) p.0 ∙ j.seen_own) (λ p. ap (own number n) p ∙ (others n (apart v.seen es n j) ∙ j.all_own)) sees);
        met_begin = λ xs c.
            let m = f.met_begin xs (subst (λ (l : List (List E)). Contains l xs) goes.met c) in
            ⊎_elim (λ p. subst (IsPrefix xs) (sym p.0) m) (λ p. subst (IsPrefix xs) (sym p) (prefix_trans xs log log' (prefix_trans xs v.seen log m f.begins) grows)) sees;
        counted = goes.made ∙ (f.counted ∙ (λ k. sym goes.out k + length (sym goes.ended k)));
        counts = λ z. (
          length-set views i w ∙ ((f.counts z).0 ∙ ap (λ (k : ℕ). k + 1) (sym goes.made)),
          count-set_same views i v w at goes.spent ∙ ((f.counts z).1 ∙ ap (λ (k : ℕ). k + 1) (sym goes.out)),
        );
        covers = λ z n. subst (λ (l : List (ℕ × List E)). IsLivePass (set views i w) n ⊎ (HasEnded l n ⊎ (own number n log' ≡ []))) (sym goes.ended) (covers_after n v.ended (f.covers z n));
        waits = waits;
      }

      pub each_after : (j : ℕ) (u : View E F) → get_elem? (set views i w) j ≡ some u → u.spent ≡ false → Fit log' (set views i w) j u
      each_after j u at' live = ⊎_elim (λ t. subst (λ (z : ℕ × View E F). Fit log' (set views i w) z.0 z.1) (λ k. (sym t.0 k, t.1 k)) fits_here)
          (λ t. fits_other j u t.0 (each j u t.1 live)) (at_set views i j w u at')

      pub known_after : IsSeenWhole log views → IsSeenWhole log' (set views i w)
      known_after k = ⊎_elim
          (λ p. dite (ℕ_discrete k.seat i)
          (λ e. record {
            seat = i;
            view = w;
            there = set_here views i w (at_below views i v at);
            alive = alive';
            whole = p.0 ∙ (ap (λ (u : View E F). u.seen) (sym (same_view views i k.seat v k.view at k.there e)) ∙ (k.whole ∙ sym p.1));
          })
          (λ ne. record { seat = k.seat; view = k.view; there = set_else views i k.seat w ne ∙ k.there; alive = k.alive; whole = k.whole ∙ sym p.1 }))
          (λ p. record { seat = i; view = w; there = set_here views i w (at_below views i v at); alive = alive'; whole = p }) sees

      here' : get_elem? (set views i w) i ≡ some w
      here' = set_here views i w (at_below views i v at)

      -- the rule holds afterwards, and tells of the pass that made the step
      pub kept_after : (words : List ℕ) (homes : List (mathlib.Core.Option.Option (Option T))) → length words ≡ 1 → IsLivePass views 0 → IsSeenWhole log views
          → (IsFree entries fixed number key log' record { words = words; homes = homes; views = set views i w } ⊎ IsTurnTaken entries fixed number log' record { words = words; homes = homes; views = set views i w })
          → IsRuleKept entries fixed number key record { words = words; homes = homes; views = set views i w } × Facts number w
      kept_after words homes wide first known turn = (
        record {
          log = log';
          wide = wide;
          first = live_after views i v w at alive' 0 first;
          each = each_after;
          known = known_after known;
          turn = turn;
        },
        told entries fixed number key (set views i w) log' i w here' alive' (each_after i w here' alive'),
      )
