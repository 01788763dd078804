-- A pass that is split from the first one, or joined into it; the lock at its start and at its end.
use Rattle.std.proofs.Common.{◌≡◌, ◌≢◌, ℕ, ◌+◌, ◌<◌, List, [], ◌∷◌, ◌++◌, length, set, false, Option, None, refl, sym, ap, ◌∙◌, subst, inl, inr, ⊎_elim, arith, length-set, length-append, Contains}
use mathlib.Core.Logic.{dite}
use mathlib.Core.Option.{some}
use native.Mathlib.Decide.{ℕ_discrete}
use lib.ListN.{get_elem?}
use Rattle.atomic_table.specs.Table.{State, Splits}
use Rattle.atomic_table.proofs.Lists.{at_set, set_here, set_else, at_longer}
use Rattle.turn_lock.specs.History.{own}
use Rattle.turn_lock.specs.Passes.{split_from, split_off}
use Rattle.turn_lock.specs.Rule.{IsLivePass, IsSeenWhole, IsBlamed, IsJoined, FitsLog, IsFree, IsTurnTaken, IsRuleKept}
use Rattle.turn_lock.specs.declared.view.View.{View}
use Rattle.turn_lock.proofs.Shared.{own_none, at_below, at_snoc_at}
use Rattle.turn_lock.proofs.Live.{count-snoc, count-set_same, live_after, live_before, same_view, other_holds}

no_element : {A : Type 0} (x : A) → Contains [] x → ⊥
no_element x c = let h = c.1 in omega arith

module _ {E F : Type 0} where
  -- the views after a split
  abbrev parted : List (View E F) → ℕ → View E F → List (View E F)
  parted views id v = set views id (split_from v) ++ split_off v ∷ []

module _ {T E F : Type 0} (entries : T → List E) (fixed : T → F) (number : E → ℕ) (key : F) where
  abbrev St : Type 0
  St = State (Option T) (View E F)

  abbrev Rule : St → Type 0
  Rule = IsRuleKept entries fixed number key

  abbrev Fit : List E → List (View E F) → ℕ → View E F → Type 0
  Fit = FitsLog entries fixed number key

  abbrev Free : List E → St → Type 0
  Free = IsFree entries fixed number key

  abbrev Taken : List E → St → Type 0
  Taken = IsTurnTaken entries fixed number

  abbrev Joined : List E → List (View E F) → List E → ℕ → List E → Type 0
  Joined = IsJoined entries fixed number

  module _ (views : List (View E F)) (log : List E) (id : ℕ) (v : View E F) (at : get_elem? views id ≡ some v) (alive : v.spent ≡ false) (first : id ≡ 0)
      (each : (j : ℕ) (u : View E F) → get_elem? views j ≡ some u → u.spent ≡ false → Fit log views j u) where
    abbrev l : View E F
    l = split_from v

    abbrev r : View E F
    r = split_off v

    abbrev left : List (View E F)
    left = set views id l

    abbrev after : List (View E F)
    after = left ++ r ∷ []

    fit : Fit log views id v
    fit = each id v at alive

    long : length left ≡ length views
    long = length-set views id l

    longer_by_one : length after ≡ length views + 1
    longer_by_one = omega (arith, long, length-append left (r ∷ []))

    count_is : length views ≡ v.made + 1
    count_is = (fit.counts first).0

    at_left : get_elem? left id ≡ some l
    at_left = set_here views id l (at_below views id v at)

    stays : (j : ℕ) (u : View E F) → j ≢ id → get_elem? views j ≡ some u → get_elem? after j ≡ some u
    stays j u ne e = at_longer left (r ∷ []) j u (set_else views id j l ne ∙ e)

    left_there : get_elem? after id ≡ some l
    left_there = at_longer left (r ∷ []) id l at_left

    live_to : (n : ℕ) → IsLivePass views n → IsLivePass after n
    live_to n live = let m = live_after views id v l at alive n live in (m.0, at_longer left (r ∷ []) n m.0 m.1, m.2)

    live_from : (n : ℕ) → n < length views → IsLivePass after n → IsLivePass views n
    live_from n low live = ⊎_elim (λ e. live_before views id v l at alive n (live.0, e, live.2)) (λ e. let here = e.0 in absurd (omega (arith, long))) (at_snoc_at left r live.0 n live.1)

    blamed : (j word : ℕ) → IsBlamed views j word → IsBlamed after j word
    blamed j word b = dite (ℕ_discrete b.seat id)
        (λ e. record {
          at = b.at;
          by = b.by;
          seat = id;
          view = l;
          odd = b.odd;
          other = b.other;
          there = left_there;
          alive = alive;
          kept = subst (λ (u : View E F). Contains u.taken (b.by, b.at)) (same_view views id b.seat v b.view at b.there e) b.kept;
        })
        (λ ne. record { at = b.at; by = b.by; seat = b.seat; view = b.view; odd = b.odd; other = b.other; there = stays b.seat b.view ne b.there; alive = b.alive; kept = b.kept })

    still_joined : (seen es : List E) (n : ℕ) → Joined log views seen n es → Joined log after seen n es
    still_joined seen es n j = let made = j.made in record { seen_own = j.seen_own; all_own = j.all_own; made = omega (arith, longer_by_one); gone = λ live. j.gone (live_from n made live) }

    fits_other : (j : ℕ) (u : View E F) → j ≢ id → Fit log views j u → Fit log after j u
    fits_other j u ne f = record {
      numbered = f.numbered;
      shows = f.shows;
      begins = f.begins;
      seen_own = f.seen_own;
      all_own = f.all_own;
      ended_are = λ n es c. still_joined u.seen es n (f.ended_are n es c);
      met_begin = f.met_begin;
      counted = f.counted;
      counts = λ z. absurd (ne (z ∙ sym first));
      covers = λ z n. absurd (ne (z ∙ sym first));
      waits = λ q. blamed j u.last (f.waits q);
    }

    fits_left : Fit log after id l
    fits_left = let counted = fit.counted in record {
      numbered = fit.numbered;
      shows = fit.shows;
      begins = fit.begins;
      seen_own = fit.seen_own;
      all_own = fit.all_own;
      ended_are = λ n es c. still_joined v.seen es n (fit.ended_are n es c);
      met_begin = fit.met_begin;
      counted = omega arith;
      counts = λ z. (
        longer_by_one ∙ ap (λ (k : ℕ). k + 1) count_is,
        count-snoc left r refl ∙ ap (λ (k : ℕ). k + 1) (count-set_same views id v l at refl ∙ (fit.counts z).1),
      );
      covers = λ z n. ⊎_elim (λ live. inl (live_to n live)) (λ d. inr d) (fit.covers z n);
      waits = λ q. blamed id v.last (fit.waits q);
    }

    nobody : own number (length left) log ≡ []
    nobody = ⊎_elim (λ live. let low = at_below views (length left) live.0 live.1 in absurd (omega (arith, long)))
        (λ d. ⊎_elim (λ h. let made = (fit.ended_are (length left) h.0 h.1).made in absurd (omega (arith, long))) (λ e. e) d) (fit.covers first (length left))

    fits_right : Fit log after (length left) r
    fits_right = let low = at_below views id v at in record {
      numbered = sym (long ∙ count_is);
      shows = fit.shows;
      begins = fit.begins;
      seen_own = own_none number (length left) v.seen log fit.begins nobody;
      all_own = nobody;
      ended_are = λ n es c. absurd (no_element (n, es) c);
      met_begin = λ xs c. absurd (no_element xs c);
      counted = refl;
      counts = λ z. absurd (omega (arith, long));
      covers = λ z n. absurd (omega (arith, long));
      waits = λ q. absurd (q refl);
    }

    pub each_split : (j : ℕ) (u : View E F) → get_elem? after j ≡ some u → u.spent ≡ false → Fit log after j u
    each_split j u e live = ⊎_elim
        (λ old. ⊎_elim (λ t. subst (λ (z : ℕ × View E F). Fit log after z.0 z.1) (λ k. (sym t.0 k, t.1 k)) fits_left) (λ t. fits_other j u t.0 (each j u t.1 live)) (at_set views id j l u old))
        (λ t. subst (λ (z : ℕ × View E F). Fit log after z.0 z.1) (λ k. (sym t.0 k, t.1 k)) fits_right) (at_snoc_at left r u j e)

    pub known_split : IsSeenWhole log views → IsSeenWhole log after
    known_split k = dite (ℕ_discrete k.seat id)
        (λ e. record { seat = id; view = l; there = left_there; alive = alive; whole = ap (λ (u : View E F). u.seen) (sym (same_view views id k.seat v k.view at k.there e)) ∙ k.whole })
        (λ ne. record { seat = k.seat; view = k.view; there = stays k.seat k.view ne k.there; alive = k.alive; whole = k.whole })

  pub splits : (id : ℕ) (v : View E F) → v.spent ≡ false → v.found ≡ None → v.number ≡ 0 → Splits Rule id v (split_from v) (split_off v)
  splits id v alive idle zero_is s kept at =
      let fit = kept.each id v at alive in
      let first : id ≡ 0 = sym fit.numbered ∙ zero_is in
      let none_of : ((j : ℕ) (u : View E F) → get_elem? s.views j ≡ some u → u.spent ≡ false → j ≢ id → u.found ≡ None) → (j : ℕ) (u : View E F) → get_elem? (parted s.views id v) j ≡ some u → u.spent ≡ false → u.found ≡ None =
      λ others j u e live. ⊎_elim (λ old. ⊎_elim (λ t. ap (λ (z : View E F). z.found) (sym t.1) ∙ idle) (λ t. others j u t.1 live t.0) (at_set s.views id j (split_from v) u old))
      (λ t. ap (λ (z : View E F). z.found) (sym t.1)) (at_snoc_at (set s.views id (split_from v)) (split_off v) u j e) in
      let freely : (f : Free kept.log s) → Free kept.log record { words = s.words; homes = s.homes; views = parted s.views id v } = λ f. record {
        even = f.even;
        none_holds = none_of (λ j u e live _. f.none_holds j u e live);
        value = f.value;
        home = f.home;
        stands = f.stands;
        keeps = f.keeps;
      } in
      let takenly : (t : Taken kept.log s) → Taken kept.log record { words = s.words; homes = s.homes; views = parted s.views id v } = λ t. record {
        odd = t.odd;
        holder = t.holder;
        view = t.view;
        there = stays s.views kept.log id v at alive first kept.each t.holder t.view (other_holds s.views id v at idle kept.log t.holder t.view t.there t.found) t.there;
        alive = t.alive;
        found = t.found;
        granted = t.granted;
        only = λ j u e live other. ⊎_elim (λ old. ⊎_elim (λ z. ap (λ (y : View E F). y.found) (sym z.1) ∙ idle) (λ z. t.only j u z.1 live other) (at_set s.views id j (split_from v) u old))
            (λ z. ap (λ (y : View E F). y.found) (sym z.1)) (at_snoc_at (set s.views id (split_from v)) (split_off v) u j e);
        away = t.away;
      } in record {
        log = kept.log;
        wide = kept.wide;
        first = live_to s.views kept.log id v at alive first kept.each 0 kept.first;
        each = each_split s.views kept.log id v at alive first kept.each;
        known = known_split s.views kept.log id v at alive first kept.each kept.known;
        turn = ⊎_elim (λ f. inl (freely f)) (λ t. inr (takenly t)) kept.turn;
      }
