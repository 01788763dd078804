-- A pass is joined into the first one.
use Rattle.std.proofs.Common.{◌≡◌, ◌≢◌, ℕ, ◌+◌, ◌≤◌, ◌⊎◌, List, [], ◌∷◌, ◌++◌, length, set, true, false, Option, None, refl, sym, ap, ◌∙◌, subst, inl, inr, ⊎_elim, arith, length-set, length-append, Contains}
use Rattle.std.proofs.lemmas.List.Elements.{Contains-append_left, Contains-append_right, Contains-push, Contains-push_cases}
use mathlib.Core.Logic.{dite}
use mathlib.Core.Option.{some}
use mathlib.Core.List.{IsPrefix}
use native.Mathlib.Decide.{ℕ_discrete}
use lib.ListN.{get_elem?}
use Rattle.atomic_table.specs.Table.{State, Joins}
use Rattle.atomic_table.proofs.Lists.{at_set, set_here, set_else}
use Rattle.turn_lock.specs.History.{own}
use Rattle.turn_lock.specs.Passes.{spent_view, longer, joined}
use Rattle.turn_lock.specs.Rule.{IsLivePass, count_live, IsSeenWhole, IsBlamed, IsJoined, FitsLog, IsFree, IsTurnTaken, IsRuleKept}
use Rattle.turn_lock.specs.declared.view.View.{View}
use Rattle.turn_lock.proofs.Shared.{own_between, at_below, longer_left, longer_right, longer_begins, longer_whole}
use Rattle.turn_lock.proofs.Live.{count-set_same, count-set_spent, count_some, live_after, live_before, same_view, other_holds}

not_spent : false ≡ true → ⊥
not_spent e = cc

-- an element of a list of two
two_cases : {A : Type 0} (a b x : A) → Contains (a ∷ b ∷ []) x → (a ≡ x) ⊎ (b ≡ x)
two_cases a b x c = ⊎_elim (λ h. ⊎_elim (λ n. let low = n.1 in absurd (omega arith)) (λ e. inl e) (Contains-push_cases [] a x h)) (λ e. inr e) (Contains-push_cases (a ∷ []) b x c)

module _ {T E F : Type 0} (entries : T → List E) (fixed : T → F) (number : E → ℕ) (key : F) where
  abbrev St : Type 0
  St = State (Option T) (View E F)

  abbrev Rule : St → Type 0
  Rule = IsRuleKept entries fixed number key

  abbrev Fit : List E → List (View E F) → ℕ → View E F → Type 0
  Fit = FitsLog entries fixed number key

  abbrev Free : List E → St → Type 0
  Free = IsFree entries fixed number key

  abbrev Taken : List E → St → Type 0
  Taken = IsTurnTaken entries fixed number

  abbrev Joined : List E → List (View E F) → List E → ℕ → List E → Type 0
  Joined = IsJoined entries fixed number

  module _ (views : List (View E F)) (log : List E) (id : ℕ) (v : View E F) (other : ℕ) (w : View E F) (at : get_elem? views id ≡ some v) (alive : v.spent ≡ false) (first : id ≡ 0)
      (ne : other ≢ id) (at' : get_elem? views other ≡ some w) (alive' : w.spent ≡ false) (each : (j : ℕ) (u : View E F) → get_elem? views j ≡ some u → u.spent ≡ false → Fit log views j u) where
    abbrev b : View E F
    b = joined v w

    abbrev grown : List (View E F)
    grown = set views id b

    abbrev after : List (View E F)
    after = set grown other spent_view

    fit : Fit log views id v
    fit = each id v at alive

    fit' : Fit log views other w
    fit' = each other w at' alive'

    long : length after ≡ length views
    long = length-set grown other spent_view ∙ length-set views id b

    at_grown : get_elem? grown other ≡ some w
    at_grown = set_else views id other b ne ∙ at'

    both_there : get_elem? after id ≡ some b
    both_there = set_else grown other id spent_view (λ e. ne (sym e)) ∙ set_here views id b (at_below views id v at)

    pub joined_stays : (j : ℕ) (u : View E F) → j ≢ id → j ≢ other → get_elem? views j ≡ some u → get_elem? after j ≡ some u
    joined_stays j u n n' e = set_else grown other j spent_view n' ∙ (set_else views id j b n ∙ e)

    -- what stands there afterwards and was not joined
    pub at_cases : (j : ℕ) (u : View E F) → get_elem? after j ≡ some u → u.spent ≡ false → (j ≢ other) × (((j ≡ id) × (b ≡ u)) ⊎ ((j ≢ id) × (get_elem? views j ≡ some u)))
    at_cases j u e live = ⊎_elim (λ t. absurd (not_spent (sym live ∙ ap (λ (z : View E F). z.spent) (sym t.1)))) (λ t. (t.0, at_set views id j b u t.1)) (at_set grown other j spent_view u e)

    pub live_still : (n : ℕ) → n ≢ other → IsLivePass views n → IsLivePass after n
    live_still n n' live = let m = live_after views id v b at alive n live in (m.0, set_else grown other n spent_view n' ∙ m.1, m.2)

    live_from : (n : ℕ) → IsLivePass after n → IsLivePass views n
    live_from n live = live_before views id v b at alive n (live_before grown other w spent_view at_grown alive' n live)

    gone : IsLivePass after other → ⊥
    gone live = (at_cases other live.0 live.1 live.2).0 refl

    blamed : (j word : ℕ) → IsBlamed views j word → IsBlamed after j word
    blamed j word c = dite (ℕ_discrete c.seat id)
        (λ e. record {
          at = c.at;
          by = c.by;
          seat = id;
          view = b;
          odd = c.odd;
          other = c.other;
          there = both_there;
          alive = alive;
          kept = Contains-append_left v.taken w.taken (c.by, c.at) (subst (λ (u : View E F). Contains u.taken (c.by, c.at)) (same_view views id c.seat v c.view at c.there e) c.kept);
        })
        (λ n. dite (ℕ_discrete c.seat other)
        (λ e. record {
          at = c.at;
          by = c.by;
          seat = id;
          view = b;
          odd = c.odd;
          other = c.other;
          there = both_there;
          alive = alive;
          kept = Contains-append_right v.taken w.taken (c.by, c.at) (subst (λ (u : View E F). Contains u.taken (c.by, c.at)) (same_view views other c.seat w c.view at' c.there e) c.kept);
        })
        (λ n'. record { at = c.at; by = c.by; seat = c.seat; view = c.view; odd = c.odd; other = c.other; there = joined_stays c.seat c.view n n' c.there; alive = c.alive; kept = c.kept }))

    still_joined : (seen seen' es : List E) (n : ℕ) → Joined log views seen n es → own number n seen' ≡ es → Joined log after seen' n es
    still_joined seen seen' es n j e = let made = j.made in record { seen_own = e; all_own = j.all_own; made = omega (arith, long); gone = λ live. j.gone (live_from n live) }

    fits_other : (j : ℕ) (u : View E F) → j ≢ id → Fit log views j u → Fit log after j u
    fits_other j u n f = record {
      numbered = f.numbered;
      shows = f.shows;
      begins = f.begins;
      seen_own = f.seen_own;
      all_own = f.all_own;
      ended_are = λ m es c. still_joined u.seen u.seen es m (f.ended_are m es c) (f.ended_are m es c).seen_own;
      met_begin = f.met_begin;
      counted = f.counted;
      counts = λ z. absurd (n (z ∙ sym first));
      covers = λ z m. absurd (n (z ∙ sym first));
      waits = λ q. blamed j u.last (f.waits q);
    }

    abbrev seen : List E
    seen = longer v.seen w.seen

    left_begins : IsPrefix v.seen seen
    left_begins = longer_left v.seen w.seen log fit.begins fit'.begins

    right_begins : IsPrefix w.seen seen
    right_begins = longer_right v.seen w.seen log fit.begins fit'.begins

    seen_begins : IsPrefix seen log
    seen_begins = longer_begins v.seen w.seen log fit.begins fit'.begins

    -- the entries of a number that the first pass had whole
    own_still : (n : ℕ) (es : List E) → own number n v.seen ≡ es → own number n log ≡ es → own number n seen ≡ es
    own_still n es = own_between number n v.seen seen log es left_begins seen_begins

    count_after : count_live after + 1 ≡ v.out + 1
    count_after = count-set_spent grown other w spent_view at_grown alive' refl ∙ (count-set_same views id v b at refl ∙ (fit.counts first).1)

    count_more : 1 ≤ count_live after
    count_more = count_some after id b both_there alive

    newly : Joined log after seen w.number w.mine
    newly = record {
      seen_own = ap (λ (n : ℕ). own number n seen) fit'.numbered ∙ own_between number other w.seen seen log w.mine right_begins seen_begins fit'.seen_own fit'.all_own;
      all_own = ap (λ (n : ℕ). own number n log) fit'.numbered ∙ fit'.all_own;
      made = let low = at_below views other w at' in let is = fit'.numbered in omega (arith, long);
      gone = λ live. gone (subst (IsLivePass after) fit'.numbered live);
    }

    fits_both : Fit log after id b
    fits_both = record {
      numbered = fit.numbered;
      shows = fit.shows;
      begins = seen_begins;
      seen_own = own_still id v.mine fit.seen_own fit.all_own;
      all_own = fit.all_own;
      ended_are = λ n es c. ⊎_elim (λ old. let j = fit.ended_are n es old in still_joined v.seen seen es n j (own_still n es j.seen_own j.all_own))
          (λ e. subst (λ (z : ℕ × List E). Joined log after seen z.0 z.1) e newly) (Contains-push_cases v.ended (w.number, w.mine) (n, es) c);
      met_begin = λ xs c. ⊎_elim (λ e. subst (λ (l : List E). IsPrefix l seen) e left_begins) (λ e. subst (λ (l : List E). IsPrefix l seen) e right_begins) (two_cases v.seen w.seen xs c);
      counted = let counted = fit.counted in omega (arith, count_after, count_more, length-append v.ended ((w.number, w.mine) ∷ []));
      counts = λ z. (long ∙ (fit.counts z).0, omega (arith, count_after, count_more));
      covers = λ z n. ⊎_elim
          (λ live. dite (ℕ_discrete n other)
          (λ e. inr (inl (w.mine, subst (λ (k : ℕ). Contains (v.ended ++ (w.number, w.mine) ∷ []) (k, w.mine)) (fit'.numbered ∙ sym e) (Contains-push v.ended (w.number, w.mine)))))
          (λ n'. inl (live_still n n' live)))
          (λ d. ⊎_elim (λ h. inr (inl (h.0, Contains-append_left v.ended ((w.number, w.mine) ∷ []) (n, h.0) h.1))) (λ e. inr (inr e)) d) (fit.covers first n);
      waits = λ q. blamed id v.last (fit.waits q);
    }

    pub each_joined : (j : ℕ) (u : View E F) → get_elem? after j ≡ some u → u.spent ≡ false → Fit log after j u
    each_joined j u e live =
        ⊎_elim (λ t. subst (λ (z : ℕ × View E F). Fit log after z.0 z.1) (λ k. (sym t.0 k, t.1 k)) fits_both) (λ t. fits_other j u t.0 (each j u t.1 live)) (at_cases j u e live).1

    pub known_joined : IsSeenWhole log views → IsSeenWhole log after
    known_joined k = dite (ℕ_discrete k.seat id)
        (λ e. whole (inl (ap (λ (u : View E F). u.seen) (sym (same_view views id k.seat v k.view at k.there e)) ∙ k.whole)))
        (λ n. dite (ℕ_discrete k.seat other)
        (λ e. whole (inr (ap (λ (u : View E F). u.seen) (sym (same_view views other k.seat w k.view at' k.there e)) ∙ k.whole)))
        (λ n'. record { seat = k.seat; view = k.view; there = joined_stays k.seat k.view n n' k.there; alive = k.alive; whole = k.whole }))
      where
        whole : (v.seen ≡ log) ⊎ (w.seen ≡ log) → IsSeenWhole log after
        whole c = record { seat = id; view = b; there = both_there; alive = alive; whole = longer_whole v.seen w.seen log fit.begins fit'.begins c }

    pub idle_joined : v.found ≡ None → ((j : ℕ) (u : View E F) → get_elem? views j ≡ some u → u.spent ≡ false → u.found ≡ None) → (j : ℕ) (u : View E F) → get_elem? after j ≡ some u → u.spent ≡ false → u.found ≡ None
    idle_joined idle others j u e live = ⊎_elim (λ t. ap (λ (z : View E F). z.found) (sym t.1) ∙ idle) (λ t. others j u t.1 live) (at_cases j u e live).1

  pub joins : (id : ℕ) (v : View E F) (other : ℕ) (w : View E F) → v.spent ≡ false → w.spent ≡ false → v.found ≡ None → w.found ≡ None → v.number ≡ 0 → Joins Rule id v other w (joined v w) spent_view
  joins id v other w alive alive' idle idle' zero_is s kept at ne at_grown =
      let fit = kept.each id v at alive in
      let first : id ≡ 0 = sym fit.numbered ∙ zero_is in
      let at' : get_elem? s.views other ≡ some w = sym (set_else s.views id other (joined v w) ne) ∙ at_grown in
      let new : St = record { words = s.words; homes = s.homes; views = set (set s.views id (joined v w)) other spent_view } in
      let freely : (f : Free kept.log s) → Free kept.log new = λ f. record {
        even = f.even;
        none_holds = idle_joined s.views kept.log id v other w at alive first ne at' alive' kept.each idle f.none_holds;
        value = f.value;
        home = f.home;
        stands = f.stands;
        keeps = f.keeps;
      } in
      let takenly : (t : Taken kept.log s) → Taken kept.log new = λ t. record {
        odd = t.odd;
        holder = t.holder;
        view = t.view;
        there = joined_stays s.views kept.log id v other w at alive first ne at' alive' kept.each t.holder t.view (other_holds s.views id v at idle kept.log t.holder t.view t.there t.found)
            (other_holds s.views other w at' idle' kept.log t.holder t.view t.there t.found) t.there;
        alive = t.alive;
        found = t.found;
        granted = t.granted;
        only = λ j u e live n. ⊎_elim (λ z. ap (λ (y : View E F). y.found) (sym z.1) ∙ idle) (λ z. t.only j u z.1 live n) (at_cases s.views kept.log id v other w at alive first ne at' alive' kept.each j u e live).1;
        away = t.away;
      } in record {
        log = kept.log;
        wide = kept.wide;
        first = live_still s.views kept.log id v other w at alive first ne at' alive' kept.each 0 (λ e. ne (sym e ∙ sym first)) kept.first;
        each = each_joined s.views kept.log id v other w at alive first ne at' alive' kept.each;
        known = known_joined s.views kept.log id v other w at alive first ne at' alive' kept.each kept.known;
        turn = ⊎_elim (λ f. inl (freely f)) (λ t. inr (takenly t)) kept.turn;
      }
