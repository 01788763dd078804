-- Each step on the word keeps the rule, and tells what it says.
use Rattle.std.proofs.Common.{◌≡◌, ◌≢◌, ℕ, ◌+◌, ◌-◌, ◌*◌, ◌%◌, ◌^◌, ◌<◌, ◌≤◌, ◌⊎◌, eqb, List, [], ◌∷◌, ◌++◌, length, drop, get_or, set, Bool, true, false, Option, Some, None, MatchBool, refl, sym, ap, ◌∙◌, subst, inl, inr, ⊎_elim, arith, length-set, length-append, get_or-set_same, eq-eqb, ne_eqb, bit_or, Contains}
use Rattle.std.proofs.lemmas.Nat.{or_shifted, or_block, or_comm}
use Rattle.std.proofs.lemmas.List.Elements.{Contains-append_left, Contains-push}
use Rattle.std.proofs.Math.Seq.{drop-append_seam}
use mathlib.Core.Logic.{dite}
use mathlib.Core.Option.{some, none}
use mathlib.Core.List.{IsPrefix}
use native.Mathlib.Decide.{ℕ_discrete}
use lib.ListN.{get_elem?}
use Rattle.atomic_table.specs.Table.{State, Me, Step, step, Allows, Act, keeps, takes, gives, Valid, rest, stepped, carried_after}
use Rattle.atomic_table.proofs.Lists.{at_set, set_here, set_else}
use Rattle.turn_lock.specs.History.{own, added}
use Rattle.turn_lock.specs.Passes.{carried, granted, refused, committed, given_back}
use Rattle.turn_lock.specs.Rule.{IsBlamed, IsFree, IsRuleKept, IsTurnTaken}
use Rattle.turn_lock.specs.Steps.{Looked, IsGranted, IsRefused, Tried, Committed, GivenBack}
use Rattle.turn_lock.specs.declared.view.View.{View}
use Rattle.turn_lock.proofs.Shared.{at_below, prefix_refl, prefix_length, own_one_more, own_no_more}
use Rattle.turn_lock.proofs.Live.{two_live, same_view, other_holds}
use Rattle.turn_lock.proofs.Moves.{Goes, blamed_after, kept_after}

even_or : (k : ℕ) → bit_or (2 * k) 1 ≡ 2 * k + 1
even_or k =
    let as_block : 2 * k ≡ k * 2 ^ 1 = omega arith in
    let set : bit_or (k * 2 ^ 1) 1 ≡ k * 2 ^ 1 + 1 = or_shifted k 1 1 (omega arith) in
    ap (λ (n : ℕ). bit_or n 1) as_block ∙ (set ∙ omega arith)

odd_or : (k : ℕ) → bit_or (2 * k + 1) 1 ≡ 2 * k + 1
odd_or k =
    let as_block : 2 * k + 1 ≡ k * 2 ^ 1 + 1 = omega arith in
    let both : bit_or (k * 2 ^ 1 + 1) (0 * 2 ^ 1 + 1) ≡ bit_or k 0 * 2 ^ 1 + 1 = or_block 1 k 0 1 1 (omega arith) (omega arith) in
    let back : bit_or k 0 ≡ k = or_comm k 0 in
    ap (λ (n : ℕ). bit_or n 1) as_block ∙ (both ∙ omega arith)

none_some : {A : Type 0} (x : Option A) (a : A) → x ≡ None → x ≡ Some a → ⊥
none_some x a p q = let e : None ≡ Some a = sym p ∙ q in cc

some_inner : {A : Type 0} (a b : A) → Some a ≡ Some b → a ≡ b
some_inner a b p = cc

module _ {T E F : Type 0} (entries : T → List E) (fixed : T → F) (number : E → ℕ) (key : F) where
  abbrev St : Type 0
  St = State (Option T) (View E F)

  abbrev Sat : Type 0
  Sat = Me (Option T) (View E F)

  abbrev Rule : St → Type 0
  Rule = IsRuleKept entries fixed number key

  abbrev Free : List E → St → Type 0
  Free = IsFree entries fixed number key

  abbrev Taken : List E → St → Type 0
  Taken = IsTurnTaken entries fixed number

  -- no play reads its step
  abbrev any_step : Step (Option T)
  any_step = step 0 0 0 0 none

  -- no pass but the one at i holds the turn, and that one lets it go
  none_after : (views : List (View E F)) (i : ℕ) (w : View E F) → w.found ≡ None → ((j : ℕ) (u : View E F) → get_elem? views j ≡ some u → u.spent ≡ false → j ≢ i → u.found ≡ None)
      → (j : ℕ) (u : View E F) → get_elem? (set views i w) j ≡ some u → u.spent ≡ false → u.found ≡ None
  none_after views i w idle others j u at live = ⊎_elim (λ t. ap (λ (z : View E F). z.found) (sym t.1) ∙ idle) (λ t. others j u t.1 live t.0) (at_set views i j w u at)

  -- the word that was written is read
  word_is : (s : St) (n : ℕ) → length s.words ≡ 1 → get_or (set s.words 0 n) 0 0 ≡ n
  word_is s n wide = get_or-set_same s.words 0 n 0 (omega arith)

  -- the turn is free as before, or held by the same pass, where a pass that holds no turn goes on so
  free_still : (log : List E) (s : St) (n i : ℕ) (w : View E F) → length s.words ≡ 1 → n ≡ get_or s.words 0 0 → w.found ≡ None → Free log s → Free log record { words = set s.words 0 n; homes = s.homes; views = set s.views i w }
  free_still log s n i w wide same idle f = record {
    even = word_is s n wide ∙ (same ∙ f.even);
    none_holds = none_after s.views i w idle (λ j u at live _. f.none_holds j u at live);
    value = f.value;
    home = f.home;
    stands = f.stands;
    keeps = f.keeps;
  }

  taken_still : (log : List E) (s : St) (n i : ℕ) (v w : View E F) → length s.words ≡ 1 → n ≡ get_or s.words 0 0 → get_elem? s.views i ≡ some v → v.found ≡ None → w.found ≡ None → Taken log s
      → Taken log record { words = set s.words 0 n; homes = s.homes; views = set s.views i w }
  taken_still log s n i v w wide same at was idle t = record {
    odd = word_is s n wide ∙ (same ∙ t.odd);
    holder = t.holder;
    view = t.view;
    there = set_else s.views i t.holder w (other_holds s.views i v at was log t.holder t.view t.there t.found) ∙ t.there;
    alive = t.alive;
    found = t.found;
    granted = t.granted;
    only = λ j u at' live other. ⊎_elim (λ z. ap (λ (x : View E F). x.found) (sym z.1) ∙ idle) (λ z. t.only j u z.1 live other) (at_set s.views i j w u at');
    away = t.away;
  }

  same_goes : (v w : View E F) → w ≡ v → Goes v w
  same_goes v w e = record {
    number = ap (λ (u : View E F). u.number) e;
    fixed = ap (λ (u : View E F). u.fixed) e;
    spent = ap (λ (u : View E F). u.spent) e;
    made = ap (λ (u : View E F). u.made) e;
    out = ap (λ (u : View E F). u.out) e;
    ended = ap (λ (u : View E F). u.ended) e;
    met = ap (λ (u : View E F). u.met) e;
    taken = λ p c. subst (λ (u : View E F). Contains u.taken p) (sym e) c;
  }

  turn_still : (s : St) (log : List E) (i : ℕ) (v w : View E F) → length s.words ≡ 1 → get_elem? s.views i ≡ some v → v.found ≡ None → w.found ≡ None → (n : ℕ) → n ≡ get_or s.words 0 0 → Free log s ⊎ Taken log s
      → Free log record { words = set s.words 0 n; homes = s.homes; views = set s.views i w } ⊎ Taken log record { words = set s.words 0 n; homes = s.homes; views = set s.views i w }
  turn_still s log i v w wide at was idle n same turn = ⊎_elim (λ f. inl (free_still log s n i w wide same idle f)) (λ t. inr (taken_still log s n i v w wide same at was idle t)) turn

  least_word : (s : St) (log : List E) (v : View E F) → IsPrefix v.seen log → Free log s ⊎ Taken log s → 2 * length v.seen ≤ get_or s.words 0 0
  least_word s log v p turn =
      let short = prefix_length v.seen log p in
      ⊎_elim (λ f. let even = f.even in omega arith) (λ t. let odd = t.odd in omega arith) turn

  pub looks : (slots id : ℕ) (me : Sat) → me.0.spent ≡ false → me.0.found ≡ None → Allows Rule slots id me 0 (λ n. n) (Looked entries fixed number any_step me)
  looks slots id me alive idle s kept long at fits =
      let v = me.0 in
      let fit = kept.each id v at alive in
      let goes = same_goes v v refl in
      let moved = blamed_after entries fixed number key s.views kept.log kept.log id v v at alive goes (prefix_refl kept.log) (λ n _. refl) kept.each in
      let same = get_or s.words 0 0 in
      let rule = kept_after entries fixed number key s.views kept.log kept.log id v v at alive goes (prefix_refl kept.log) (λ n _. refl) kept.each fit.all_own (inl (refl, refl)) (λ r. moved id v.last (fit.waits r))
      (set s.words 0 same) s.homes (length-set s.words 0 same ∙ kept.wide) kept.first kept.known (turn_still s kept.log id v v kept.wide at idle idle same refl kept.turn) in
      (v, keeps, tt, rule.0, (refl, least_word s kept.log v fit.begins kept.turn, rule.1))

  refused_goes : (v : View E F) (word : ℕ) → Goes v (refused word v)
  refused_goes v word = record { number = refl; fixed = refl; spent = refl; made = refl; out = refl; ended = refl; met = refl; taken = λ p c. c }

  granted_goes : (v : View E F) (found : List E) → Goes v (granted found v)
  granted_goes v found = record { number = refl; fixed = refl; spent = refl; made = refl; out = refl; ended = refl; met = refl; taken = λ p c. Contains-append_left v.taken ((v.number, length found) ∷ []) p c }

  committed_goes : (v : View E F) (list : List E) → Goes v (committed list v)
  committed_goes v list = record { number = refl; fixed = refl; spent = refl; made = refl; out = refl; ended = refl; met = refl; taken = λ p c. c }

  given_goes : (v : View E F) (list : List E) → Goes v (given_back list v)
  given_goes v list = record { number = refl; fixed = refl; spent = refl; made = refl; out = refl; ended = refl; met = refl; taken = λ p c. c }

  -- the turn is free: it is granted
  grants : (slots id : ℕ) (me : Sat) (s : St) (kept : Rule s) (at : get_elem? s.views id ≡ some me.0) → me.0.spent ≡ false → (f : Free kept.log s)
      → (w : View E F) × (a : Act (Option T)) × Valid s.homes me.1 a × Rule (stepped s 0 (bit_or (get_or s.words 0 0) 1) id me.1 w a) × IsGranted entries fixed number me (w, carried_after me.1 a)
  grants slots id me s kept at alive f =
      let v = me.0 in
      let log = kept.log in
      let fit = kept.each id v at alive in
      let list = entries f.value in
      let w : View E F = granted list v in
      let goes = granted_goes v list in
      let n : bit_or (get_or s.words 0 0) 1 ≡ 2 * length log + 1 = ap (λ (k : ℕ). bit_or k 1) f.even ∙ even_or (length log) in
      let moved = blamed_after entries fixed number key s.views log log id v w at alive goes (prefix_refl log) (λ n _. refl) kept.each in
      let new_words = set s.words 0 (bit_or (get_or s.words 0 0) 1) in
      let new_homes = set s.homes 0 none in
      let turn : Taken log record { words = new_words; homes = new_homes; views = set s.views id w } = record {
        odd = word_is s (bit_or (get_or s.words 0 0) 1) kept.wide ∙ n;
        holder = id;
        view = w;
        there = set_here s.views id w (at_below s.views id v at);
        alive = alive;
        found = ap Some f.stands;
        granted = subst (λ (z : ℕ × List E). Contains (v.taken ++ (v.number, length list) ∷ []) (z.0, length z.1)) (λ k. (fit.numbered k, f.stands k)) (Contains-push v.taken (v.number, length list));
        only = λ j u at' live other. ⊎_elim (λ z. absurd (other z.0)) (λ z. f.none_holds j u z.1 live) (at_set s.views id j w u at');
        away = ap (λ (hs : List (mathlib.Core.Option.Option (Option T))). set hs 0 none) f.home;
      } in
      let rule = kept_after entries fixed number key s.views log log id v w at alive goes (prefix_refl log) (λ n _. refl) kept.each fit.all_own (inl (refl, refl)) (λ r. moved id v.last (fit.waits r))
      new_words new_homes (length-set s.words 0 (bit_or (get_or s.words 0 0) 1) ∙ kept.wide) kept.first kept.known (inr turn) in (
        w,
        takes 0 (Some f.value),
        ap (λ (hs : List (mathlib.Core.Option.Option (Option T))). get_elem? hs 0) f.home,
        rule.0,
        record {
          value = f.value;
          now = refl;
          keeps = fit.shows ∙ ap Some (sym f.keeps);
          begins = subst (IsPrefix v.seen) (sym f.stands) fit.begins;
          own_are = ap (own number v.number) f.stands ∙ (ap (λ (n : ℕ). own number n log) fit.numbered ∙ fit.all_own);
          facts = rule.1;
        },
      )

  -- the turn is held by another pass: it is refused
  refuses : (slots id : ℕ) (me : Sat) (s : St) (kept : Rule s) (at : get_elem? s.views id ≡ some me.0) → me.0.spent ≡ false → me.0.found ≡ None → (t : Taken kept.log s)
      → (w : View E F) × (a : Act (Option T)) × Valid s.homes me.1 a × Rule (stepped s 0 (bit_or (get_or s.words 0 0) 1) id me.1 w a) × IsRefused entries fixed number me (get_or s.words 0 0) (w, carried_after me.1 a)
  refuses slots id me s kept at alive idle t =
      let v = me.0 in
      let log = kept.log in
      let fit = kept.each id v at alive in
      let word = get_or s.words 0 0 in
      let w : View E F = refused word v in
      let goes = refused_goes v word in
      let same : bit_or word 1 ≡ word = ap (λ (k : ℕ). bit_or k 1) t.odd ∙ (odd_or (length log) ∙ sym t.odd) in
      let other = other_holds s.views id v at idle log t.holder t.view t.there t.found in
      let blame : IsBlamed (set s.views id w) id word = record {
        at = length log;
        by = t.holder;
        seat = t.holder;
        view = t.view;
        odd = t.odd;
        other = other;
        there = set_else s.views id t.holder w other ∙ t.there;
        alive = t.alive;
        kept = t.granted;
      } in
      let short = prefix_length v.seen log fit.begins in
      let odd = t.odd in
      let rule = kept_after entries fixed number key s.views log log id v w at alive goes (prefix_refl log) (λ n _. refl) kept.each fit.all_own (inl (refl, refl)) (λ _. blame)
      (set s.words 0 (bit_or word 1)) s.homes (length-set s.words 0 (bit_or word 1) ∙ kept.wide) kept.first kept.known (inr (taken_still log s (bit_or word 1) id v w kept.wide same at idle idle t)) in (
        w,
        keeps,
        tt,
        rule.0,
        record {
          now = refl;
          least = omega arith;
          others = λ z out.
              let first : id ≡ 0 = sym fit.numbered ∙ z in
              let count = (fit.counts first).1 in
              let two = two_live s.views id t.holder v t.view at alive t.there t.alive other in
              absurd (omega arith);
          facts = rule.1;
        },
      )

  pub tries : (slots id : ℕ) (me : Sat) → me.0.spent ≡ false → me.0.found ≡ None → Allows Rule slots id me 0 (λ n. bit_or n 1) (Tried entries fixed number any_step me)
  tries slots id me alive idle s kept long at fits =
      let word = get_or s.words 0 0 in
      ⊎_elim (λ f.
      let g = grants slots id me s kept at alive f in
      let even = f.even in
      let test : eqb (word % 2) 1 ≡ false = ne_eqb (word % 2) 1 (λ e. omega arith) in
      (g.0, g.1, g.2, g.3, subst (λ (b : Bool). MatchBool b (IsRefused entries fixed number me word (g.0, carried_after me.1 g.1)) (IsGranted entries fixed number me (g.0, carried_after me.1 g.1))) (sym test) g.4))
      (λ t.
      let r = refuses slots id me s kept at alive idle t in
      let odd = t.odd in
      let test : eqb (word % 2) 1 ≡ true = eq-eqb (word % 2) 1 (omega arith) in
      (r.0, r.1, r.2, r.3, subst (λ (b : Bool). MatchBool b (IsRefused entries fixed number me word (r.0, carried_after me.1 r.1)) (IsGranted entries fixed number me (r.0, carried_after me.1 r.1))) (sym test) r.4)) kept.turn

  -- the pass that holds the turn has found the history
  holds_it : (s : St) (kept : Rule s) (id : ℕ) (v : View E F) (found : List E) → get_elem? s.views id ≡ some v → v.spent ≡ false → v.found ≡ Some found → (t : Taken kept.log s) × (found ≡ kept.log) × (t.holder ≡ id)
  holds_it s kept id v found at alive has =
      ⊎_elim (λ f. absurd (none_some v.found found (f.none_holds id v at alive) has))
      (λ t. dite (ℕ_discrete id t.holder)
      (λ e. (t, some_inner found kept.log (sym has ∙ (ap (λ (u : View E F). u.found) (sym (same_view s.views id t.holder v t.view at t.there (sym e))) ∙ t.found)), sym e))
      (λ ne. absurd (none_some v.found found (t.only id v at alive ne) has))) kept.turn

  -- the holder puts back a value that stands for the history as it then is
  freed : (s : St) (kept : Rule s) (id : ℕ) (w : View E F) (t : Taken kept.log s) → t.holder ≡ id → (x : T) (log' : List E) (n : ℕ) → n ≡ 2 * length log' → entries x ≡ log' → fixed x ≡ key → w.found ≡ None
      → Free log' record { words = set s.words 0 n; homes = set s.homes 0 (some (Some x)); views = set s.views id w }
  freed s kept id w t holder x log' n even stands keeps' idle = record {
    even = word_is s n kept.wide ∙ even;
    none_holds = none_after s.views id w idle (λ j u at live other. t.only j u at live (λ e. other (e ∙ holder)));
    value = x;
    home = ap (λ (hs : List (mathlib.Core.Option.Option (Option T))). set hs 0 (some (Some x))) t.away;
    stands = stands;
    keeps = keeps';
  }

  pub commits : (slots id : ℕ) (v : View E F) (x : T) (found : List E) (e : E) → v.spent ≡ false → v.found ≡ Some found → entries x ≡ found ++ e ∷ [] → number e ≡ v.number → fixed x ≡ key → length (entries x) < 2 ^ 62
      → Allows Rule slots id (v, (0, Some x) ∷ []) 0 (λ n. (n + 1) % 2 ^ 64) (Committed entries fixed number any_step (v, (0, Some x) ∷ []))
  commits slots id v x found e alive has more by keeps' few s kept long at fits =
      let list = entries x in
      let h = holds_it s kept id v found at alive has in
      let log = kept.log in
      let fit = kept.each id v at alive in
      let more' : list ≡ log ++ e ∷ [] = more ∙ ap (λ (l : List E). l ++ e ∷ []) h.1 in
      let w : View E F = committed list v in
      let goes = committed_goes v list in
      let behind : added v.found list ≡ e ∷ [] = ap (λ (o : Option (List E)). added o list) has ∙ (ap (drop (length found)) more ∙ drop-append_seam found (e ∷ [])) in
      let grows : IsPrefix log list = (e ∷ [], sym more') in
      let by' : number e ≡ id = by ∙ fit.numbered in
      let others : (n : ℕ) → n ≢ id → own number n list ≡ own number n log = λ n ne. ap (own number n) more' ∙ own_no_more number n log e (λ is. ne (sym is ∙ by')) in
      let mine : own number id list ≡ w.mine = ap (own number id) more' ∙ (own_one_more number id log e by' ∙ (λ k. fit.all_own k ++ sym behind k)) in
      let moved = blamed_after entries fixed number key s.views log list id v w at alive goes grows others kept.each in
      let odd = h.0.odd in
      let longer = ap length more' in
      let n = get_or s.words 0 0 in
      let word : (n + 1) % 2 ^ 64 ≡ 2 * length list = omega (arith, length-append log (e ∷ [])) in
      let rule = kept_after entries fixed number key s.views log list id v w at alive goes grows others kept.each mine (inr refl) (λ r. moved id v.last (fit.waits r))
      (set s.words 0 ((n + 1) % 2 ^ 64)) (set s.homes 0 (some (Some x))) (length-set s.words 0 ((n + 1) % 2 ^ 64) ∙ kept.wide) kept.first kept.known (inl (freed s kept id w h.0 h.2 x list ((n + 1) % 2 ^ 64) word refl keeps' refl)) in
      (w, gives, tt, rule.0, (refl, rule.1))

  pub gives_back : (slots id : ℕ) (v : View E F) (x : T) → v.spent ≡ false → v.found ≡ Some (entries x) → fixed x ≡ key
      → Allows Rule slots id (v, (0, Some x) ∷ []) 0 (λ n. (n + (2 ^ 64 - 1)) % 2 ^ 64) (GivenBack entries fixed number any_step (v, (0, Some x) ∷ []))
  gives_back slots id v x alive has keeps' s kept long at fits =
      let list = entries x in
      let h = holds_it s kept id v list at alive has in
      let log = kept.log in
      let fit = kept.each id v at alive in
      let w : View E F = given_back list v in
      let goes = given_goes v list in
      let moved = blamed_after entries fixed number key s.views log log id v w at alive goes (prefix_refl log) (λ n _. refl) kept.each in
      let odd = h.0.odd in
      let n = get_or s.words 0 0 in
      let word : (n + (2 ^ 64 - 1)) % 2 ^ 64 ≡ 2 * length log = omega arith in
      let rule = kept_after entries fixed number key s.views log log id v w at alive goes (prefix_refl log) (λ n _. refl) kept.each fit.all_own (inr h.1) (λ r. moved id v.last (fit.waits r))
      (set s.words 0 ((n + (2 ^ 64 - 1)) % 2 ^ 64)) (set s.homes 0 (some (Some x))) (length-set s.words 0 ((n + (2 ^ 64 - 1)) % 2 ^ 64) ∙ kept.wide) kept.first kept.known
      (inl (freed s kept id w h.0 h.2 x log ((n + (2 ^ 64 - 1)) % 2 ^ 64) word h.1 keeps' refl)) in
      (w, gives, tt, rule.0, (refl, rule.1))

  -- the pass that holds the turn, once the value is back in its slot
  put_in : (m m' : Sat) (x : T) (found : List E) → m' ≡ (m.0, (0, Some x) ∷ rest m.1) → m.1 ≡ carried m.0.found → m.0.found ≡ Some found → m' ≡ (m.0, (0, Some x) ∷ [])
  put_in m m' x found is carries has = is ∙ ap (λ (cs : List (ℕ × Option T)). (m.0, (0, Some x) ∷ cs)) (ap rest (carries ∙ ap carried has))

  pub commits_at : (slots id : ℕ) (m m' : Sat) (x : T) (found : List E) (e : E) → m' ≡ (m.0, (0, Some x) ∷ rest m.1) → m.1 ≡ carried m.0.found → m.0.spent ≡ false → m.0.found ≡ Some found → entries x ≡ found ++ e ∷ [] → number e ≡ m.0.number → fixed x ≡ key
      → length (entries x) < 2 ^ 62 → Allows Rule slots id m' 0 (λ n. (n + 1) % 2 ^ 64) (Committed entries fixed number any_step m')
  commits_at slots id m m' x found e is carries alive has more by keeps' few =
      subst (λ (z : Sat). Allows Rule slots id z 0 (λ n. (n + 1) % 2 ^ 64) (Committed entries fixed number any_step z)) (sym (put_in m m' x found is carries has)) (commits slots id m.0 x found e alive has more by keeps' few)

  pub gives_back_at : (slots id : ℕ) (m m' : Sat) (x : T) → m' ≡ (m.0, (0, Some x) ∷ rest m.1) → m.1 ≡ carried m.0.found → m.0.spent ≡ false → m.0.found ≡ Some (entries x) → fixed x ≡ key
      → Allows Rule slots id m' 0 (λ n. (n + (2 ^ 64 - 1)) % 2 ^ 64) (GivenBack entries fixed number any_step m')
  gives_back_at slots id m m' x is carries alive has keeps' =
      subst (λ (z : Sat). Allows Rule slots id z 0 (λ n. (n + (2 ^ 64 - 1)) % 2 ^ 64) (GivenBack entries fixed number any_step z)) (sym (put_in m m' x (entries x) is carries has)) (gives_back slots id m.0 x alive has keeps')

-- what is told where the word is not odd, and where it is
pub told_even : (A B : Type 0) (n : ℕ) → n ≢ 1 → MatchBool (eqb n 1) A B → B
told_even A B n ne told = subst (λ (b : Bool). MatchBool b A B) (ne_eqb n 1 ne) told

pub told_odd : (A B : Type 0) (n : ℕ) → n ≡ 1 → MatchBool (eqb n 1) A B → A
told_odd A B n e told = subst (λ (b : Bool). MatchBool b A B) (eq-eqb n 1 e) told
