-- The last rows of a log, as they are held while it grows.
use Rattle.std.proofs.Common.{◌≡◌, ◌≤◌, ◌+◌, ℕ, List, [], ◌++◌, length, refl, sym, ap, ◌∙◌, subst, arith, append-nil, append_assoc}
use Rattle.bus_trace.specs.LastRows.{AreRows, IsTailOf, rows_in}
use Rattle.replay_run.specs.Heard.{HoldsLast, rows_held}
use Rattle.replay_run.specs.declared.listener.Tail.{Tail}

-- what is known of whole rows, as law `rows_are_whole` of `bus_trace` says
pub record WholeRows : Type 0 where
  pub both : (first second : List ℕ) → AreRows first → AreRows second → AreRows (first ++ second)
  pub counted : (first second : List ℕ) → AreRows first → length (rows_in (first ++ second)) ≡ length (rows_in first) + length (rows_in second)
  pub tails : (text kept rows : List ℕ) (most : ℕ) → IsTailOf text most kept → AreRows rows → IsTailOf (text ++ rows) most (kept ++ rows)
  pub same : (text kept later : List ℕ) (most : ℕ) → IsTailOf text most kept → IsTailOf kept most later → IsTailOf text most later
  pub enough : (first second : List ℕ) (most : ℕ) → AreRows first → AreRows second → most ≤ length (rows_in second)
      → IsTailOf (first ++ second) most second

-- one that holds no rows
pub holds-none : (tail : Tail) → tail.older.text.items ≡ [] → tail.newer.text.items ≡ [] → tail.count ≡ 0 → HoldsLast [] tail
holds-none tail older newer count =
    let nothing : rows_held tail ≡ [] = ap (λ l. l ++ tail.newer.text.items) older ∙ newer in
    let empty : IsTailOf [] tail.most [] = record { whole = refl; kept_whole = refl; rows = refl } in
    record {
      last = subst (IsTailOf [] tail.most) (sym nothing) empty;
      older = subst AreRows (sym older) refl;
      newer = subst AreRows (sym newer) refl;
      count = omega (arith, count);
    }

module _ (laws : WholeRows) where
  -- whole rows were put behind the newer ones
  pub holds-put : (past rows : List ℕ) (old new : Tail) (more : ℕ) → new.older.text.items ≡ old.older.text.items
      → new.newer.text.items ≡ old.newer.text.items ++ rows → new.count ≤ old.count + more → new.most ≡ old.most
      → AreRows rows → more ≤ length (rows_in rows) → HoldsLast past old → HoldsLast (past ++ rows) new
  holds-put past rows old new more older newer count most are some has =
      let held : rows_held new ≡ rows_held old ++ rows =
      ap (λ l. l ++ new.newer.text.items) older ∙ ap (λ l. old.older.text.items ++ l) newer
      ∙ sym (append_assoc old.older.text.items old.newer.text.items rows) in
      let all = laws.counted old.newer.text.items rows has.newer in
      let both : length (rows_in new.newer.text.items) ≡ length (rows_in old.newer.text.items) + length (rows_in rows) = ap (λ l. length (rows_in l)) newer ∙ all in
      let before = has.count in
      record {
        last = subst (λ m. IsTailOf (past ++ rows) m (rows_held new)) (sym most)
            (subst (IsTailOf (past ++ rows) old.most) (sym held) (laws.tails past (rows_held old) rows old.most has.last are));
        older = subst AreRows (sym older) has.older;
        newer = subst AreRows (sym newer) (laws.both old.newer.text.items rows has.newer are);
        count = omega (arith, before, both, count, some);
      }

  -- the older rows went, and the newer ones took their place
  pub holds-newer : (past : List ℕ) (old new : Tail) → new.older.text.items ≡ old.newer.text.items → new.newer.text.items ≡ [] → new.count ≡ 0
      → new.most ≡ old.most → old.most ≤ old.count → HoldsLast past old → HoldsLast past new
  holds-newer past old new older newer count most enough has =
      let held : rows_held new ≡ old.newer.text.items =
      ap (λ l. l ++ new.newer.text.items) older ∙ ap (λ l. old.newer.text.items ++ l) newer ∙ append-nil old.newer.text.items in
      let known = has.count in
      let later = laws.enough old.older.text.items old.newer.text.items old.most has.older has.newer (omega (arith, enough, known)) in
      let all = laws.same past (rows_held old) old.newer.text.items old.most has.last later in
      record {
        last = subst (λ m. IsTailOf past m (rows_held new)) (sym most) (subst (IsTailOf past old.most) (sym held) all);
        older = subst AreRows (sym older) has.newer;
        newer = subst AreRows (sym newer) refl;
        count = omega (arith, count);
      }
