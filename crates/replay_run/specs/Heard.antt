-- What those who hear the rows of a run have heard.
use Rattle.std.specs.Prelude.{ℕ, ◌≤◌}
use Rattle.std.proofs.Common.{◌≡◌, List, [], ◌++◌, Option, length, refl, sym, ◌∙◌, subst, arith, append-nil, append_assoc}
use Rattle.ftt_io.specs.Counts.{Rose}
use Rattle.ftt_io.specs.Puts.{Puts, PutsPrefix}
use Rattle.ftt_io.proofs.Shared.{Puts-append, Puts-nothing, PutsPrefix-append, Stays-same}
use Rattle.bus_trace.specs.LastRows.{AreRows, IsTailOf, rows_in}
use Rattle.replay_run.specs.declared.listener.Tail.{Tail}

-- no row was heard meanwhile: where the first relation held of some rows, whoever heard the first of them, the second
-- does now
abbrev pub PassesOn : {L : Type 0} → (L → List ℕ → L → Type 0) → (L → List ℕ → L → Type 0) → L → L → Type 0
PassesOn {L = L} Before Now old new = (one : L) (rows : List ℕ) → Before one rows old → Now one rows new

-- A sink

module _ {O : Type 0} (told_bytes : O → Option (List ℕ)) (faults : O → ℕ) where
  -- it took these rows
  pub record TakesRows (old : O) (rows : List ℕ) (new : O) : Type 0 where
    pub faults_never_fall : faults old ≤ faults new
    pub puts : Puts (told_bytes old) (told_bytes new) rows

  -- it failed within them, and took the first bytes
  pub record BreaksOff (old : O) (rows : List ℕ) (new : O) : Type 0 where
    pub faults_never_fall : faults old ≤ faults new
    pub rose : Rose (faults old) (faults new)
    pub puts : PutsPrefix (told_bytes old) (told_bytes new) rows

  pub takes-nothing : (one : O) → TakesRows one [] one
  takes-nothing one = record {
    faults_never_fall = omega arith;
    puts = Puts-nothing (told_bytes one) (told_bytes one) (Stays-same (told_bytes one) (told_bytes one) refl);
  }

  pub takes-more : (one other third : O) (rows later : List ℕ) → TakesRows one rows other → TakesRows other later third
      → TakesRows one (rows ++ later) third
  takes-more one other third rows later first second =
      let before = first.faults_never_fall in
      let after = second.faults_never_fall in
      record {
        faults_never_fall = omega arith;
        puts = Puts-append (told_bytes one) (told_bytes other) (told_bytes third) rows later first.puts second.puts;
      }

  pub breaks-later : (one other third : O) (rows later : List ℕ) → TakesRows one rows other
      → BreaksOff other later third
      → BreaksOff one (rows ++ later) third
  breaks-later one other third rows later first second =
      let before = first.faults_never_fall in
      let between = second.faults_never_fall in
      let after = second.rose in
      record {
        faults_never_fall = omega (arith, before, between);
        rose = omega arith;
        puts = PutsPrefix-append (told_bytes one) (told_bytes other) (told_bytes third) rows first.puts second.puts;
      }

-- The last rows

-- the rows that it holds
abbrev pub rows_held : Tail → List ℕ
rows_held tail = tail.older.text.items ++ tail.newer.text.items

-- it holds the last rows of this text, so many; the older ones are whole rows, and the newer ones are at least as many as it counts
pub record HoldsLast (text : List ℕ) (tail : Tail) : Type 0 where
  pub last : IsTailOf text tail.most (rows_held tail)
  pub older : AreRows tail.older.text.items
  pub newer : AreRows tail.newer.text.items
  pub count : tail.count ≤ length (rows_in tail.newer.text.items)

-- of whatever text it held the last rows, it holds those of the text with these rows behind it
pub record Keeps (old : Tail) (rows : List ℕ) (new : Tail) : Type 0 where
  pub most : new.most ≡ old.most
  pub last : (past : List ℕ) → HoldsLast past old → HoldsLast (past ++ rows) new

pub keeps-nothing : (one : Tail) → Keeps one [] one
keeps-nothing one = record { most = refl; last = λ past has. subst (λ text. HoldsLast text one) (sym (append-nil past)) has }

pub keeps-more : (one other third : Tail) (rows later : List ℕ) → Keeps one rows other → Keeps other later third → Keeps one (rows ++ later) third
keeps-more one other third rows later first second = record {
  most = second.most ∙ first.most;
  last = λ past has. subst (λ text. HoldsLast text third) (append_assoc past rows later) (second.last (past ++ rows) (first.last past has));
}
