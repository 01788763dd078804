-- One line more below the lines of a steps file: the tally of them, and the steps that they say.
use Rattle.std.proofs.Common.{◌≡◌, ℕ, ◌+◌, ◌-◌, ◌≤◌, Bool, true, false, List, [], ◌∷◌, ◌++◌, length, length-append, Some, refl, sym, ap, ◌∙◌, arith, append_assoc, cond}
use Rattle.std.proofs.lemmas.List.{append-nil, map-append}
use Rattle.std.proofs.lemmas.List.Concat.{flat_map-append}
use Rattle.std.proofs.lemmas.List.Elements.{All-head, All-push}
use Rattle.std.proofs.lemmas.List.Sums.{sum_by_push}
use Rattle.std.specs.List.{slice_get, flat_map, count_by, sum_by}
use Rattle.change_protocol.specs.declared.operations.Op.{Op}
use Rattle.steps_file.proofs.ListParts.{all_back, all_front}
use Rattle.steps_file.specs.StepRow.{begins, count_in, ends_in_change, is_of_change, looks}
use Rattle.steps_file.specs.StepsFile.{HasOperation, Say, lines_of, lines_of_change}
use Rattle.steps_file.specs.StepsReading.{Counts, asking}
use Rattle.steps_file.specs.declared.step_rows.StepLine.{StepLine}
use Rattle.steps_file.specs.declared.step_rows.StepLine.TheVariants as line
use Rattle.steps_file.specs.declared.steps.Step.{Step}
use Rattle.steps_file.specs.declared.steps.StepTally.{StepTally}

-- the last item of a list
get_last : {X : Type 0} (xs : List X) (x : X) → slice_get (xs ++ x ∷ []) (length xs) ≡ Some x
get_last [] x = refl
get_last (y ∷ xs) x = get_last xs x

-- the line directly above is the last one
pub ends_as : (lines : List StepLine) (line : StepLine) → ends_in_change (lines ++ line ∷ []) ≡ is_of_change line
ends_as lines line =
    let at : length (lines ++ line ∷ []) - 1 ≡ length lines = omega (arith, length-append lines (line ∷ [])) in
    rw (at, get_last lines line) refl

-- one more of a sum
sum_more : (f : StepLine → ℕ) (lines : List StepLine) (line : StepLine) (old new : ℕ) → old ≡ sum_by f lines → new ≡ old + f line → new ≡ sum_by f (lines ++ line ∷ [])
sum_more f lines line old new so_far is = is ∙ ap (λ n. n + f line) so_far ∙ sym (sum_by_push f lines line)

count_more : (p : StepLine → Bool) (lines : List StepLine) (line : StepLine) (old new : ℕ) → old ≡ count_by p lines → new ≡ old + cond (p line) 1 0 → new ≡ count_by p (lines ++ line ∷ [])
count_more p lines line old new so_far is = sum_more (λ x. cond (p x) 1 0) lines line old new so_far is

module _ (lines : List StepLine) (tally : StepTally) (counts : Counts lines tally) where
  pub counts_cycle : (count : ℕ) → Counts (lines ++ line.Cycle count ∷ []) (record { in_change = false; changes = tally.changes; looks = tally.looks; cycles = tally.cycles + count })
  counts_cycle count =
      record {
        in_change = sym (ends_as lines (line.Cycle count));
        changes = count_more begins lines (line.Cycle count) _ _ counts.changes (omega arith);
        looks = count_more looks lines (line.Cycle count) _ _ counts.looks (omega arith);
        cycles = sum_more count_in lines (line.Cycle count) _ _ counts.cycles refl;
      }

  pub counts_look : (caller : ℕ) → Counts (lines ++ line.Look caller ∷ []) (record { in_change = false; changes = tally.changes; looks = tally.looks + 1; cycles = tally.cycles })
  counts_look caller =
      record {
        in_change = sym (ends_as lines (line.Look caller));
        changes = count_more begins lines (line.Look caller) _ _ counts.changes (omega arith);
        looks = count_more looks lines (line.Look caller) _ _ counts.looks refl;
        cycles = sum_more count_in lines (line.Look caller) _ _ counts.cycles (omega arith);
      }

  pub counts_change : (caller start : ℕ) (op : Op) → Counts (lines ++ line.Begins caller start op ∷ []) (record { in_change = true; changes = tally.changes + 1; looks = tally.looks; cycles = tally.cycles })
  counts_change caller start op =
      record {
        in_change = sym (ends_as lines (line.Begins caller start op));
        changes = count_more begins lines (line.Begins caller start op) _ _ counts.changes refl;
        looks = count_more looks lines (line.Begins caller start op) _ _ counts.looks (omega arith);
        cycles = sum_more count_in lines (line.Begins caller start op) _ _ counts.cycles (omega arith);
      }

  pub counts_operation : (op : Op) → Counts (lines ++ line.Joins op ∷ []) (record { in_change = true; changes = tally.changes; looks = tally.looks; cycles = tally.cycles })
  counts_operation op =
      record {
        in_change = sym (ends_as lines (line.Joins op));
        changes = count_more begins lines (line.Joins op) _ _ counts.changes (omega arith);
        looks = count_more looks lines (line.Joins op) _ _ counts.looks (omega arith);
        cycles = sum_more count_in lines (line.Joins op) _ _ counts.cycles (omega arith);
      }

-- the lines that say a step, behind those of the steps before it
pub say_more : (lines : List StepLine) (steps : List Step) (next : Step) → Say lines steps → HasOperation next → Say (lines ++ lines_of next) (steps ++ next ∷ [])
say_more lines steps next say has =
    record {
      whole = flat_map-append lines_of steps (next ∷ []) ∙ ap (λ rest. flat_map lines_of steps ++ rest) (append-nil (lines_of next)) ∙ ap (λ front. front ++ lines_of next) say.whole;
      each = All-push HasOperation steps next say.each has;
    }

-- a change with an operation more is said by a line more
change_more : (caller start : ℕ) (ops : List Op) (op : Op) → 1 ≤ length ops → lines_of_change caller start (ops ++ op ∷ []) ≡ lines_of_change caller start ops ++ line.Joins op ∷ []
change_more caller start [] op some = absurd (omega arith)
change_more caller start (first ∷ ops) op some = ap (λ rest. line.Begins caller start first ∷ rest) (map-append line.Joins ops (op ∷ []))

-- a line that adds an operation to the last change
pub say_joined : (lines : List StepLine) (steps : List Step) (caller start : ℕ) (ops : List Op) (op : Op) → Say lines (steps ++ asking caller start ops ∷ [])
    → Say (lines ++ line.Joins op ∷ []) (steps ++ asking caller start (ops ++ op ∷ []) ∷ [])
say_joined lines steps caller start ops op say =
    let some : 1 ≤ length ops = All-head HasOperation (asking caller start ops) [] (all_back HasOperation steps (asking caller start ops ∷ []) say.each) in
    let front = flat_map lines_of steps in
    let old : flat_map lines_of (steps ++ asking caller start ops ∷ []) ≡ front ++ lines_of_change caller start ops
    = flat_map-append lines_of steps (asking caller start ops ∷ []) ∙ ap (λ rest. front ++ rest) (append-nil (lines_of_change caller start ops)) in
    let new : flat_map lines_of (steps ++ asking caller start (ops ++ op ∷ []) ∷ []) ≡ front ++ lines_of_change caller start (ops ++ op ∷ [])
    = flat_map-append lines_of steps (asking caller start (ops ++ op ∷ []) ∷ []) ∙ ap (λ rest. front ++ rest) (append-nil (lines_of_change caller start (ops ++ op ∷ []))) in
    let longer : 1 ≤ length (ops ++ op ∷ []) = omega (arith, length-append ops (op ∷ [])) in
    record {
      whole = new ∙ ap (λ rest. front ++ rest) (change_more caller start ops op some) ∙ sym (append_assoc front (lines_of_change caller start ops) (line.Joins op ∷ []))
          ∙ ap (λ all. all ++ line.Joins op ∷ []) (sym old ∙ say.whole);
      each = All-push HasOperation steps (asking caller start (ops ++ op ∷ [])) (all_front HasOperation steps (asking caller start ops ∷ []) say.each) longer;
    }
