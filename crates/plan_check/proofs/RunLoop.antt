-- Runs are read one by one.
use Rattle.std.proofs.Common.{◌≡◌, ℕ, ◌+◌, ◌-◌, ◌≤◌, List, [], ◌∷◌, ◌++◌, Option, Some, None, length, map, replicate, sym, ap, ◌∙◌, arith}
use Rattle.std.proofs.lemmas.List.{append-nil, length-append, map-append}
use Rattle.plan_check.specs.declared.plan_runs.MaskRun.{MaskRun}
use Rattle.plan_check.specs.declared.plan_runs.Version.{Version}
use Rattle.plan_check.specs.PlanText.{AreRead, MayFollow, last_mask, run_line, text_of, total}
use Rattle.plan_check.proofs.PlanReads.{front-more}
use Rattle.plan_check.proofs.Runs.{last-append, length-spread, listed-append, spread-append, total-append}

-- runs were read, the cycles of which are not left
pub record IsReading (version : Version) (text rest masks : List ℕ) (last : Option ℕ) (count left number : ℕ) : Type 0 where
  pub runs : List MaskRun
  pub read : AreRead version text rest masks runs
  pub last_is : last ≡ last_mask None runs
  pub sum : total runs + left ≡ count
  pub at : number ≡ 6 + length runs
  pub few : number + left ≤ 6 + count

pub reading-next : (version : Version) (text rest masks after new : List ℕ) (last : Option ℕ) (count left number : ℕ) (run : MaskRun)
    → IsReading version text rest masks last count left number → MayFollow version last run → run.count ≤ left
    → rest ≡ run_line version run ++ 10 ∷ after → new ≡ masks ++ replicate run.count run.mask
    → IsReading version text after new (Some run.mask) count (left - run.count) (number + 1)
reading-next version text rest masks after new last count left number run reading may few line made =
    let runs = reading.runs in
    let front : MayFollow version (last_mask None runs) run = rw reading.last_is at may in
    let totals = total-append runs (run ∷ []) in
    let size = length-append runs (run ∷ []) in
    let sum = reading.sum in
    let at = reading.at in
    record {
      runs = runs ++ run ∷ [];
      read = record {
        read = front-more text (map (run_line version) runs) rest (run_line version run) after reading.read.read line
            ∙ ap (λ l. text_of l ++ after) (sym (map-append (run_line version) runs (run ∷ [])));
        are = grind (arith, replicate, append-nil, spread-append);
        listed = listed-append version None runs (run ∷ []) reading.read.listed (front, tt);
      };
      last_is = sym (last-append None runs run);
      sum = omega arith;
      at = omega arith;
      few = omega arith;
    }

pub reading-count : (version : Version) (text rest masks : List ℕ) (last : Option ℕ) (count left number : ℕ)
    → IsReading version text rest masks last count left number → left ≡ 0 → length masks ≡ count
reading-count version text rest masks last count left number reading none = grind (arith, length-spread)
