-- The steps up to a place: their calls and their cycles.
use Rattle.std.proofs.Common.{◌≡◌, ℕ, suc, ◌+◌, ◌-◌, ◌<◌, ◌≤◌, List, [], ◌∷◌, ◌++◌, length, get_or, take, drop, replicate, sym, ap, ◌∙◌, subst, arith}
use Rattle.std.specs.Prelude.{sum_by}
use Rattle.std.specs.List.{flat_map}
use Rattle.std.proofs.Math.Seq.{drop-cons}
use Rattle.std.proofs.lemmas.List.{replicate-append-replicate, take-append-drop}
use Rattle.std.proofs.lemmas.List.Concat.{flat_map-append}
use Rattle.std.proofs.lemmas.List.Sums.{sum_by_more_le}
use Rattle.steps_file.specs.StepsFile.{AreLegalSteps, IsStep, count_of}
use Rattle.steps_file.specs.declared.steps.Step.{Step}
use Rattle.master_core.specs.Calls.{opens}
use Rattle.replay_run.specs.Run.{calls_of}

-- the next step is in its ranges, and its cycles are not too many
pub step-next : (steps : List Step) (i : ℕ) (d step : Step) (next : ℕ) → i < length steps → get_or steps i d ≡ step → AreLegalSteps steps
    → next ≡ sum_by count_of (take i steps) → IsStep step × (next + count_of step ≤ 20000)
step-next steps i d step next within is legal so_far =
    let few : sum_by count_of (take i steps) + count_of (get_or steps i d) ≤ sum_by count_of steps = sum_by_more_le count_of steps i d within in
    let all = legal.cycles in (
      subst IsStep is (legal.each i d within),
      subst (λ s. next + count_of s ≤ 20000) is (omega arith),
    )

-- the calls of some cycles, when some of them were opened and one more is
pub calls-of_cycles : (counter count : ℕ) → counter < count
    → replicate counter opens ++ (opens ∷ [] ++ replicate (count - (counter + 1)) opens) ≡ replicate count opens
calls-of_cycles counter count below =
    let left = count - (counter + 1) in
    let split : counter + (1 + left) ≡ count = omega arith in
    ap (λ l. replicate counter opens ++ l) (replicate-append-replicate 1 left opens)
    ∙ replicate-append-replicate counter (1 + left) opens ∙ ap (λ n. replicate n opens) split

-- the calls of the steps up to a place, of the step there, and of those behind it are the calls of all steps
pub calls-of_steps : (steps : List Step) (i : ℕ) (d step : Step) → i < length steps → get_or steps i d ≡ step
    → flat_map calls_of (take i steps) ++ (calls_of step ++ flat_map calls_of (drop (i + 1) steps)) ≡ flat_map calls_of steps
calls-of_steps steps i d step within is =
    let next : i + 1 ≡ suc i = omega arith in
    ap (λ n. flat_map calls_of (take i steps) ++ (calls_of step ++ flat_map calls_of (drop n steps))) next
    ∙ ap (λ s. flat_map calls_of (take i steps) ++ (calls_of s ++ flat_map calls_of (drop (suc i) steps))) (sym is)
    ∙ ap (λ l. flat_map calls_of (take i steps) ++ flat_map calls_of l) (sym (drop-cons steps i d within))
    ∙ sym (flat_map-append calls_of (take i steps) (drop i steps))
    ∙ ap (flat_map calls_of) (take-append-drop i steps)
