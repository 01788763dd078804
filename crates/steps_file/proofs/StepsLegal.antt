-- What holds of the steps of each steps file.
use Rattle.std.proofs.Common.{◌≡◌, ℕ, ◌≤◌, true, cond, List, [], ◌∷◌, ◌++◌, length, map, Ok, nat_le, refl, arith, lit≤}
use Rattle.std.proofs.lemmas.Bool.{and_parts}
use Rattle.std.proofs.lemmas.Bool.Decides.{nat_tests}
use Rattle.std.proofs.lemmas.List.Elements.{All-cons, All-head, All-nil, All-push, All-tail}
use Rattle.std.proofs.lemmas.List.Sums.{sum_by-append, sum_by-cons, sum_by_push}
use Rattle.std.specs.List.{All, count_by, flat_map, sum_by}
use Rattle.change_protocol.specs.declared.operations.Act.TheVariants as act
use Rattle.change_protocol.specs.declared.operations.Op.{Op}
use Rattle.steps_file.proofs.ListParts.{all_back, all_front}
use Rattle.text_fields.proofs.Shared.{held}
use Rattle.steps_file.proofs.StepMeaning.{Allows, IsLine, says}
use Rattle.text_fields.specs.RowByRow.{AreItems}
use Rattle.steps_file.specs.StepRow.{begins, count_in, is_operator, looks, meaning}
use Rattle.steps_file.specs.StepsFile.{AreLegalSteps, AreSteps, FitsOperation, HasOperation, IsStep, count_of, is_change, is_look, lines_of, lines_of_change}
use Rattle.steps_file.specs.declared.step_rows.StepLine.{StepLine}
use Rattle.steps_file.specs.declared.step_rows.StepLine.TheVariants as line
use Rattle.steps_file.specs.declared.steps.Step.{Step}
use Rattle.steps_file.specs.declared.steps.Step.TheVariants as step

-- lines in their ranges, and not too many
record AreLegalLines (lines : List StepLine) : Type 0 where
  each : All IsLine lines
  changes : count_by begins lines ≤ 1000
  looks : count_by looks lines ≤ 1000
  cycles : sum_by count_in lines ≤ 20000

changes_more : (lines : List StepLine) (said : StepLine) → count_by begins lines ≤ 1000 → Allows lines said → count_by begins (lines ++ said ∷ []) ≤ 1000
changes_more lines (line.Cycle count) few allowed = omega (arith, sum_by_push (λ x. cond (begins x) 1 0) lines (line.Cycle count))
changes_more lines (line.Look caller) few allowed = omega (arith, sum_by_push (λ x. cond (begins x) 1 0) lines (line.Look caller))
changes_more lines (line.Begins caller start op) few allowed = omega (arith, sum_by_push (λ x. cond (begins x) 1 0) lines (line.Begins caller start op))
changes_more lines (line.Joins op) few allowed = omega (arith, sum_by_push (λ x. cond (begins x) 1 0) lines (line.Joins op))

looks_more : (lines : List StepLine) (said : StepLine) → count_by looks lines ≤ 1000 → Allows lines said → count_by looks (lines ++ said ∷ []) ≤ 1000
looks_more lines (line.Cycle count) few allowed = omega (arith, sum_by_push (λ x. cond (looks x) 1 0) lines (line.Cycle count))
looks_more lines (line.Look caller) few allowed = omega (arith, sum_by_push (λ x. cond (looks x) 1 0) lines (line.Look caller))
looks_more lines (line.Begins caller start op) few allowed = omega (arith, sum_by_push (λ x. cond (looks x) 1 0) lines (line.Begins caller start op))
looks_more lines (line.Joins op) few allowed = omega (arith, sum_by_push (λ x. cond (looks x) 1 0) lines (line.Joins op))

cycles_more : (lines : List StepLine) (said : StepLine) → sum_by count_in lines ≤ 20000 → Allows lines said → sum_by count_in (lines ++ said ∷ []) ≤ 20000
cycles_more lines (line.Cycle count) few allowed = omega (arith, sum_by_push count_in lines (line.Cycle count))
cycles_more lines (line.Look caller) few allowed = omega (arith, sum_by_push count_in lines (line.Look caller))
cycles_more lines (line.Begins caller start op) few allowed = omega (arith, sum_by_push count_in lines (line.Begins caller start op))
cycles_more lines (line.Joins op) few allowed = omega (arith, sum_by_push count_in lines (line.Joins op))

none_legal : AreLegalLines []
none_legal = record { each = All-nil IsLine; changes = lit≤ tt; looks = lit≤ tt; cycles = lit≤ tt }

one_more_legal : (above : List StepLine) (row : List (List ℕ)) (said : StepLine) → AreLegalLines above → meaning above row ≡ Ok said → AreLegalLines (above ++ said ∷ [])
one_more_legal above row said legal is =
    let line = says above row said is in
    record {
      each = All-push IsLine above said legal.each line.is;
      changes = changes_more above said legal.changes line.allowed;
      looks = looks_more above said legal.looks line.allowed;
      cycles = cycles_more above said legal.cycles line.allowed;
    }

lines_legal : (rows : List (List (List ℕ))) (lines : List StepLine) → AreItems meaning rows lines → AreLegalLines lines
lines_legal rows lines are = held meaning AreLegalLines one_more_legal rows lines none_legal are

-- what is summed over lines is summed over the steps that they say
sum_joined : (f : StepLine → ℕ) → ((op : Op) → f (line.Joins op) ≡ 0) → (ops : List Op) → sum_by f (map line.Joins ops) ≡ 0
sum_joined f zero_joined [] = refl
sum_joined f zero_joined (op ∷ ops) = omega (arith, sum_by-cons f (line.Joins op) (map line.Joins ops), zero_joined op, sum_joined f zero_joined ops)

sum_said : (f : StepLine → ℕ) (g : Step → ℕ) → ((next : Step) → HasOperation next → sum_by f (lines_of next) ≡ g next) → (steps : List Step) → All HasOperation steps → sum_by f (flat_map lines_of steps) ≡ sum_by g steps
sum_said f g same [] has = refl
sum_said f g same (next ∷ steps) has =
    let here = same next (All-head HasOperation next steps has) in
    let rest = sum_said f g same steps (All-tail HasOperation next steps has) in
    omega (arith, here, rest, sum_by-append f (lines_of next) (flat_map lines_of steps), sum_by-cons g next steps)

sum_change : (f : StepLine → ℕ) → ((op : Op) → f (line.Joins op) ≡ 0) → (n caller start : ℕ) → ((op : Op) → f (line.Begins caller start op) ≡ n) → (ops : List Op) → 1 ≤ length ops → sum_by f (lines_of_change caller start ops) ≡ n
sum_change f zero_joined n caller start first [] some = absurd (omega arith)
sum_change f zero_joined n caller start first (op ∷ ops) some =
    omega (arith, sum_by-cons f (line.Begins caller start op) (map line.Joins ops), first op, sum_joined f zero_joined ops)

changes_of : (next : Step) → HasOperation next → count_by begins (lines_of next) ≡ cond (is_change next) 1 0
changes_of (step.Cycle count) has = refl
changes_of (step.Act caller act.Look) has = refl
changes_of (step.Act caller (act.Ask change)) has = sum_change (λ x. cond (begins x) 1 0) (λ op. refl) 1 caller change.start (λ op. refl) change.ops has

looks_of : (next : Step) → HasOperation next → count_by looks (lines_of next) ≡ cond (is_look next) 1 0
looks_of (step.Cycle count) has = refl
looks_of (step.Act caller act.Look) has = refl
looks_of (step.Act caller (act.Ask change)) has = sum_change (λ x. cond (looks x) 1 0) (λ op. refl) 0 caller change.start (λ op. refl) change.ops has

cycles_of : (next : Step) → HasOperation next → sum_by count_in (lines_of next) ≡ count_of next
cycles_of (step.Cycle count) has = omega arith
cycles_of (step.Act caller act.Look) has = refl
cycles_of (step.Act caller (act.Ask change)) has = sum_change count_in (λ op. refl) 0 caller change.start (λ op. refl) change.ops has

-- operators are 1 to 8
operator_is : (caller : ℕ) → is_operator caller ≡ true → (1 ≤ caller) × (caller ≤ 8)
operator_is caller h =
    let (least, most) = and_parts (nat_le 1 caller) (nat_le caller 8) h in
    (grind (arith, nat_tests), grind (arith, nat_tests))

joined_fit : (ops : List Op) → All IsLine (map line.Joins ops) → All FitsOperation ops
joined_fit [] each = All-nil FitsOperation
joined_fit (op ∷ ops) each =
    All-cons FitsOperation op ops (All-head IsLine (line.Joins op) (map line.Joins ops) each).fits (joined_fit ops (All-tail IsLine (line.Joins op) (map line.Joins ops) each))

change_legal : (caller start : ℕ) (ops : List Op) → 1 ≤ length ops → All IsLine (lines_of_change caller start ops) → IsStep (step.Act caller (act.Ask (record { start = start; ops = ops })))
change_legal caller start [] some each = absurd (omega arith)
change_legal caller start (op ∷ ops) some each =
    let first = All-head IsLine (line.Begins caller start op) (map line.Joins ops) each in
    let (least, most) = operator_is caller first.operator in (
      least,
      most,
      record {
        early = first.fits.0;
        some = some;
        each = All-cons FitsOperation op ops first.fits.1 (joined_fit ops (All-tail IsLine (line.Begins caller start op) (map line.Joins ops) each));
      },
    )

step_legal : (next : Step) → HasOperation next → All IsLine (lines_of next) → IsStep next
step_legal (step.Cycle count) has each = (All-head IsLine (line.Cycle count) [] each).fits
step_legal (step.Act caller act.Look) has each =
    let (least, most) = operator_is caller (All-head IsLine (line.Look caller) [] each).operator in
    (least, most, tt)
step_legal (step.Act caller (act.Ask change)) has each = change_legal caller change.start change.ops has each

each_legal : (steps : List Step) → All HasOperation steps → All IsLine (flat_map lines_of steps) → All IsStep steps
each_legal [] has each = All-nil IsStep
each_legal (next ∷ steps) has each =
    All-cons IsStep next steps (step_legal next (All-head HasOperation next steps has) (all_front IsLine (lines_of next) (flat_map lines_of steps) each))
    (each_legal steps (All-tail HasOperation next steps has) (all_back IsLine (lines_of next) (flat_map lines_of steps) each))

-- the steps of each file are legal
pub steps_legal : (rows : List (List (List ℕ))) (steps : List Step) → AreSteps rows steps → AreLegalSteps steps
steps_legal rows steps are =
    let has = are.say.each in
    let whole = are.say.whole in
    let legal : AreLegalLines (flat_map lines_of steps) = rw whole (lines_legal rows are.lines are.read) in
    record {
      each = each_legal steps has legal.each;
      changes = rw (sum_said (λ x. cond (begins x) 1 0) (λ x. cond (is_change x) 1 0) changes_of steps has) at legal.changes;
      looks = rw (sum_said (λ x. cond (looks x) 1 0) (λ x. cond (is_look x) 1 0) looks_of steps has) at legal.looks;
      cycles = rw (sum_said count_in count_of cycles_of steps has) at legal.cycles;
    }
