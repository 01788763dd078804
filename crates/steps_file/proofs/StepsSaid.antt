-- The steps that lines say, computed.
use Rattle.std.proofs.Common.{◌≡◌, ◌≢◌, ◌⊎◌, inl, inr, ℕ, ◌≤◌, true, List, [], ◌∷◌, ◌++◌, length, map, Result, Ok, Err, refl, sym, ap, ◌∙◌, subst, arith}
use Rattle.std.proofs.lemmas.Bool.{false≢true}
use Rattle.std.proofs.lemmas.List.{append-nil}
use Rattle.std.proofs.lemmas.List.Concat.{flat_map-append}
use Rattle.std.proofs.lemmas.List.Elements.{All-head, All-nil, All-tail}
use Rattle.std.specs.List.{All, flat_map}
use Rattle.change_protocol.specs.declared.operations.Act.TheVariants as act
use Rattle.change_protocol.specs.declared.operations.Op.{Op}
use Rattle.text_fields.proofs.Shared.{all_items, all_mean, fault_means, first_fault, held}
use Rattle.steps_file.proofs.StepLines.{ends_as, say_joined, say_more}
use Rattle.steps_file.proofs.StepMeaning.{Allows, says}
use Rattle.text_fields.specs.RowByRow.{AreItems, Faulty, IsFirstFault, items_below}
use Rattle.steps_file.specs.StepRow.{ends_in_change, meaning}
use Rattle.steps_file.specs.StepsFile.{AreSteps, HasOperation, Say, joined, lines_of, lines_of_change, steps_of_rows, steps_or_fault, steps_said}
use Rattle.steps_file.specs.StepsReading.{asking}
use Rattle.steps_file.specs.declared.step_fault.StepFault.TheVariants.{Row, Memory}
use Rattle.steps_file.specs.declared.step_fault.StepWhy.{StepWhy}
use Rattle.steps_file.specs.declared.step_rows.StepLine.{StepLine}
use Rattle.steps_file.specs.declared.step_rows.StepLine.TheVariants as line
use Rattle.steps_file.specs.declared.steps.Step.{Step}
use Rattle.steps_file.specs.declared.steps.Step.TheVariants as step

-- further operations of a change are joined to it, and say no step of their own
joined_map : (ops : List Op) (lines : List StepLine) → joined (map line.Joins ops ++ lines) ≡ ops ++ joined lines
joined_map [] lines = refl
joined_map (op ∷ ops) lines = ap (λ rest. op ∷ rest) (joined_map ops lines)

said_map : (ops : List Op) (lines : List StepLine) → steps_said (map line.Joins ops ++ lines) ≡ steps_said lines
said_map [] lines = refl
said_map (op ∷ ops) lines = said_map ops lines

-- the lines of steps begin with no further operation
none_joined : (steps : List Step) → All HasOperation steps → joined (flat_map lines_of steps) ≡ []
none_joined [] has = refl
none_joined (step.Cycle count ∷ steps) has = refl
none_joined (step.Act caller act.Look ∷ steps) has = refl
none_joined (step.Act caller (act.Ask change) ∷ steps) has = begins caller change.start change.ops (flat_map lines_of steps) (All-head HasOperation (step.Act caller (act.Ask change)) steps has)
  where
    begins : (caller start : ℕ) (ops : List Op) (lines : List StepLine) → 1 ≤ length ops → joined (lines_of_change caller start ops ++ lines) ≡ []
    begins caller start [] lines some = absurd (omega arith)
    begins caller start (op ∷ ops) lines some = refl

said_change : (caller start : ℕ) (ops : List Op) (lines : List StepLine) → 1 ≤ length ops → joined lines ≡ [] → steps_said (lines_of_change caller start ops ++ lines) ≡ asking caller start ops ∷ steps_said lines
said_change caller start [] lines some none = absurd (omega arith)
said_change caller start (op ∷ ops) lines some none =
    let all : op ∷ joined (map line.Joins ops ++ lines) ≡ op ∷ ops = ap (λ rest. op ∷ rest) (joined_map ops lines ∙ ap (λ rest. ops ++ rest) none ∙ append-nil ops) in
    ap (λ found. asking caller start found ∷ steps_said (map line.Joins ops ++ lines)) all ∙ ap (λ rest. asking caller start (op ∷ ops) ∷ rest) (said_map ops lines)

-- the lines of steps say these steps
said_of : (steps : List Step) → All HasOperation steps → steps_said (flat_map lines_of steps) ≡ steps
said_of [] has = refl
said_of (step.Cycle count ∷ steps) has = ap (λ rest. step.Cycle count ∷ rest) (said_of steps (All-tail HasOperation (step.Cycle count) steps has))
said_of (step.Act caller act.Look ∷ steps) has = ap (λ rest. step.Act caller act.Look ∷ rest) (said_of steps (All-tail HasOperation (step.Act caller act.Look) steps has))
said_of (step.Act caller (act.Ask change) ∷ steps) has =
    let rest = All-tail HasOperation (step.Act caller (act.Ask change)) steps has in
    said_change caller change.start change.ops (flat_map lines_of steps) (All-head HasOperation (step.Act caller (act.Ask change)) steps has) (none_joined steps rest)
    ∙ ap (λ more. step.Act caller (act.Ask change) ∷ more) (said_of steps rest)

-- the steps that lines say are the computed ones
pub said_once : (lines : List StepLine) (steps : List Step) → Say lines steps → steps_said lines ≡ steps
said_once lines steps say = ap steps_said (sym say.whole) ∙ said_of steps say.each

-- steps of all rows are the computed ones
pub steps_computed : (rows : List (List (List ℕ))) (steps : List Step) → AreSteps rows steps → steps_of_rows rows ≡ Ok steps
unfolding steps_of_rows
steps_computed rows steps are = ap steps_or_fault (all_items meaning rows are.lines are.read) ∙ ap (λ all. Ok all) (said_once are.lines steps are.say)

-- and so is the fault
pub fault_computed : (rows : List (List (List ℕ))) (number : ℕ) (why : StepWhy) → IsFirstFault meaning rows number why → steps_of_rows rows ≡ Err (Row number why)
unfolding steps_of_rows
fault_computed rows number why fault = ap steps_or_fault (first_fault meaning rows number why fault)

-- a list is empty, or has a last item
from_end : {X : Type 0} (xs : List X) → (xs ≡ []) ⊎ ((front : List X) × (last : X) × (xs ≡ front ++ last ∷ []))
from_end [] = inl refl
from_end (x ∷ xs) =
    elim (from_end xs) [
      | inl none ↦ inr ([], x, ap (λ rest. x ∷ rest) none)
      | inr more ↦ inr (x ∷ more.0, more.1, ap (λ rest. x ∷ rest) more.2)
    ]

-- a line more that adds an operation: the last step is a change
joins_last : (lines : List StepLine) (front : List Step) (last : Step) (op : Op) → Say lines (front ++ last ∷ []) → ends_in_change lines ≡ true
    → (steps : List Step) × Say (lines ++ line.Joins op ∷ []) steps
joins_last lines front (step.Cycle count) op say ends =
    let whole : flat_map lines_of front ++ line.Cycle count ∷ [] ≡ lines = sym (flat_map-append lines_of front (step.Cycle count ∷ [])) ∙ say.whole in
    absurd (false≢true (sym (ends_as (flat_map lines_of front) (line.Cycle count)) ∙ ap ends_in_change whole ∙ ends))
joins_last lines front (step.Act caller act.Look) op say ends =
    let whole : flat_map lines_of front ++ line.Look caller ∷ [] ≡ lines = sym (flat_map-append lines_of front (step.Act caller act.Look ∷ [])) ∙ say.whole in
    absurd (false≢true (sym (ends_as (flat_map lines_of front) (line.Look caller)) ∙ ap ends_in_change whole ∙ ends))
joins_last lines front (step.Act caller (act.Ask change)) op say ends = (front ++ asking caller change.start (change.ops ++ op ∷ []) ∷ [], say_joined lines front caller change.start change.ops op say)

joins_some : (lines : List StepLine) (steps : List Step) (op : Op) → Say lines steps → ends_in_change lines ≡ true → (more : List Step) × Say (lines ++ line.Joins op ∷ []) more
joins_some lines steps op say ends =
    elim (from_end steps) [
      | inl none ↦
          let empty : [] ≡ lines = ap (flat_map lines_of) (sym none) ∙ say.whole in
          absurd (false≢true (ap ends_in_change empty ∙ ends))
      | inr more ↦ joins_last lines more.0 more.1 op (rw more.2 at say) ends
    ]

said_is : (lines : List StepLine) (steps : List Step) → Say lines steps → Say lines (steps_said lines)
said_is lines steps say = subst (Say lines) (sym (said_once lines steps say)) say

said_more : (above : List StepLine) (said : StepLine) → Say above (steps_said above) → Allows above said → Say (above ++ said ∷ []) (steps_said (above ++ said ∷ []))
said_more above (line.Cycle count) say allowed = said_is _ _ (say_more above (steps_said above) (step.Cycle count) say tt)
said_more above (line.Look caller) say allowed = said_is _ _ (say_more above (steps_said above) (step.Act caller act.Look) say tt)
said_more above (line.Begins caller start op) say allowed = said_is _ _ (say_more above (steps_said above) (asking caller start (op ∷ [])) say (omega arith))
said_more above (line.Joins op) say allowed =
    let more = joins_some above (steps_said above) op say allowed in
    said_is (above ++ line.Joins op ∷ []) more.0 more.1

-- the lines of rows say the computed steps
all_said : (rows : List (List (List ℕ))) (lines : List StepLine) → AreItems meaning rows lines → Say lines (steps_said lines)
all_said rows lines are =
    held meaning (λ above. Say above (steps_said above)) (λ above row said say is. said_more above said say (says above row said is).allowed) rows lines
    (record { whole = refl; each = All-nil HasOperation }) are

same_ok : {T E : Type 0} (x y : T) → ◌≡◌ {A = Result T E} (Ok x) (Ok y) → x ≡ y
same_ok x y e = cc

found_steps : (rows : List (List (List ℕ))) (steps : List Step) (found : Result (List StepLine) (Faulty StepWhy)) → items_below meaning [] rows ≡ found → steps_or_fault found ≡ Ok steps → AreSteps rows steps
found_steps rows steps (Ok lines) is h =
    let read = all_mean meaning rows lines is in
    let same : steps_said lines ≡ steps = same_ok _ _ h in
    record { lines = lines; read = read; say = subst (Say lines) same (all_said rows lines read) }
found_steps rows steps (Err fault) is h = absurd (cc)

found_fault : (rows : List (List (List ℕ))) (number : ℕ) (why : StepWhy) (found : Result (List StepLine) (Faulty StepWhy)) → items_below meaning [] rows ≡ found → steps_or_fault found ≡ Err (Row number why) → IsFirstFault meaning rows number why
found_fault rows number why (Ok lines) is h = absurd (cc)
found_fault rows number why (Err fault) is h =
    let same_number : fault.number ≡ number = cc in
    let same_why : fault.why ≡ why = cc in
    rw (← same_number, ← same_why) (fault_means meaning rows fault is)

found_no_memory : (found : Result (List StepLine) (Faulty StepWhy)) → steps_or_fault found ≢ Err Memory
found_no_memory (Ok lines) h = cc
found_no_memory (Err fault) h = cc

-- computed steps are those of all rows
pub computed_steps : (rows : List (List (List ℕ))) (steps : List Step) → steps_of_rows rows ≡ Ok steps → AreSteps rows steps
unfolding steps_of_rows
computed_steps rows steps h = found_steps rows steps (items_below meaning [] rows) refl h

-- and a computed fault is that of the first row that is none
pub computed_fault : (rows : List (List (List ℕ))) (number : ℕ) (why : StepWhy) → steps_of_rows rows ≡ Err (Row number why) → IsFirstFault meaning rows number why
unfolding steps_of_rows
computed_fault rows number why h = found_fault rows number why (items_below meaning [] rows) refl h

-- rows are never at fault for want of memory
pub no_memory : (rows : List (List (List ℕ))) → steps_of_rows rows ≢ Err Memory
unfolding steps_of_rows
no_memory rows h = found_no_memory (items_below meaning [] rows) h
