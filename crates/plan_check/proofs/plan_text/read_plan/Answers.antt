use Rattle.std.proofs.Common.{◌≡◌, ◌<◌, true, ℕ, ◌∷◌, [], List, false, length, nat_eq, refl, sym, ap, rules, arith}
use Rattle.plan_check.specs.declared.text_fault.PlanTextFault.TheVariants.{Memory}
use Rattle.plan_check.specs.PlanText.{IsTextFault}
use Rattle.plan_check.proofs.BodyReads.{WasRead, fault-back, run-fault, was-read, wrong-behind, wrong-end, wrong-run}
use Rattle.std.proofs.lemmas.Bool.{eqb-true}
use Rattle.plan_check.proofs.plan_text.read_plan.Goals as goal
use Rattle.plan_check.proofs.plan_text.read_plan.Goals.{In_err-masks}

none-length : (k : ℕ) → true ≡ nat_eq k 0 → k ≡ 0
none-length k test = eqb-true k 0 (sym test)

some-length : (k : ℕ) → false ≡ nat_eq k 0 → 0 < k
some-length k test = grind arith

not-empty : (tail : List ℕ) → false ≡ nat_eq (length tail) 0 → tail ≡ [] → ⊥
not-empty tail test none = let some = some-length (length tail) test in let size = ap length none in omega arith

nothing : (tail : List ℕ) → length tail ≡ 0 → tail ≡ []
nothing [] size = refl
nothing (x ∷ tail) size = absurd (omega arith)

pub returns-in-Err-clause-back : goal.returns-in-Err-clause-back
returns-in-Err-clause-back c = λ certificate plan. absurd (c.in-Err.ensures.wrong.other certificate plan)

-- what is wrong in the runs is what is wrong in the text
runs-fault : (c : In_err-masks) → IsTextFault c.args.bytes.now c.in_err-masks.field-0.0
runs-fault c = grind (arith, run-fault, wrong-run)

pub returns-in_err-masks-clause-line : goal.returns-in_err-masks-clause-line
returns-in_err-masks-clause-line c =
    let found = runs-fault (goal.at.returns-in_err-masks-clause-line c).In_err-masks in
    search (rules, found)

pub returns-in_err-masks-clause-back : goal.returns-in_err-masks-clause-back
returns-in_err-masks-clause-back c = λ certificate plan.
    let found = runs-fault (goal.at.returns-in_err-masks-clause-back c).In_err-masks in
    let memory : c.in_err-masks.field-0.0 ≡ Memory = fault-back c.args.bytes.now c.in_err-masks.field-0.0 found certificate plan in
    search (rules, memory)

pub returns-in_default-clause-line : goal.returns-in_default-clause-line
returns-in_default-clause-line c = grind (arith, wrong-end)

pub returns-in_default-clause-back : goal.returns-in_default-clause-back
returns-in_default-clause-back c = λ certificate plan.
    let wrong = returns-in_default-clause-line c in
    absurd (wrong.other certificate plan)

pub returns-then-not-is_empty-clause-line : goal.returns-then-not-is_empty-clause-line
returns-then-not-is_empty-clause-line c =
    let head = c.in-Ok.read.0 in
    wrong-behind head.version c.args.bytes.now head.from head.pending head.first head.length c.in-Ok.read.1.now c.in-Ok.ensures.ranges c.in-Ok.ensures.found
    c.in_ok-masks.masks.items c.in_ok-masks.rest.now c.in_ok-masks.number c.in_ok-masks.ensures.found
    c.in-Some.after.now c.in-Some.ensures.found (not-empty c.in-Some.after.now c.if-not-is_empty.ensures)

pub returns-then-not-is_empty-clause-back : goal.returns-then-not-is_empty-clause-back
returns-then-not-is_empty-clause-back c = λ certificate plan.
    let wrong = returns-then-not-is_empty-clause-line c in
    absurd (wrong.other certificate plan)

-- nothing follows the last line, so this is the plan
was : (c : goal.After-new) → WasRead c.args.bytes.now c.new.result
was c =
    let head = c.in-Ok.read.0 in
    was-read head.version c.args.bytes.now head.from head.pending head.first head.length c.in-Ok.read.1.now
    c.in-Ok.ensures.ranges c.in-Ok.ensures.found c.in_ok-masks.masks.items c.in_ok-masks.rest.now c.in_ok-masks.number
    c.in_ok-masks.ensures.found c.in-Some.after.now c.in-Some.ensures.found
    (nothing c.in-Some.after.now (none-length (length c.in-Some.after.now) c.if-not-is_empty.ensures))
    c.new.result c.new.ensures.from c.new.ensures.pending c.new.ensures.first c.new.ensures.masks

pub returns-clause-plan : goal.returns-clause-plan
returns-clause-plan c = let read = was c in read.plan

pub returns-clause-readable : goal.returns-clause-readable
returns-clause-readable c = let read = was c in read.readable

pub returns-clause-back : goal.returns-clause-back
returns-clause-back c = let read = was c in read.back
