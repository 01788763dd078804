-- What a row of a steps file says where it says something: its numbers are in their ranges, and it may stand where it
-- stands.
use Rattle.std.proofs.Common.{◌≡◌, ℕ, ◌+◌, ◌-◌, ◌^◌, ◌≤◌, ◌<◌, ◌&&◌, Bool, true, false, List, length, Option, Some, None, option_map, option_and_then, Result, Ok, Err, inl, inr, nat_le, nat_lt, refl, sym, ap, ◌∙◌, arith, subst}
use Rattle.std.proofs.lemmas.Bool.{and_parts, cases_Bool}
use Rattle.std.proofs.lemmas.Bool.Decides.{nat_tests}
use Rattle.std.proofs.lemmas.Option.{same_Some}
use Rattle.std.specs.List.{count_by, sum_by}
use Rattle.std.specs.Option.{ok_or}
use Rattle.csv.specs.Records.{field_at}
use Rattle.requirement_table.specs.declared.entries.Entry.{Entry}
use Rattle.change_protocol.specs.declared.operations.Op.{Op}
use Rattle.change_protocol.specs.declared.operations.Op.TheVariants as operation
use Rattle.text_fields.specs.CsvRows.{number_at}
use Rattle.text_fields.specs.Decimal.{number_of, within}
use Rattle.steps_file.specs.StepFields.{beginning, entry_at, operation_at, said_as}
use Rattle.steps_file.specs.StepForm.{form_of, has_fields}
use Rattle.steps_file.specs.StepRow.{begins, below, count_in, ends_in_change, has_operator, line_of, looks, meaning}
use Rattle.steps_file.specs.StepsFile.{FitsEntry, FitsOperation}
use Rattle.text_fields.specs.Whys.{◌>>=◌, where_holds}
use Rattle.steps_file.specs.declared.step_fault.StepWhy.TheVariants.{Word, Fields, Number, Operator, Loose, Changes, Looks, Cycles}
use Rattle.steps_file.specs.declared.step_rows.Form.{Form}
use Rattle.steps_file.specs.declared.step_rows.Form.TheVariants as form
use Rattle.steps_file.specs.declared.step_rows.StepLine.{StepLine}
use Rattle.steps_file.specs.declared.step_rows.StepLine.TheVariants as line
use Rattle.steps_file.specs.declared.step_rows.StepVerb.{StepVerb}
use Rattle.steps_file.specs.declared.step_rows.StepVerb.TheVariants as verb

-- the parts of a chain that gave something
part : {A B : Type 0} (o : Option A) (f : A → Option B) (y : B) → option_and_then f o ≡ Some y → (x : A) × (o ≡ Some x) × (f x ≡ Some y)
part None f y h = absurd (cc)
part (Some x) f y h = (x, refl, h)

mapped : {A B : Type 0} (o : Option A) (f : A → B) (y : B) → option_map f o ≡ Some y → (x : A) × (o ≡ Some x) × (f x ≡ y)
mapped None f y h = absurd (cc)
mapped (Some x) f y h = (x, refl, same_Some _ _ h)

right : {A B W : Type 0} (r : Result A W) (f : A → Result B W) (y : B) → (r >>= f) ≡ Ok y → (x : A) × (r ≡ Ok x) × (f x ≡ Ok y)
right (Ok x) f y h = (x, refl, h)
right (Err w) f y h = absurd (cc)

there : {A W : Type 0} (o : Option A) (why : W) (x : A) → ok_or o why ≡ Ok x → o ≡ Some x
there None why x h = absurd (cc)
there (Some y) why x h = cc

held_so : {A W : Type 0} (b : Bool) (v : A) (why : W) (x : A) → where_holds b v why ≡ Ok x → (b ≡ true) × (v ≡ x)
held_so true v why x h = (refl, cc)
held_so false v why x h = absurd (cc)

in_range : (low high number n : ℕ) → within low high number ≡ Some n → (low ≤ n) × (n ≤ high)
in_range low high number n h =
    elim (cases_Bool (nat_le low number && nat_le number high)) [
      | inl e ↦
          let (least, most) = and_parts (nat_le low number) (nat_le number high) e in
          let same : number ≡ n = same_Some _ _ (rw e at h) in
          (grind (arith, nat_tests, same), grind (arith, nat_tests, same))
      | inr e ↦ absurd (cc (rw e at h))
    ]

-- a number that a field writes is in its range
number_in : (row : List (List ℕ)) (place low high n : ℕ) → number_at row place low high ≡ Some n → (low ≤ n) × (n ≤ high)
number_in row place low high n h =
    let found = part (option_and_then number_of (field_at row place)) (within low high) n h in
    in_range low high found.0 n found.2

entry_fits : (row : List (List ℕ)) (place : ℕ) (entry : Entry) → entry_at row place ≡ Some entry → FitsEntry entry
entry_fits row place entry h =
    let slot = part (number_at row place 0 255) _ entry h in
    let node = part (number_at row (place + 1) 0 255) _ entry slot.2 in
    let len = part (number_at row (place + 2) 0 255) _ entry node.2 in
    let phase = part (number_at row (place + 3) 0 65535) _ entry len.2 in
    let period = part (number_at row (place + 4) 0 65535) _ entry phase.2 in
    let deadline = part (number_at row (place + 5) 0 65535) _ entry period.2 in
    let priority = part (number_at row (place + 6) 0 255) _ entry deadline.2 in
    rw (← same_Some _ _ priority.2) record {
      slot = omega (arith, (number_in row place 0 255 slot.0 slot.1).1);
      node = omega (arith, (number_in row (place + 1) 0 255 node.0 node.1).1);
      length = omega (arith, (number_in row (place + 2) 0 255 len.0 len.1).1);
      phase = omega (arith, (number_in row (place + 3) 0 65535 phase.0 phase.1).1);
      period = omega (arith, (number_in row (place + 4) 0 65535 period.0 period.1).1);
      deadline = omega (arith, (number_in row (place + 5) 0 65535 deadline.0 deadline.1).1);
      priority = omega (arith, (number_in row (place + 6) 0 255 priority.0 priority.1).1);
    }

operation_fits : (v : StepVerb) (row : List (List ℕ)) (place : ℕ) (op : Op) → operation_at v row place ≡ Some op → FitsOperation op
operation_fits verb.Add row place op h =
    let entry = mapped (entry_at row place) operation.Add op h in
    rw (← entry.2) (entry_fits row place entry.0 entry.1)
operation_fits verb.Remove row place op h =
    let slot = mapped (number_at row place 0 255) operation.Remove op h in
    let small : slot.0 < 2 ^ 8 = omega (arith, (number_in row place 0 255 slot.0 slot.1).1) in
    rw (← slot.2) small
operation_fits verb.Change row place op h =
    let entry = mapped (entry_at row place) operation.Change op h in
    rw (← entry.2) (entry_fits row place entry.0 entry.1)

-- a line with each number in its range, but for the operator
abbrev pub FitsLine : StepLine → Type 0
FitsLine (line.Cycle count) = count ≤ 20000
FitsLine (line.Look caller) = Unit {0}
FitsLine (line.Begins caller start op) = (start < 2 ^ 64) × FitsOperation op
FitsLine (line.Joins op) = FitsOperation op

beginning_fits : (v : StepVerb) (row : List (List ℕ)) (said : StepLine) → beginning v row ≡ Some said → FitsLine said
beginning_fits v row said h =
    let caller = part (number_at row 1 0 255) _ said h in
    let start = part (number_at row 2 0 (2 ^ 64 - 1)) _ said caller.2 in
    let op = part (operation_at v row 3) _ said start.2 in
    let early : start.0 < 2 ^ 64 = omega (arith, (number_in row 2 0 (2 ^ 64 - 1) start.0 start.1).1) in
    rw (← same_Some _ _ op.2) (early, operation_fits v row 3 op.0 op.1)

said_fits : (f : Form) (row : List (List ℕ)) (said : StepLine) → said_as f row ≡ Some said → FitsLine said
unfolding said_as
said_fits form.Cycle row said h =
    let count = mapped (number_at row 1 0 20000) line.Cycle said h in
    rw (← count.2) (number_in row 1 0 20000 count.0 count.1).1
said_fits form.Look row said h =
    let caller = mapped (number_at row 1 0 255) line.Look said h in
    rw (← caller.2) tt
said_fits (form.Begins v) row said h = beginning_fits v row said h
said_fits (form.Joins (Some v)) row said h =
    let op = mapped (operation_at v row 2) line.Joins said h in
    rw (← op.2) (operation_fits v row 2 op.0 op.1)
said_fits (form.Joins None) row said h = absurd (cc)

-- a line with each number in its range
pub record IsLine (said : StepLine) : Type 0 where
  pub fits : FitsLine said
  pub operator : has_operator said ≡ true

line_is : (row : List (List ℕ)) (said : StepLine) → line_of row ≡ Ok said → IsLine said
unfolding line_of
line_is row said h =
    let f = right (ok_or (form_of row) Word) _ said h in
    let fields = right (where_holds (has_fields f.0 (length row)) row Fields) _ said f.2 in
    let numbers = right (ok_or (said_as f.0 fields.0) Number) _ said fields.2 in
    let operator = held_so (has_operator numbers.0) numbers.0 Operator said numbers.2 in
    let is : numbers.0 ≡ said = operator.1 in
    record {
      fits = subst FitsLine is (said_fits f.0 fields.0 numbers.0 (there (said_as f.0 fields.0) Number numbers.0 numbers.1));
      operator = ap has_operator (sym is) ∙ operator.0;
    }

-- what has to hold above a line
abbrev pub Allows : List StepLine → StepLine → Type 0
Allows above (line.Cycle count) = sum_by count_in above + count ≤ 20000
Allows above (line.Look caller) = count_by looks above < 1000
Allows above (line.Begins caller start op) = count_by begins above < 1000
Allows above (line.Joins op) = ends_in_change above ≡ true

record Stands (above : List StepLine) (found said : StepLine) : Type 0 where
  same : found ≡ said
  allowed : Allows above found

stands : (above : List StepLine) (found said : StepLine) → below above found ≡ Ok said → Stands above found said
stands above (line.Cycle count) said h =
    let (room, same) = held_so (nat_le (sum_by count_in above + count) 20000) (line.Cycle count) Cycles said h in
    record { same = same; allowed = grind (arith, nat_tests) }
stands above (line.Look caller) said h =
    let (room, same) = held_so (nat_lt (count_by looks above) 1000) (line.Look caller) Looks said h in
    record { same = same; allowed = grind (arith, nat_tests) }
stands above (line.Begins caller start op) said h =
    let (room, same) = held_so (nat_lt (count_by begins above) 1000) (line.Begins caller start op) Changes said h in
    record { same = same; allowed = grind (arith, nat_tests) }
stands above (line.Joins op) said h =
    let (room, same) = held_so (ends_in_change above) (line.Joins op) Loose said h in
    record { same = same; allowed = room }

-- a line that a row says below others is one, and may stand there
pub record Says (above : List StepLine) (said : StepLine) : Type 0 where
  pub is : IsLine said
  pub allowed : Allows above said

pub says : (above : List StepLine) (row : List (List ℕ)) (said : StepLine) → meaning above row ≡ Ok said → Says above said
unfolding meaning
says above row said h =
    let found = right (line_of row) (below above) said h in
    let stand = stands above found.0 said found.2 in
    record {
      is = subst IsLine stand.same (line_is row found.0 found.1);
      allowed = subst (Allows above) stand.same stand.allowed;
    }
