use Rattle.std.proofs.Common.{◌≡◌, ◌+◌, ◌-◌, ◌<◌, length, arith, subst}
use Rattle.std.proofs.lemmas.Bool.Decides.{nat_tests}
use Rattle.csv.specs.Records.{fields_of}
use Rattle.log_reader.proofs.FieldBytes.{some-by}
use Rattle.log_reader.proofs.JoinedFields.{AreLeft, last-field, one-field}
use Rattle.log_reader.proofs.written.behind_fields.Goals as goal

pub loop-place-init : goal.loop-place-init
loop-place-init c = record { whole = λ more is. is }

pub loop-place-preserved : goal.loop-place-preserved
loop-place-preserved c =
    let fields = fields_of c.args.fields.now in
    let place = c.loop-place.place in
    let (field, at, is) = rw c.in-Some.is at c.behind_field.ensures.rest in
    let count = c.len-count.ensures in
    let early = c.loop-place-test.true in
    let more : place + 1 < length fields = omega (arith, count, early) in
    one-field fields place field c.args.bytes.now c.loop-place.rest.now c.in-Some.later.now c.loop-place.invariant at more is

pub returns : goal.returns
returns c =
    let fields = fields_of c.args.fields.now in
    let bytes = c.args.bytes.now in
    let rest = c.loop-place.rest.now in
    let count = c.len-count.ensures in
    let some = c.if-count-eq0.false in
    let past = c.loop-place-test.false in
    let within = c.loop-place.auto.place-end in
    let here : c.loop-place.place ≡ c.len-count.result - 1 = omega (arith, past, within) in
    let left = subst (λ n. AreLeft fields n bytes rest) here c.loop-place.invariant in
    let last : (c.len-count.result - 1) + 1 ≡ length fields = grind (arith, nat_tests) in
    record {
      rest = some-by c.behind_field-2.result c.behind_field-2.ensures.rest (λ later found.
          let (field, at, is) = found in
          last-field fields (c.len-count.result - 1) field bytes rest later.now left at last is);
    }
