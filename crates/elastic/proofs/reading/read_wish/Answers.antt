-- The rows so far say the wish so far, and each fault is that of the next one.
use Rattle.std.proofs.Common.{◌≡◌, true, ◌≤◌, length, rules, arith}
use Rattle.std.proofs.lemmas.Bool.Decides.{nat_tests}
use Rattle.std.specs.Result.{is_ok}
use Rattle.text_fields.specs.RecordReading.{fields_in}
use Rattle.text_fields.specs.CsvRows.{rows_of}
use Rattle.elastic.specs.WishesFile.{IsWishFault}
use Rattle.elastic.specs.declared.wish_fault.WishWhy.TheVariants.{Word}
use Rattle.elastic.specs.declared.wish_fault.WishFault.TheVariants.{Row}
use Rattle.elastic.proofs.ReadingWish.{fault_is, fault_of_row, none_read, passes_on, passes_value, reads_first, reads_more, wish_is, wish_read}
use Rattle.elastic.proofs.reading.read_wish.Goals as goal

pub returns-in_err-start-clause-fault : goal.returns-in_err-start-clause-fault
returns-in_err-start-clause-fault c =
    passes_on c.from_residual.result (IsWishFault (rows_of c.args.bytes.now)) c.in_err-start.field-0.0 c.from_residual.ensures.1
    (c.in_err-start.ensures.fault c.args.bytes.now c.begin_reading-reader.ensures.reads)

pub returns-in_err-start-clause-value : goal.returns-in_err-start-clause-value
returns-in_err-start-clause-value c =
    passes_value _ c.args.bytes.now c.from_residual.result c.in_err-start.field-0.0 c.from_residual.ensures.1
    (c.in_err-start.ensures.fault c.args.bytes.now c.begin_reading-reader.ensures.reads)

pub loop-ops-init : goal.loop-ops-init
loop-ops-init c =
    rw c.new-ops.ensures.items (reads_first c.args.bytes.now c.read_first.new.reader c.in_ok-start.start (c.in_ok-start.ensures.start c.args.bytes.now c.begin_reading-reader.ensures.reads))

pub loop-ops-smaller : goal.loop-ops-smaller
loop-ops-smaller c =
    let so_far = c.loop-ops.invariant in
    (c.in_ok-next_record.ensures.one c.if-branch.true c.args.bytes.now so_far.before so_far.reads).fewer

pub loop-ops-preserved : goal.loop-ops-preserved
loop-ops-preserved c =
    let so_far = c.loop-ops.invariant in
    let fields = fields_in c.next_record.new.row in
    let read = c.in_ok-next_record.ensures.one c.if-branch.true c.args.bytes.now so_far.before so_far.reads in
    let good : is_ok c.push.result ≡ true = search rules in
    let items = rw good at c.push.ensures.items in
    let above : c.len.result ≡ length c.loop-ops.ops.items = search rules in
    rw items (reads_more c.args.bytes.now c.loop-ops.reader c.next_record.new.reader c.in_ok-start.start c.len.result c.loop-ops.ops.items c.in_ok-op.op fields
    so_far read above c.in_ok-op.ensures.ok c.in_ok-op.ensures.few c.in_ok-op.ensures.choices)

pub returns-in_err-op-clause-fault : goal.returns-in_err-op-clause-fault
returns-in_err-op-clause-fault c =
    let so_far = c.loop-ops.invariant in
    let fields = fields_in c.next_record.new.row in
    let read = c.in_ok-next_record.ensures.one c.if-branch.true c.args.bytes.now so_far.before so_far.reads in
    let above : c.len.result ≡ length c.loop-ops.ops.items = search rules in
    passes_on c.from_residual-in_err-op.result (IsWishFault (rows_of c.args.bytes.now)) c.in_err-op.field-0.0 c.from_residual-in_err-op.ensures.1
    (fault_of_row c.args.bytes.now so_far.before read.below fields c.in_ok-start.start c.loop-ops.ops.items so_far.says read.split c.len.result c.in_err-op.field-0.0 above c.in_err-op.ensures.fault)

pub returns-in_err-op-clause-value : goal.returns-in_err-op-clause-value
returns-in_err-op-clause-value c =
    let so_far = c.loop-ops.invariant in
    let fields = fields_in c.next_record.new.row in
    let read = c.in_ok-next_record.ensures.one c.if-branch.true c.args.bytes.now so_far.before so_far.reads in
    let above : c.len.result ≡ length c.loop-ops.ops.items = search rules in
    passes_value _ c.args.bytes.now c.from_residual-in_err-op.result c.in_err-op.field-0.0 c.from_residual-in_err-op.ensures.1
    (fault_of_row c.args.bytes.now so_far.before read.below fields c.in_ok-start.start c.loop-ops.ops.items so_far.says read.split c.len.result c.in_err-op.field-0.0 above c.in_err-op.ensures.fault)

-- all rows were read

pub returns-then-is_empty-clause-fault : goal.returns-then-is_empty-clause-fault
returns-then-is_empty-clause-fault c =
    let so_far = c.loop-ops.invariant in
    let same : c.loop-ops.ops.len ≡ length c.loop-ops.ops.items = search rules in
    let none : length c.loop-ops.ops.items ≡ 0 = grind (arith, nat_tests, same, c.is_empty.ensures, c.if-is_empty.true) in
    none_read c.args.bytes.now so_far.before c.in_ok-start.start c.loop-ops.ops.items so_far.says
    (c.in_ok-next_record.ensures.all c.if-branch.false c.args.bytes.now so_far.before so_far.reads) none

pub returns-then-is_empty-clause-value : goal.returns-then-is_empty-clause-value
returns-then-is_empty-clause-value c = fault_is c.args.bytes.now (Row 2 Word) (returns-then-is_empty-clause-fault c)

pub returns-clause-ok : goal.returns-clause-ok
returns-clause-ok c =
    let so_far = c.loop-ops.invariant in
    let same : c.loop-ops.ops.len ≡ length c.loop-ops.ops.items = search rules in
    let some : 1 ≤ length c.loop-ops.ops.items = grind (arith, nat_tests, same, c.is_empty.ensures, c.if-is_empty.false) in
    rw c.of.ensures.list (wish_read c.args.bytes.now so_far.before c.in_ok-start.start c.loop-ops.ops.items so_far.says
    (c.in_ok-next_record.ensures.all c.if-branch.false c.args.bytes.now so_far.before so_far.reads) some)

pub returns-clause-value : goal.returns-clause-value
returns-clause-value c = wish_is c.args.bytes.now (record { start = c.in_ok-start.start; ops = c.of.result }) (returns-clause-ok c)
