-- What the reader gives is the next record of the bytes that it has left.
use Rattle.std.proofs.Common.{◌≡◌, [], Ok, Err, ap, map, rules, subst, sym, ◌++◌, ◌∷◌, true, arith}
use Rattle.std.specs.Result.{is_ok}
use Rattle.text_fields.specs.RecordReading.{fields_in}
use Rattle.text_fields.specs.CsvRows.{rows_of, trimmed}
use Rattle.text_fields.proofs.Shared.{more_items, no_items, trimmed-more, trimmed-split}
use Rattle.sporadic_poll.specs.StreamRow.{IsLegalStream, meaning}
use Rattle.sporadic_poll.specs.StreamsFile.{AreStreamsOfRows, streams_of}
use Rattle.sporadic_poll.proofs.StreamsMean.{fault_computed, streams_computed}
use Rattle.sporadic_poll.proofs.StreamsTogether.{more_legal, none_legal}
use Rattle.sporadic_poll.proofs.reading.read_streams.Goals as goal

pub loop-streams-init : goal.loop-streams-init
loop-streams-init c = grind (arith, no_items, none_legal)

pub loop-streams-smaller : goal.loop-streams-smaller
loop-streams-smaller c =
    let so_far = c.loop-streams.invariant in
    (c.in_ok-next_record.ensures.one c.if-branch.true c.args.bytes.now so_far.before so_far.reads).fewer

pub returns-in-Err-clause-fault : goal.returns-in-Err-clause-fault
returns-in-Err-clause-fault c =
    let so_far = c.loop-streams.invariant in
    let fields = fields_in c.next_record.new.row in
    let read = c.in_ok-next_record.ensures.one c.if-branch.true c.args.bytes.now so_far.before so_far.reads in
    let why : meaning c.args.slots c.loop-streams.streams.items (map trimmed fields) ≡ Err c.in-Err.why = rw c.deref.ensures.value at c.in-Err.ensures.value in
    record {
      before = map (map trimmed) so_far.before;
      row = map trimmed fields;
      rest = map (map trimmed) read.below;
      above = c.loop-streams.streams.items;
      split = trimmed-split so_far.before fields c.args.bytes.now read.below read.split;
      numbered = omega (arith, c.len.ensures, so_far.means.as_many);
      read = so_far.means;
      faulty = why;
    }

pub returns-in-Err-clause-value : goal.returns-in-Err-clause-value
unfolding streams_of
returns-in-Err-clause-value c = grind (arith, returns-in-Err-clause-fault, fault_computed)

pub returns-clause-ok : goal.returns-clause-ok
returns-clause-ok c =
    let so_far = c.loop-streams.invariant in
    let rows : rows_of c.args.bytes.now ≡ map (map trimmed) so_far.before
    = ap (map (map trimmed)) (c.in_ok-next_record.ensures.all c.if-branch.false c.args.bytes.now so_far.before so_far.reads) in
    rw rows so_far.means

pub returns-clause-value : goal.returns-clause-value
unfolding streams_of
returns-clause-value c = grind (arith, returns-clause-ok, streams_computed)

pub loop-streams-preserved : goal.loop-streams-preserved
loop-streams-preserved c =
    let so_far = c.loop-streams.invariant in
    let above = c.loop-streams.streams.items in
    let stream = c.in_ok-stream_of-in-Ok.field-0 in
    let fields = fields_in c.next_record.new.row in
    let read = c.in_ok-next_record.ensures.one c.if-branch.true c.args.bytes.now so_far.before so_far.reads in
    let said = c.in_ok-stream_of-in-Ok.ensures.value in
    let is : meaning c.args.slots above (map trimmed fields) ≡ Ok stream = rw said (rw c.deref.ensures.value at c.in-Ok.ensures.value) in
    let good : is_ok c.push.result ≡ true = search rules in
    let items = rw good at c.push.ensures.items in
    let legal : IsLegalStream c.args.slots stream = rw said (record { early = c.in-Ok.ensures.early; known = c.in-Ok.ensures.known; short = c.in-Ok.ensures.short }) in
    let after = rw c.deref.ensures.value at c.in-Ok.ensures.in_order in
    let few = rw c.deref.ensures.value at c.in-Ok.ensures.few in
    record {
      before = so_far.before ++ fields ∷ [];
      reads = read.reads;
      means = rw items (subst (λ rows. AreStreamsOfRows c.args.slots rows (above ++ stream ∷ [])) (sym (trimmed-more so_far.before fields))
          (more_items (meaning c.args.slots) (map (map trimmed) so_far.before) above (map trimmed fields) stream so_far.means is));
      legal = rw items (more_legal c.args.slots above stream so_far.legal legal (rw said after) few);
    }
