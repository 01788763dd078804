-- What the reader gives is the next record of the bytes that it has left.
use Rattle.std.proofs.Common.{◌≡◌, [], Ok, Err, ap, inr, map, rules, subst, sym, ◌++◌, ◌∷◌, true, ◌+◌, arith}
use Rattle.text_fields.specs.RecordReading.{fields_in}
use Rattle.text_fields.specs.CsvRows.{rows_of, trimmed}
use Rattle.requests_file.specs.RequestRow.{meaning}
use Rattle.requests_file.specs.RequestOwners.{IsOwnedTable}
use Rattle.requests_file.specs.RequestsFile.{AreRequests, requests_of}
use Rattle.text_fields.specs.RowByRow.{IsFirstFault}
use Rattle.text_fields.proofs.Shared.{trimmed-more, trimmed-split}
use Rattle.requests_file.proofs.RequestsMean.{fault_computed, requests_computed}
use Rattle.requests_file.proofs.RequestsTogether.{more_legal, none_legal}
use Rattle.text_fields.proofs.Shared.{more_items, no_items}
use Rattle.requests_file.proofs.requests.read_requests.Goals as goal

pub loop-requests-init : goal.loop-requests-init
loop-requests-init c =
    record {
      before = [];
      reads = c.begin_reading-reader.ensures.reads;
      means = rw c.new-requests.ensures.items (no_items (meaning c.args.owners.now));
      legal = rw c.new-requests.ensures.items (none_legal c.args.owners.now);
    }

pub loop-requests-smaller : goal.loop-requests-smaller
loop-requests-smaller c =
    let so_far = c.loop-requests.invariant in
    (c.in_ok-next_record.ensures.one c.if-branch.true c.args.bytes.now so_far.before so_far.reads).fewer

pub returns-in-Err-clause-fault : goal.returns-in-Err-clause-fault
returns-in-Err-clause-fault c =
    let so_far = c.loop-requests.invariant in
    let owners = c.args.owners.now in
    let table : IsOwnedTable owners c.deref.result.now = rw c.deref.ensures.value c.in_ok-owned.ensures.ok in
    let fields = fields_in c.next_record.new.row in
    let read = c.in_ok-next_record.ensures.one c.if-branch.true c.args.bytes.now so_far.before so_far.reads in
    let why : meaning owners c.loop-requests.requests.items (map trimmed fields) ≡ Err c.in-Err.why = rw c.deref-in-loop-requests.ensures.value at (sym (c.in-Err.ensures.value owners table)) in
    record {
      before = map (map trimmed) so_far.before;
      row = map trimmed fields;
      rest = map (map trimmed) read.below;
      above = c.loop-requests.requests.items;
      split = trimmed-split so_far.before fields c.args.bytes.now read.below read.split;
      numbered = omega (arith, c.len.ensures, so_far.means.as_many);
      read = so_far.means;
      faulty = why;
    }

pub returns-in-Err-clause-value : goal.returns-in-Err-clause-value
unfolding requests_of
returns-in-Err-clause-value c =
    let fault : IsFirstFault (meaning c.args.owners.now) (rows_of c.args.bytes.now) (c.len.result + 1) c.in-Err.why = returns-in-Err-clause-fault c in
    inr (fault_computed c.args.owners.now (rows_of c.args.bytes.now) (c.len.result + 1) c.in-Err.why fault)

pub loop-requests-preserved : goal.loop-requests-preserved
loop-requests-preserved c =
    let so_far = c.loop-requests.invariant in
    let owners = c.args.owners.now in
    let above = c.loop-requests.requests.items in
    let request = c.in-Ok.request in
    let table : IsOwnedTable owners c.deref.result.now = rw c.deref.ensures.value c.in_ok-owned.ensures.ok in
    let fields = fields_in c.next_record.new.row in
    let read = c.in_ok-next_record.ensures.one c.if-branch.true c.args.bytes.now so_far.before so_far.reads in
    let is : meaning owners above (map trimmed fields) ≡ Ok request = rw c.deref-in-loop-requests.ensures.value at (sym (c.in-Ok.ensures.value owners table)) in
    let items = c.in_ok-put-in-Ok.ensures.put in
    record {
      before = so_far.before ++ fields ∷ [];
      reads = read.reads;
      means = rw items (subst (λ rows. AreRequests owners rows (above ++ request ∷ [])) (sym (trimmed-more so_far.before fields))
          (more_items (meaning owners) (map (map trimmed) so_far.before) above (map trimmed fields) request so_far.means is));
      legal = rw items (more_legal owners above request so_far.legal (c.in-Ok.ensures.legal owners table) (rw c.deref-in-loop-requests.ensures.value at c.in-Ok.ensures.in_order) (rw c.deref-in-loop-requests.ensures.value at c.in-Ok.ensures.few));
    }

pub returns-clause-ok : goal.returns-clause-ok
returns-clause-ok c =
    let so_far = c.loop-requests.invariant in
    let rows : rows_of c.args.bytes.now ≡ map (map trimmed) so_far.before
    = ap (map (map trimmed)) (c.in_ok-next_record.ensures.all c.if-branch.false c.args.bytes.now so_far.before so_far.reads) in
    rw (c.shrink_to_fit.ensures.items, rows) so_far.means

pub returns-clause-value : goal.returns-clause-value
unfolding requests_of
returns-clause-value c =
    let are : AreRequests c.args.owners.now (rows_of c.args.bytes.now) c.shrink_to_fit.new.self.items = returns-clause-ok c in
    requests_computed c.args.owners.now (rows_of c.args.bytes.now) c.shrink_to_fit.new.self.items are
