-- What the reader gives is the next record of the bytes that it has left.
use Rattle.std.proofs.Common.{◌≡◌, ◌+◌, ◌≤◌, [], ◌∷◌, ◌++◌, Ok, ap, IfOk, inl, inr, length, length-append, map, refl, subst, sym, arith}
use Rattle.text_fields.specs.RecordReading.{fields_in}
use Rattle.text_fields.specs.CsvRows.{rows_of, trimmed}
use Rattle.steps_file.specs.StepRow.{meaning}
use Rattle.text_fields.proofs.Shared.{trimmed-more, trimmed-split}
use Rattle.text_fields.proofs.Shared.{more_items, no_items}
use Rattle.steps_file.proofs.StepsLegal.{steps_legal}
use Rattle.steps_file.proofs.StepsSaid.{fault_computed, steps_computed}
use Rattle.std.proofs.lemmas.List.{length-map}
use Rattle.text_fields.specs.RowByRow.{AreItems, IsFirstFault}
use Rattle.steps_file.specs.StepsFile.{AreSteps, Say, steps_of}
use Rattle.std.proofs.lemmas.Result.{IfErr-weaker, IfOk-weaker, MatchResult-from_both}
use Rattle.steps_file.proofs.steps.read_steps.Goals as goal

pub loop-draft-init : goal.loop-draft-init
loop-draft-init c =
    record {
      before = [];
      lines = [];
      reads = c.begin_reading-reader.ensures.reads;
      are = no_items meaning;
      counts = c.new-tally.ensures.counts;
      drafts = c.new-draft.ensures.drafts;
      numbered = refl;
    }

pub loop-draft-smaller : goal.loop-draft-smaller
loop-draft-smaller c =
    let so_far = c.loop-draft.invariant in
    (c.in_ok-next_record.ensures.one c.if-branch.true c.args.bytes.now so_far.before so_far.reads).fewer

pub overflow_add-number : goal.overflow_add-number
overflow_add-number c =
    let so_far = c.loop-draft.invariant in
    let fields = fields_in c.next_record.new.row in
    let read = c.in_ok-next_record.ensures.one c.if-branch.true c.args.bytes.now so_far.before so_far.reads in
    let few : c.loop-draft.number + 1 ≤ length c.args.bytes.now = omega (arith, read.reads.few, so_far.numbered, length-append so_far.before (fields ∷ [])) in
    omega (arith, few)

pub returns-in-Err-clause-fault : goal.returns-in-Err-clause-fault
returns-in-Err-clause-fault c =
    let so_far = c.loop-draft.invariant in
    let fields = fields_in c.next_record.new.row in
    let read = c.in_ok-next_record.ensures.one c.if-branch.true c.args.bytes.now so_far.before so_far.reads in
    record {
      before = map (map trimmed) so_far.before;
      row = map trimmed fields;
      rest = map (map trimmed) read.below;
      above = so_far.lines;
      split = trimmed-split so_far.before fields c.args.bytes.now read.below read.split;
      numbered = omega (arith, so_far.numbered, length-map so_far.before (map trimmed));
      read = so_far.are;
      faulty = c.in-Err.ensures.value so_far.lines so_far.counts;
    }

pub loop-draft-preserved : goal.loop-draft-preserved
loop-draft-preserved c =
    let so_far = c.loop-draft.invariant in
    let fields = fields_in c.next_record.new.row in
    let line = c.in-Ok.line in
    let read = c.in_ok-next_record.ensures.one c.if-branch.true c.args.bytes.now so_far.before so_far.reads in
    let is : meaning so_far.lines (map trimmed fields) ≡ Ok line = c.in-Ok.ensures.value so_far.lines so_far.counts in
    record {
      before = so_far.before ++ fields ∷ [];
      lines = so_far.lines ++ line ∷ [];
      reads = read.reads;
      are = subst (λ rows. AreItems meaning rows (so_far.lines ++ line ∷ [])) (sym (trimmed-more so_far.before fields))
          (more_items meaning (map (map trimmed) so_far.before) so_far.lines (map trimmed fields) line so_far.are is);
      counts = c.in-Ok.ensures.counts so_far.lines so_far.counts;
      drafts = c.in_ok-draft-in-Ok.ensures.drafts so_far.lines so_far.drafts;
      numbered = omega (arith, so_far.numbered, length-append so_far.before (fields ∷ []));
    }

pub returns-in-Err-clause-value : goal.returns-in-Err-clause-value
unfolding steps_of
returns-in-Err-clause-value c =
    let fault : IsFirstFault meaning (rows_of c.args.bytes.now) (c.loop-draft.number + 1) c.in-Err.why = returns-in-Err-clause-fault c in
    inr (fault_computed (rows_of c.args.bytes.now) (c.loop-draft.number + 1) c.in-Err.why fault)

pub returns-clause-ok : goal.returns-clause-ok
returns-clause-ok c =
    let so_far = c.loop-draft.invariant in
    let rows : rows_of c.args.bytes.now ≡ map (map trimmed) so_far.before
    = ap (map (map trimmed)) (c.in_ok-next_record.ensures.all c.if-branch.false c.args.bytes.now so_far.before so_far.reads) in
    IfOk-weaker c.into_steps.result _ _ (λ steps e. rw rows record { lines = so_far.lines; read = so_far.are; say = subst (Say so_far.lines) (sym e) so_far.drafts.say }) c.into_steps.ensures.ok

pub returns-clause-value : goal.returns-clause-value
unfolding steps_of
returns-clause-value c =
    let are : IfOk c.into_steps.result (λ steps. AreSteps (rows_of c.args.bytes.now) steps.items) = returns-clause-ok c in
    MatchResult-from_both c.into_steps.result _ _
    (IfOk-weaker c.into_steps.result _ _ (λ steps h. steps_computed (rows_of c.args.bytes.now) steps.items h) are)
    (IfErr-weaker c.into_steps.result _ _ (λ fault e. inl e) c.into_steps.ensures.fault)

pub returns-clause-legal : goal.returns-clause-legal
returns-clause-legal c =
    let are : IfOk c.into_steps.result (λ steps. AreSteps (rows_of c.args.bytes.now) steps.items) = returns-clause-ok c in
    IfOk-weaker c.into_steps.result _ _ (λ steps h. steps_legal (rows_of c.args.bytes.now) steps.items h) are
