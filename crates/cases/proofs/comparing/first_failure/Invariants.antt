use Rattle.cases.proofs.comparing.first_failure.Given as goal

-- the table is ready for the next case
abbrev pub invariant-loop-line : goal.invariant-loop-line
invariant-loop-line g l = record {
  next : (goal.iterator-loop-line g).can_next l.line-iterator;
  finite : (goal.iterator-loop-line g).is_finite l.line-iterator;
  ready : g.T.CaseTable.IsReady l.table;
}
