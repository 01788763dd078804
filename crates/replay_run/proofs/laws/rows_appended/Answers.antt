use Rattle.replay_run.proofs.EventRows.{called-rows, opened-counted, opened-more}
use Rattle.replay_run.proofs.laws.rows_appended.Goals as goal

pub returns-clause-opened : goal.returns-clause-opened
returns-clause-opened c = opened-more

pub returns-clause-counted : goal.returns-clause-counted
returns-clause-counted c = opened-counted

pub returns-clause-called : goal.returns-clause-called
returns-clause-called c = called-rows
