use Rattle.node_model.proofs.Hearing.{stands-trigger, stands-later}
use Rattle.node_model.proofs.Between.{quiet-between}
use Rattle.node_model.proofs.OnlyCounted.{only_counted}
use Rattle.node_model.proofs.laws.hears_a_cycle.Goals as goal

pub returns-clause-trigger : goal.returns-clause-trigger
returns-clause-trigger c = stands-trigger

pub returns-clause-between : goal.returns-clause-between
returns-clause-between c = quiet-between

pub returns-clause-only_counted : goal.returns-clause-only_counted
returns-clause-only_counted c = only_counted

pub returns-clause-later : goal.returns-clause-later
returns-clause-later c = stands-later
