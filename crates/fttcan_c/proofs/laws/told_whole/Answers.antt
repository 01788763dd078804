use Rattle.fttcan_c.proofs.Whole.{same_rules, same_table}
use Rattle.fttcan_c.proofs.laws.told_whole.Goals as goal

pub returns-clause-table : goal.returns-clause-table
returns-clause-table c placed = same_table placed

pub returns-clause-rules : goal.returns-clause-rules
returns-clause-rules c rules = same_rules rules
