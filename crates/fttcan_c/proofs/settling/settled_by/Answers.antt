-- The clauses of the core, one by one.
use Rattle.fttcan_c.proofs.settling.settled_by.Goals as goal

pub returns-clause-settled : goal.returns-clause-settled
returns-clause-settled c = record {
  after = c.in_ok-answered.ensures.state;
  answer = c.in_ok-answered.ensures.answer;
  decided = c.in_ok-answered.ensures.settled;
  safe = c.in_ok-answered.ensures.core;
  history = λ history is can. c.in_ok-answered.ensures.history history c.args._caller is can;
}
