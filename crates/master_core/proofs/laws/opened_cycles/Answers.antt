use Rattle.master_core.proofs.Earlier.{opened-of_legal}
use Rattle.master_core.proofs.laws.opened_cycles.Goals as goal

pub returns : goal.returns
returns c = record {
  cycles = λ rules history legal. (opened-of_legal rules history legal).cycles;
  masks = λ rules history legal i d within. ((opened-of_legal rules history legal).each i d within).mask;
  instances = λ rules history legal i d within. ((opened-of_legal rules history legal).each i d within).instances;
}
