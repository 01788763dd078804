use Rattle.master_core.proofs.Legal.{sound-of_legal, valid-of_legal}
use Rattle.master_core.proofs.laws.legal_histories.Goals as goal

pub returns : goal.returns
returns c = record {
  well_placed = λ rules history legal. (sound-of_legal rules history legal).well_placed;
  slots = λ rules history legal. (sound-of_legal rules history legal).slots;
  nodes = λ rules history legal. (sound-of_legal rules history legal).nodes;
  in_time = λ rules history legal. (sound-of_legal rules history legal).in_time;
  valid = valid-of_legal;
}
