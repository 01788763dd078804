use Rattle.steps_file.proofs.StepsLegal.{steps_legal}
use Rattle.steps_file.proofs.step_laws.steps_are_legal.Goals as goal

pub returns : goal.returns
returns c = record { legal = steps_legal }
