use Rattle.replay_run.proofs.EventRows.{begins-cycle, says-its_width}
use Rattle.replay_run.proofs.laws.opened_frames.Goals as goal

pub returns-clause-begin : goal.returns-clause-begin
returns-clause-begin c = λ sends layout opening frames. begins-cycle layout opening frames

pub returns-clause-width : goal.returns-clause-width
returns-clause-width c = λ sends layout opening frames. says-its_width layout opening frames
