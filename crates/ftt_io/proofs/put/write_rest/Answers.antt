use Rattle.std.proofs.Common.{arith, take}
use Rattle.std.proofs.lemmas.Grind.{common_steps}
use Rattle.ftt_io.proofs.Shared.{PutsUpTo-next}
use Rattle.ftt_io.proofs.put.write_rest.Goals as goal

pub loop-rest-preserved : goal.loop-rest-preserved
loop-rest-preserved g c =
    (PutsUpTo-next (take c.in_ok-taken.taken c.loop-rest.rest.now) _ c.loop-rest.invariant.0 (grind (arith, common_steps)) c.in_ok-taken.ensures.puts, omega (arith, c.in_ok-taken.ensures.faults_never_fall, c.loop-rest.invariant.1))
