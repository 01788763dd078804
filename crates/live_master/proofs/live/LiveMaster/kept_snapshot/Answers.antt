use Rattle.live_master.proofs.Calling.{waited_more, waited_none}
use Rattle.live_master.proofs.live.LiveMaster.kept_snapshot.Goals as goal

pub loop-init : goal.loop-init
loop-init g c = record { of = c.requires.of; waited = waited_none c.args.pass.now }

pub loop-preserved : goal.loop-preserved
loop-preserved g c =
    let refusal = rw c.in-Err-Busy.field-0-is at c.in-Err-Busy.ensures.fault in
    record {
      of = c.in-Err-Busy.ensures.standing.ready.0;
      waited = waited_more _ _ _ _ c.loop.invariant.waited refusal;
    }
