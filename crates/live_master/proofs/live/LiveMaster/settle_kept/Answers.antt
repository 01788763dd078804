use Rattle.std.proofs.Common.{◌∙◌, refl}
use Rattle.live_master.proofs.Calling.{waited_more, waited_none}
use Rattle.live_master.proofs.Keeping.{still-kept}
use Rattle.live_master.proofs.live.LiveMaster.settle_kept.Goals as goal

pub loop-init : goal.loop-init
loop-init g c = record { of = c.requires.of; waited = waited_none c.args.pass.now; same = refl; planned = c.requires.planned }

pub loop-preserved : goal.loop-preserved
loop-preserved g c =
    let refusal = rw c.in-Err-Busy.field-0-is at c.in-Err-Busy.ensures.fault in
    record {
      of = c.in-Err-Busy.ensures.standing.ready.0;
      waited = waited_more _ _ _ _ c.loop.invariant.waited refusal.0;
      same = refusal.1 ∙ c.loop.invariant.same;
      planned = still-kept _ _ _ _ _ _ c.loop.invariant.planned refusal.0 refusal.1;
    }
