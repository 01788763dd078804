use Rattle.std.proofs.Common.{◌<◌, ◌^◌, sym, ap, subst}
use Rattle.turn_lock.specs.Passes.{Known}
use Rattle.admission_rules.specs.declared.Rules.{Rules}
use Rattle.master_core.specs.declared.event.Event.{Event}
use Rattle.master_core.specs.History.{next_of}
use Rattle.live_master.proofs.Calling.{waited_more, waited_none}
use Rattle.live_master.proofs.live.LiveMaster.open_within.Goals as goal

pub loop-init : goal.loop-init
loop-init g c = record { of = c.requires.of; waited = waited_none c.args.pass.now; cycles = c.requires.cycles }

pub loop-preserved : goal.loop-preserved
loop-preserved g c =
    let refusal = rw c.in-Err-Busy.field-0-is at c.in-Err-Busy.ensures.fault in
    record {
      of = c.in-Err-Busy.ensures.standing.ready.0;
      waited = waited_more _ _ _ _ c.loop.invariant.waited refusal;
      cycles = subst (λ n. n < 2 ^ 41) (sym (ap (λ (k : Known Event Rules). next_of k.view.mine) refusal.is)) c.loop.invariant.cycles;
    }
