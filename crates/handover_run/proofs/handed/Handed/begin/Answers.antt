use Rattle.std.proofs.Common.{Some, [], refl, true}
use Rattle.replay_run.specs.Run.{setting_of}
use Rattle.replay_run.proofs.Shared.{is_rules}
use Rattle.handover_run.proofs.Behind.{begins-handed, is-slots}
use Rattle.handover_run.proofs.handed.Handed.begin.Goals as goal

pub new-requires-clause-rules : goal.new-requires-clause-rules
new-requires-clause-rules c = is_rules c.args.system.now c.requires.system

pub new-requires-clause-slots : goal.new-requires-clause-slots
new-requires-clause-slots c = is-slots c.args.system.now c.requires.system

pub returns : goal.returns
returns c = record {
  begun = c.hand_over.ensures.still (setting_of c.args.system.now c.args.requests.now) [] []
      (begins-handed (setting_of c.args.system.now c.args.requests.now)
      (record { bus = c.in_ok-begin.field-0; standby = Some c.in_ok-new.field-0; at = c.args.at; quiet = true }) c.in_ok-new.field-0
      c.in_ok-begin.ensures.going c.in_ok-begin.ensures.kept c.in_ok-begin.ensures.empty refl c.in_ok-new.ensures.rules c.in_ok-new.ensures.history refl);
}
