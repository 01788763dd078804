-- What is safe stays safe, and has no miss.
use Rattle.fttcan_c.proofs.Safe.{kept_safe, not_missed}
use Rattle.fttcan_c.proofs.admit.fttcan_open.Goals as goal

pub returns-in-Ok-clause-safe : goal.returns-in-Ok-clause-safe
returns-in-Ok-clause-safe c =
    λ _ safe. kept_safe c.args.rules.now c.args.placed.now c.args.state.now c.in-Ok.next c.in-Ok.sent c.in-Ok.ensures.opened safe

pub returns-in-Err-clause-in_time : goal.returns-in-Err-clause-in_time
returns-in-Err-clause-in_time c =
    λ safe six. not_missed c.args.rules.now c.args.placed.now c.args.state.now c.in-Err.refusal c.status.result c.status.ensures.status c.in-Err.ensures.refused safe six
