use Rattle.std.proofs.Common.{inl, inr, arith}
use Rattle.node_model.proofs.Known.{IsAmong-outside}
use Rattle.node_model.proofs.cycle.slot_among.Goals as goal
use Rattle.node_model.proofs.cycle.slot_among.Goals.{then-id-lt-FIRST_IDENTIFIER-via-then-id-lt-FIRST_IDENTIFIER, then-id-lt-FIRST_IDENTIFIER-via-else-id-lt-FIRST_IDENTIFIER+then-from-id}

pub returns-then-id-lt-FIRST_IDENTIFIER : goal.returns-then-id-lt-FIRST_IDENTIFIER
returns-then-id-lt-FIRST_IDENTIFIER c =
    elim c.then-id-lt-FIRST_IDENTIFIER.branch [
      | then-id-lt-FIRST_IDENTIFIER-via-then-id-lt-FIRST_IDENTIFIER w ↦ record { slot = IsAmong-outside c.args.among c.args.id c.known.ensures.below (inl (omega arith)) }
      | then-id-lt-FIRST_IDENTIFIER-via-else-id-lt-FIRST_IDENTIFIER+then-from-id w ↦ record { slot = IsAmong-outside c.args.among c.args.id c.known.ensures.below (inr (omega arith)) }
    ]
