-- It is accepted where it is due, and takes effect at its start.
use Rattle.fttcan_c.proofs.Due.{accepted_where_due, in_effect}
use Rattle.fttcan_c.proofs.following.answered_to.Goals as goal

pub returns-clause-effect : goal.returns-clause-effect
returns-clause-effect c =
    in_effect c.lists_after_a_change.ensures.changed _ _ _ _ _ c.known.ensures.core c.in_ok-answered.ensures.answered

pub returns-clause-due : goal.returns-clause-due
returns-clause-due c =
    accepted_where_due (record {
      anew = c.accepted_anew.ensures.accepted;
      placed = c.one_core.ensures.placed;
      next = c.one_core.ensures.next;
    }) _ _ _ _ _ c.known.ensures.core c.in_ok-answered.ensures.answered
