use Rattle.std.proofs.Common.{subst}
use Rattle.master_core.specs.Journals.{LeanView}
use Rattle.master_core.specs.Orders.{IsUpcoming}
use Rattle.master_core.proofs.States.{state-upcoming}
use Rattle.master_core.proofs.lean.LeanMaster.upcoming.Goals as goal

pub returns : goal.returns
returns c = record {
  upcoming =
      subst (λ (v : LeanView). IsUpcoming v.rules v.history c.upcoming.result) c.self.view_is
      (state-upcoming _ _ _ c.known.ensures.core c.self.invariant.0 c.upcoming.result c.upcoming.ensures.upcoming);
}
