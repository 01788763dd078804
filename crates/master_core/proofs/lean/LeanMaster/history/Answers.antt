use Rattle.std.proofs.Common.{subst}
use Rattle.master_core.specs.History.{IsLegal}
use Rattle.master_core.specs.Journals.{LeanView}
use Rattle.master_core.proofs.lean.LeanMaster.history.Goals as goal

pub returns-clause-legal : goal.returns-clause-legal
returns-clause-legal c = subst (λ (v : LeanView). IsLegal v.rules v.history) c.self.view_is c.self.invariant.0.legal
