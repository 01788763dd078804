use Rattle.std.proofs.Common.{sym}
use Rattle.system_file.proofs.SystemOwners.{new_id}
use Rattle.system_file.proofs.system.check_new.Goals as goal

pub returns-else-has_owner-clause-new : goal.returns-else-has_owner-clause-new
returns-else-has_owner-clause-new c = new_id c.args.id c.args.earlier.now (sym c.if-has_owner.ensures.among)
