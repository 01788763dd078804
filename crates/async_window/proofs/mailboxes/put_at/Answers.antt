use Rattle.std.proofs.Common.{arith}
use Rattle.async_window.proofs.Putting.{set-put}
use Rattle.async_window.proofs.mailboxes.put_at.Goals as goal

pub returns-clause-put : goal.returns-clause-put
returns-clause-put c = grind (arith, set-put)
