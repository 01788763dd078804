use Rattle.std.proofs.Common.{arith}
use Rattle.async_window.proofs.Table.{few-rising, no_place, place-identifier}
use Rattle.async_window.proofs.Steps.{with_request-at, with_request-elsewhere}
use Rattle.async_window.proofs.mailboxes.put.Goals as goal

pub returns-in_ok-push-clause-put : goal.returns-in_ok-push-clause-put
returns-in_ok-push-clause-put c = grind (arith, few-rising, with_request-at, place-identifier)

pub returns-else-place-boxes-clause-put : goal.returns-else-place-boxes-clause-put
returns-else-place-boxes-clause-put c = grind (arith, few-rising, with_request-elsewhere, no_place)
