-- Mailboxes that take requests: words for contracts inside the crate.
use Rattle.std.specs.Prelude.{◌==◌, if◌then◌else◌, [], ◌∷◌, ◌++◌}
use Rattle.async_window.specs.declared.request.Request.{Request}
use Rattle.async_window.specs.Mailbox.{Mail}

-- a mailbox with a request behind the others, where the request has its identifier
abbrev pub with_request : Request → Mail → Mail
with_request request box =
    if box.identifier == request.frame.identifier then record box { unsent = box.unsent ++ request ∷ [] } else box
