use Rattle.std.proofs.Common.{◌≡◌, [], take}
use Rattle.async_window.specs.Mailbox.{mail_after}
use Rattle.async_window.proofs.mailboxes.empty_boxes.Given as goal

abbrev pub invariant-loop-place : goal.invariant-loop-place
invariant-loop-place l = l.boxes.items ≡ mail_after (take l.place l.ids) [] []
