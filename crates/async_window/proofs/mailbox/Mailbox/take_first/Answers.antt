use Rattle.std.proofs.Common.{sym, ap}
use Rattle.std.proofs.lemmas.List.{drop-drop}
use Rattle.async_window.specs.Mailbox.{Mail}
use Rattle.async_window.proofs.mailbox.Mailbox.take_first.Goals as goal

pub returns-then-self-len : goal.returns-then-self-len
returns-then-self-len c = record {
  taken = rw (← c.self.view_is)
      (ap {B = Mail} (λ unsent. record { identifier = c.self.inside.id; unsent = unsent }) (sym (drop-drop 1 c.self.inside.sent c.self.inside.requests.items)));
}
