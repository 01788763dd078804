use Rattle.async_window.proofs.Unsent.{IsMail-after, unsent_of-among, unsent_of-elsewhere, mail_after-next}
use Rattle.async_window.proofs.Steps.{identifiers-after}
use Rattle.async_window.proofs.laws.unsent_laws.Goals as goal

pub returns : goal.returns
returns c = record {
  known = IsMail-after;
  among = unsent_of-among;
  elsewhere = unsent_of-elsewhere;
  identifiers = identifiers-after;
  sent = mail_after-next;
}
