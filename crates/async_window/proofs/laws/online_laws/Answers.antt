use Rattle.async_window.proofs.Online.{mail_after-put, may_start-later, mail_offer-forgotten}
use Rattle.async_window.proofs.Arrivals.{IsMail-forgotten, arrived-arrived, coming-late, some-left-over, split-arrived, were-later, were-more}
use Rattle.async_window.proofs.laws.online_laws.Goals as goal

pub returns : goal.returns
returns c = record {
  put = mail_after-put;
  later = may_start-later;
  forgotten = mail_offer-forgotten;
  split = split-arrived;
  known = IsMail-forgotten;
}
