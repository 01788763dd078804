use Rattle.async_window.specs.Mailbox.{OffersIdentifier, mail_offer}
use Rattle.async_window.proofs.Offered.{Offers-least, Offers-among, IsLeastWith-some}
use Rattle.async_window.proofs.laws.offer_laws.Goals as goal

pub returns-clause-least : goal.returns-clause-least
returns-clause-least c = λ layout l mail at. Offers-least layout l at mail

pub returns-clause-some : goal.returns-clause-some
returns-clause-some c = λ layout l mail at known.
    IsLeastWith-some (OffersIdentifier layout l mail at) (mail_offer layout l mail at) (Offers-least layout l at mail known)

pub returns-clause-among : goal.returns-clause-among
returns-clause-among c = λ layout l mail at. Offers-among layout l at mail
