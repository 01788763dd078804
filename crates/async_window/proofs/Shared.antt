-- What proofs of the crates above may take from here: lemmas about the definitions of this crate.
pub use Rattle.async_window.proofs.Unsent.{AllPairs-map, unsent_of-among, unsent_of-here, unsent_of-later, unsent_of-without, IsMail-without, mail_after-next, without_first-identifiers}
pub use Rattle.async_window.proofs.Offered.{IsLeastWith-same, Offers-least, Offers-among}
pub use Rattle.async_window.proofs.Steps.{without_first-nothing}
pub use Rattle.async_window.proofs.Putting.{IsMail-put, IsMail-with, with_request-identifiers}
pub use Rattle.async_window.proofs.Online.{mail_after-put, may_start-later, unsent_of-forgotten, forgotten-without, forgotten-with, mail_offer-forgotten, mail_offer-more, arrived-after, unsent_of-more}
pub use Rattle.async_window.proofs.Arrivals.{InOrder, IsMail-forgotten, arrived-arrived, coming-late, more-arrived, some-left-over, split-arrived, were-later, were-more}
