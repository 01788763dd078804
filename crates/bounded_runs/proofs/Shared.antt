-- What proofs of the crates above may take from here: requests of streams start within their bound on each bus that answers
-- them at the times that are usable.
pub use Rattle.bounded_runs.proofs.Requests.{IsAnswered, IsAnswering, OfRequest}
pub use Rattle.bounded_runs.proofs.Delay.{IsBoundBy, starts-within}
pub use Rattle.bounded_runs.proofs.Fills.{IsRoom, count-more, room-of}
