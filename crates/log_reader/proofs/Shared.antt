-- What proofs of the crates above may take from here.
pub use Rattle.log_reader.proofs.FieldBytes.{frame-text, open-text, plan-text}
pub use Rattle.log_reader.proofs.Readings.{none-found}
pub use Rattle.log_reader.proofs.RowLines.{row-plain, written-more, written-shorter}
