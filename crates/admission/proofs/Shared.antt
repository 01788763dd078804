-- What proofs of the crates above may take from here: lemmas about the definitions of this crate.
pub use Rattle.admission.proofs.SameLeft.{verdict-fewer}
