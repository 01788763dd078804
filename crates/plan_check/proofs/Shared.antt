-- What proofs of the crates above may take from here: that a certificate without a breach is taken.
pub use Rattle.plan_check.proofs.Unbroken.{unbroken-taken}
