-- What proofs of the crates above may take from here: lemmas about the definitions of this crate. What its code does is
-- known by its clauses alone.
pub use Rattle.trigger_kind.proofs.Bounds.{above-opens_not, opening-low, part-least}
