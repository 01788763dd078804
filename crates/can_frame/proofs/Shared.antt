-- What proofs of the crates above may take from here: what is at the front of bits, and how long wires are.
pub use Rattle.can_frame.proofs.Fronts.{ReadsFront-one, wire-starts}
pub use Rattle.can_frame.proofs.Lengths.{wire-least, wire-most, wire-positive}
