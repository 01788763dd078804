-- What proofs of the crates above may take from here: lemmas about the definitions of this crate.
pub use Rattle.stuff_bound.proofs.Stuffs.{run-more, without_stuff-full, without_stuff-below, Stuffs-stuffed, stuffed_only, length-stuffed-least, length-stuffed-most}
pub use Rattle.stuff_bound.proofs.Fields.{length-bits, bits-append, length-bits_of}
pub use Rattle.stuff_bound.proofs.Entries.{are_entries, entry-is}
