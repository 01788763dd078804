-- What proofs of the crates above may take from here: lemmas about the definitions of this crate. What its code does is
-- known by its clauses alone.
pub use Rattle.trigger_codec.proofs.Frames.{OpensByLast, behind-ids, eight_bytes, frames_long, last_opens, low_ids, opens_last, rising, sent-low}
pub use Rattle.trigger_codec.proofs.HeardTriggers.{first-noted, heard-in_turn, heard-triggers, heard_in_turn, last-fits}
