-- What proofs of the crates above may take from here: lemmas about the definitions of this crate. What its code does is
-- known by its clauses alone.
pub use Rattle.requirement_table.proofs.Latest.{div-since, period-parts, exists-true, Exists-from_test, latest-of_sent, latest-of_released, instance_of-sent, MaySend-from_instance, released_by-released, IsReleasedIn-from_released_by}
pub use Rattle.requirement_table.proofs.SlotInstances.{one_instance, instance_in-found, instance_in-sound, released_in-sound, released_in-complete}
pub use Rattle.requirement_table.proofs.NotOver.{not_over-well_placed, instance_in-not_over, releases_in-not_over, instance_in-near_of, releases_in-near_of}
pub use Rattle.requirement_table.proofs.FlaggedOnce.{flagged_once-holds}
pub use Rattle.requirement_table.proofs.Found.{IsFound, found-in, found-of}
pub use Rattle.requirement_table.proofs.Rounds.{GoesRound, IsMoved, SameAgain, instance-again, later, moved-again, same-again}
