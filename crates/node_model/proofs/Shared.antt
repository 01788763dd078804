-- What proofs of the crates above may take from here: lemmas about the definitions of this crate.
pub use Rattle.node_model.proofs.Apart.{apart-hearing, apart-learning, offers-apart, offers-in_range}
pub use Rattle.node_model.proofs.Hearing.{stands-later, stands-trigger}
pub use Rattle.node_model.proofs.InWindow.{due-kept, frame-kept, frames-due, offers-due, stays-in_window}
pub use Rattle.node_model.proofs.Known.{with_node-own, with_node-well_placed}
pub use Rattle.node_model.proofs.OwnEntries.{Contains-filter, Contains-from_map, Contains-map, instance-of_all, instance-of_own}
pub use Rattle.node_model.proofs.OwnPart.{offers_own_part}
pub use Rattle.node_model.proofs.StaysNode.{node-hearing, node-learning}
pub use Rattle.node_model.proofs.Triggers.{opens-cycle}
pub use Rattle.node_model.proofs.Known.{identifiers_of-all, identifiers_of-distinct}
pub use Rattle.node_model.proofs.Offers.{offered-mail}
pub use Rattle.node_model.proofs.TakesRequests.{serves-frames, serves-offers}
