-- What proofs of the crates above may take from here: an instance that sends its number sends as many bytes as its entry's
-- length, what one opened cycle more sends, when its trigger frames end, that there is only one CAN trace, and lemmas about lists.
pub use Rattle.cycle_engine.proofs.Lists.{Contains-cases, Contains-filter, Contains-from_map, Contains-here, Contains-later, Contains-nil, same_by_number}
pub use Rattle.cycle_engine.proofs.OneMore.{free_after-begun, free_after-ended, more-can_trace, more-cycles, more-ended, more-runs}
pub use Rattle.cycle_engine.proofs.OneTrace.{in_cycle, is_asynchronous, one-can_trace, request_id}
pub use Rattle.cycle_engine.proofs.Parts.{number_kept_all}
pub use Rattle.cycle_engine.proofs.Window.{bytes_of-whole, slot-in_time, triggers-in_part}
pub use Rattle.cycle_engine.proofs.LiveCycle.{live-bus, live-nodes, live-order, live-were}
