use Rattle.node_model.proofs.InWindow.{due-kept, frame-kept, frames-due, offers-due, stays-in_window}
use Rattle.node_model.proofs.Triggers.{opens-cycle}
use Rattle.node_model.proofs.laws.sends_its_slots.Goals as goal

pub returns : goal.returns
returns c = record {
  offers = offers-due;
  frames = frames-due;
  stays = stays-in_window;
  same_frames = frame-kept;
  takes = due-kept;
  opens = opens-cycle;
}
