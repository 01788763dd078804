use Rattle.sporadic_poll.proofs.RideFrames.{ride_frame}
use Rattle.sporadic_poll.proofs.laws.ride_frames.Goals as goal

pub returns : goal.returns
returns c = record {
  frame = λ layout streams openings carried trace place release cycle known rides keep runs is.
      ride_frame layout streams openings carried trace place release cycle known rides keep runs is;
}
