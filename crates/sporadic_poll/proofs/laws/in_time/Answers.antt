use Rattle.sporadic_poll.proofs.InTime.{in_time}
use Rattle.sporadic_poll.proofs.laws.in_time.Goals as goal

pub returns : goal.returns
returns c =
    record {
      bound = λ layout_cycle streams slot lengths carried period entry_length place request ride polled.
          in_time layout_cycle streams slot lengths carried ride period entry_length place request polled;
    }
