use Rattle.sporadic_poll.proofs.OneRide.{can, in_order, none_left, once}
use Rattle.sporadic_poll.proofs.laws.in_order.Goals as goal

pub returns : goal.returns
returns c =
    record {
      once = λ layout_cycle streams slot lengths carried. once layout_cycle streams slot lengths carried;
      can = λ layout_cycle streams slot lengths carried. can layout_cycle streams slot lengths carried;
      order = λ layout_cycle streams slot lengths carried. in_order layout_cycle streams slot lengths carried;
      none_left = λ layout_cycle streams slot lengths carried. none_left layout_cycle streams slot lengths carried;
    }
