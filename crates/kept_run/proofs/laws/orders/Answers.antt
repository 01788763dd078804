use Rattle.kept_run.proofs.Ready.{order-before, order-fits, order-learned, order-next, order-right, order-slots, order-spare, order-whole, order-window}
use Rattle.kept_run.proofs.laws.orders.Goals as goal

pub returns : goal.returns
returns c = record {
  right = order-right;
  next = order-next;
  learned = order-learned;
  spare = order-spare;
  whole = order-whole;
  window = order-window;
  slots = order-slots;
  fits = order-fits;
  before = order-before;
}
