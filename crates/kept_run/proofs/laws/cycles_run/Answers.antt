use Rattle.std.proofs.Common.{◌*◌, ◌+◌, subst, sym}
use Rattle.bus_line.specs.Trace.{Follows}
use Rattle.master_core.specs.declared.event.Event.TheVariants.{Open}
use Rattle.cycle_engine.specs.Offered.{SendsWhole, offered_in}
use Rattle.master_core.specs.History.{placed_of}
use Rattle.cycle_engine.specs.Nodes.{opening_of}
use Rattle.cycle_engine.proofs.Shared.{bytes_of-whole}
use Rattle.kept_run.proofs.Histories.{legal-push}
use Rattle.kept_run.proofs.Ready.{order-right, ready-run}
use Rattle.kept_run.proofs.Standing.{same-offers}
use Rattle.kept_run.proofs.Steps.{opened, opened-fits, opened-runs}
use Rattle.kept_run.proofs.laws.cycles_run.Goals as goal

pub returns : goal.returns
returns c = record {
  opened = λ setting history cycle mask trace frames known whole way legal.
      opened setting history cycle mask known legal whole trace frames way;
  runs = λ setting history cycle mask trace frames known whole way legal.
      opened-runs setting history cycle mask known legal whole trace frames way;
  fits = opened-fits;
  under_way = λ setting history trace frames nodes order known way ready is follows.
      opened setting history order.cycle order.mask known
      (legal-push setting.rules history (Open order.cycle order.mask) way.legal (order-right setting.rules history order is))
      (subst SendsWhole (sym ready.same_bytes) bytes_of-whole) trace frames way
      (subst (λ l. Follows (offered_in setting.sends l setting.requests (opening_of order (placed_of history))) trace (order.cycle * l.cycle) ((order.cycle + 1) * l.cycle) frames)
      ready.same_layout (subst (λ s. Follows (offered_in s nodes.layout setting.requests (opening_of order (placed_of history)))
      trace (order.cycle * nodes.layout.cycle) ((order.cycle + 1) * nodes.layout.cycle) frames) (sym ready.same_bytes) follows));
  same_offers = same-offers;
  ready = λ setting history trace frames nodes new order known stands way ready is same heard bus.
      ready-run setting history trace nodes order ready is new frames known stands same heard bus;
}
