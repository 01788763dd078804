use Rattle.poll_run.proofs.Sent.{sent-in_time}
use Rattle.poll_run.proofs.laws.polling.Goals as goal

pub returns : goal.returns
returns c = record {
  bound = λ system streams history carried trace p place request is polled stands may.
      sent-in_time
      (record {
        rides = record { is = c.one_ride.ensures.is; at = c.rides_of_openings.ensures.at; cycles = c.opened_cycles.ensures.cycles };
        times = record {
          released = λ q k cycle some within found. (c.instances_of_an_entry.ensures.released q k cycle some within).0 found;
          complete = c.releases_of_a_slot.ensures.complete;
          sound = c.releases_of_a_slot.ensures.sound;
          bound = c.in_time.ensures.bound;
          once = c.in_order.ensures.once;
          can = c.in_order.ensures.can;
        };
        well_placed = c.legal_histories.ensures.well_placed;
        instances = c.opened_cycles.ensures.instances;
      })
      system streams history carried trace polled p place request stands may;
}
