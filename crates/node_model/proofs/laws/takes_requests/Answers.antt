use Rattle.node_model.proofs.TakesRequests.{frames-forget, hears-forgets, offers-forgets, offers-later, put-forgets, put-stands, serves-frames, serves-offers, serving-hears, serving-put}
use Rattle.node_model.proofs.laws.takes_requests.Goals as goal

pub returns : goal.returns
returns c = record {
  put = put-stands;
  puts = put-forgets;
  hears = hears-forgets;
  given = serving-put;
  heard = serving-hears;
  serves = λ layout owners requests later opening past at node are were arrived late stands.
      serves-offers layout owners requests later opening past node are were stands at arrived late;
  sends = λ layout owners requests later opening past at id node are were known stands.
      serves-frames layout owners requests later opening past node are were stands at id known;
  offers = offers-forgets;
  frames = frames-forget;
  later = offers-later;
}
