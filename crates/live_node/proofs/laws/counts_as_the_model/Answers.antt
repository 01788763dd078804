use Rattle.live_node.proofs.Steps.{opening-alike, put-alike, request-alike, slot-alike}
use Rattle.live_node.proofs.laws.counts_as_the_model.Goals as goal

pub returns : goal.returns
returns c = record { put = put-alike; request = request-alike; slot = slot-alike; opening = opening-alike }
