use Rattle.live_node.proofs.Tickets.{loaded-silent, sent-once}
use Rattle.live_node.proofs.laws.tickets_count_once.Goals as goal

pub returns : goal.returns
returns c = record { once = sent-once; loaded = loaded-silent }
