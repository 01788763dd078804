use Rattle.live_node.proofs.KnownBytes.{none-set}
use Rattle.live_node.proofs.known_bytes.no_origins.Goals as goal

pub returns : goal.returns
returns c = record { none = none-set 96 }
