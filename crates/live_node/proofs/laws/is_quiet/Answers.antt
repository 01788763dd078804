use Rattle.std.proofs.Common.{ap}
use Rattle.live_node.specs.Sending.{offered_in}
use Rattle.live_node.proofs.Hearing.{not_taken-quiet}
use Rattle.live_node.proofs.Quiet.{late-quiet}
use Rattle.live_node.proofs.laws.is_quiet.Goals as goal

pub returns : goal.returns
returns c = record {
  closed = λ view into is. ap (offered_in view into) is;
  not_taken = λ view passed into frame started answer. not_taken-quiet view passed frame started into answer;
  late = late-quiet;
}
