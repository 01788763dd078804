use Rattle.live_node.proofs.Offered.{offers-in_windows}
use Rattle.live_node.proofs.Windows.{reaches-little, ready-flagged}
use Rattle.live_node.proofs.laws.stays_in_its_windows.Goals as goal

pub returns : goal.returns
returns c = record {
  offers = λ view into id known offered. offers-in_windows view known into id offered;
  nearly = reaches-little;
  flagged = ready-flagged;
}
