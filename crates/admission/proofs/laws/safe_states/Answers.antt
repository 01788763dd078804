use Rattle.admission.proofs.Onward.{repeat-found, within-later}
use Rattle.admission.proofs.SameLeft.{masks-kept, pending-kept, same-pruned, within-same}
use Rattle.change_protocol.specs.Pruned.{pruned}
use Rattle.admission.proofs.laws.safe_states.Goals as goal

pub returns : goal.returns
returns c = record {
  found = repeat-found;
  later = within-later;
  pruned = λ rules placed c from pending before is.
      within-same rules from pending placed (pruned c placed) (same-pruned c from placed before is.safe.well_placed) is;
  whole = λ rules placed list from pending well left is.
      within-same rules from pending list placed (record { first = is.safe.well_placed; second = well; left = left }) is;
  pending = λ rules placed c from pending n before well. pending-kept rules from pending n placed (pruned c placed) (same-pruned c from placed before well);
  planned = λ rules placed c from pending n before well. masks-kept rules from pending n placed (pruned c placed) (same-pruned c from placed before well);
}
