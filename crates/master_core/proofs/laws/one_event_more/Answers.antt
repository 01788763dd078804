use Rattle.master_core.proofs.Earlier.{same-of_legal}
use Rattle.master_core.proofs.Histories.{legal-but_last}
use Rattle.master_core.proofs.Legal.{felt-of_legal}
use Rattle.master_core.proofs.laws.one_event_more.Goals as goal

pub returns : goal.returns
returns c = record {
  changed = λ rules history event legal.
      let parts = legal-but_last rules history event legal in
      let felt = felt-of_legal rules history event parts.0 parts.1 in
      (felt.start, felt.ahead, felt.changed);
  masks = λ rules history event c legal early.
      let parts = legal-but_last rules history event legal in
      (same-of_legal rules history event parts.0 parts.1).masks c early;
  pending = λ rules history event c legal early.
      let parts = legal-but_last rules history event legal in
      (same-of_legal rules history event parts.0 parts.1).pending c early;
  instances = λ rules history event c slot legal early.
      let parts = legal-but_last rules history event legal in
      (same-of_legal rules history event parts.0 parts.1).instances c slot early;
}
