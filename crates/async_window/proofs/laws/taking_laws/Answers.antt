use Rattle.async_window.proofs.Unsent.{unsent_of-without, without_first-identifiers, IsMail-without}
use Rattle.async_window.proofs.Steps.{without_first-nothing}
use Rattle.async_window.proofs.laws.taking_laws.Goals as goal

pub returns : goal.returns
returns c = record {
  unsent = unsent_of-without;
  identifiers = without_first-identifiers;
  known = IsMail-without;
  nothing = without_first-nothing;
}
