use Rattle.async_bound.proofs.Row.{bound-fits}
use Rattle.async_bound.proofs.laws.fitting_is_bound.Goals as goal

pub returns : goal.returns
returns c = record {
  bound = λ layout streams stream span known are has fitting. bound-fits layout known streams are stream has span fitting;
}
