use Rattle.disturbed_bounds.proofs.Rare.{little}
use Rattle.disturbed_bounds.proofs.laws.rare_disturbances_take_little.Goals as goal

pub returns : goal.returns
returns c = record { little = λ errors gap outages id low span rare long small above. little errors gap outages rare long id low above span small }
