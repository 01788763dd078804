use Rattle.admission.proofs.Changed.{mask-unfelt, pending-unfelt}
use Rattle.admission.proofs.laws.not_felt_before_its_start.Goals as goal

pub returns : goal.returns
returns c = record { pending = pending-unfelt; planned = mask-unfelt }
