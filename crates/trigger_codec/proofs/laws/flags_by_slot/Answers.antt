use Rattle.trigger_codec.proofs.Flags.{flag-slot, second-flag-slot, both-parts, first-part}
use Rattle.trigger_codec.proofs.laws.flags_by_slot.Goals as goal

pub returns : goal.returns
returns c = record { first = flag-slot; second = second-flag-slot; both = both-parts; alone = first-part }
