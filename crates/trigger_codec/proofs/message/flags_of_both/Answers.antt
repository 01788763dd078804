use Rattle.trigger_codec.proofs.message.flags_of_both.Goals as goal

pub returns : goal.returns
returns c = record { flags = c.union.ensures.set }
