use Rattle.handover_run.proofs.following.tell_change.Goals as goal

pub only_memory-requires : goal.only_memory-requires
only_memory-requires c =
    let is = c.requires.accepted in
    record { memory = c.change.ensures.due is.whole is.from is.verdict is.trail is.same_core is.legal is.right is.accepted }
