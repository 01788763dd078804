use Rattle.release_wheel.proofs.planner.Planner.ahead_to_pass.Goals as goal

pub invariant_of-result : goal.invariant_of-result
invariant_of-result c =
    let kept = c.without_rows.ensures.kept c.self.inside.ranked c.self.invariant.valid in
    record { end = kept.near; valid = kept.valid; rows = kept }
