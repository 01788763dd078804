use Rattle.release_wheel.proofs.Copied.{standing-copied}
use Rattle.release_wheel.proofs.planner.Planner.ahead.Goals as goal

pub invariant_of-result : goal.invariant_of-result
invariant_of-result c =
    let inside = c.self.inside in
    standing-copied inside.ranked inside.near inside.wheel c.in_ok-copy_of-in-None.field-0 c.in-None.is c.self.invariant c.in_ok-copy_of-in-None.ensures.kept
    c.in_ok-copy_of-in-None.ensures.cycle c.in_ok-copy_of-in-None.ensures.slots
