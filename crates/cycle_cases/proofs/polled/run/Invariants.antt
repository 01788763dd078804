use Rattle.std.proofs.Common.{◌≡◌}
use Rattle.profile.specs.Limits.{first_slots}
use Rattle.sporadic_poll.specs.PolledNodes.{AreNext}
use Rattle.cycle_cases.proofs.polled.run.Given as goal

-- the nodes have run the cycles before this one
abbrev pub invariant-loop-cycle : goal.invariant-loop-cycle
invariant-loop-cycle l = record {
  window : l.nodes.nodes.layout.window ≡ 135;
  slots : l.nodes.nodes.layout.slots ≡ first_slots;
  next : AreNext l.cycle l.nodes;
}
