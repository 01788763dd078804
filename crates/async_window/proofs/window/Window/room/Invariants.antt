use Rattle.std.proofs.Common.{ℕ, ◌+◌, ◌<◌, ◌≤◌}
use Rattle.stuff_bound.specs.Stuffing.{worst}
use Rattle.async_window.proofs.window.Window.room.Given as goal

-- longer frames do not fit
abbrev pub invariant-loop-less : goal.invariant-loop-less
invariant-loop-less l = (bytes : ℕ) → bytes ≤ 8 → 8 < bytes + l.less → l.self.closed < l.at + worst bytes
