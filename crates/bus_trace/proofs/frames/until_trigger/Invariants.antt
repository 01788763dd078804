use Rattle.std.proofs.Common.{◌≡◌, ◌+◌, drop}
use Rattle.std.specs.List.{position_or_len}
use Rattle.bus_trace.specs.Logged.{is_trigger}
use Rattle.bus_trace.proofs.frames.until_trigger.Given as goal

abbrev pub invariant-loop-place : goal.invariant-loop-place
invariant-loop-place l = l.place + position_or_len is_trigger (drop l.place l.frames) ≡ position_or_len is_trigger l.frames
