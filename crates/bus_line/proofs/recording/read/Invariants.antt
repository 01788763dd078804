-- The bits before the place are the line of the frames so far, and a dominant bit stands there.
use Rattle.std.proofs.Common.{◌≡◌, ◌-◌, ◌<◌, ◌≤◌, true, false, get_or, length, take}
use Rattle.bus_line.specs.Recording.{IsRecording}
use Rattle.bus_line.proofs.recording.read.Given as goal

abbrev pub invariant-loop-place : goal.invariant-loop-place
invariant-loop-place l = record {
  within : l.place ≤ length l.bits;
  recorded : IsRecording l.trace.items 0 l.place (take l.place l.bits);
  stands : l.place < length l.bits → get_or l.bits l.place true ≡ false;
}

abbrev pub decreases-loop-place : goal.decreases-loop-place
decreases-loop-place l = length l.bits - l.place
