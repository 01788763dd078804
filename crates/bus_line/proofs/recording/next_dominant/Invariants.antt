-- The bits from the first place on are recessive.
use Rattle.std.proofs.Common.{◌≡◌, ◌++◌, ◌-◌, ◌≤◌, true, length, replicate, take}
use Rattle.bus_line.proofs.recording.next_dominant.Given as goal

abbrev pub invariant-loop-place : goal.invariant-loop-place
invariant-loop-place l = record {
  order : l.from ≤ l.place;
  within : l.place ≤ length l.bits;
  idle : take l.place l.bits ≡ take l.from l.bits ++ replicate (l.place - l.from) true;
}

abbrev pub decreases-loop-place : goal.decreases-loop-place
decreases-loop-place l = length l.bits - l.place
