-- The bits so far are the line of the frames so far, and none of the others starts before them.
use Rattle.std.proofs.Common.{ℕ, ◌+◌, ◌-◌, ◌<◌, ◌≤◌, length, get_or, take}
use Rattle.can_frame.specs.declared.data_frame.TimedFrame.{TimedFrame}
use Rattle.bus_line.specs.Recording.{IsRecording}
use Rattle.bus_line.proofs.recording.line_bits.Given as goal

abbrev pub invariant-loop-sent : goal.invariant-loop-sent
invariant-loop-sent l = record {
  recorded : IsRecording (take l.sent-index l.trace) l.from (l.from + length l.bits.items) l.bits.items;
  few : length l.bits.items ≤ l.until - l.from;
  free : (k : ℕ) (d : TimedFrame) → l.sent-index ≤ k → k < length l.trace → l.from + length l.bits.items ≤ (get_or l.trace k d).start;
}
