-- *Recording*: the bits of a bus, one for each bit time, against the trace of the frames that are sent on it.
use Rattle.std.specs.Prelude.{◌≡◌, ℕ, ◌+◌, ◌-◌, ◌<◌, ◌≤◌, ◌⊎◌, ⊤, Bool, List, length, get_or, take, drop, map, All, Any, Result, Ok, Err}
use Rattle.can_frame.specs.declared.data_frame.TimedFrame.{TimedFrame}
use Rattle.can_frame.specs.declared.wire_fault.WireFault.{WireFault}
use Rattle.can_frame.specs.DataFrame.{IsFrame}
use Rattle.can_frame.specs.Reading.{ReadsFront}
use Rattle.can_frame.specs.Wire.{dominant, recessive, wire_of, wire_length}
use Rattle.bus_line.specs.declared.line_fault.LineFault.{LineFault}
use Rattle.bus_line.specs.declared.line_fault.LineFault.TheVariants.{Frame, Memory}
use Rattle.bus_line.specs.Trace.{IsOrdered, end_of}

-- the frame is on the bus at this time
abbrev pub IsOnBus : ℕ → TimedFrame → Type 0
IsOnBus at sent = (sent.start ≤ at) × (at < end_of sent)

-- the bits are the line of an ordered trace whose frames start at or after `from` and end at or before `until`: one bit
-- for each bit time, the wire of each frame in its place, and recessive where no frame is on the bus. (`laws` says that
-- a trace has one such line, and that bits are the line of one trace.)
pub record IsRecording (trace : List TimedFrame) (from until : ℕ) (bits : List Bool) : Type 0 where
  pub ordered : IsOrdered trace
  pub legal : All (λ sent. IsFrame sent.frame) trace
  pub within : All (λ sent. (from ≤ sent.start) × (end_of sent ≤ until)) trace
  pub long : length bits ≡ until - from
  pub wires : All (λ sent. take sent.len (drop (sent.start - from) bits) ≡ wire_of sent.frame) trace
  pub idle : (at : ℕ) → from ≤ at → at < until
      → Any (IsOnBus at) trace ⊎ (get_or bits (at - from) dominant ≡ recessive)

-- bits that are the line of no trace: up to `start` they are the line of one, and at `start` stands a dominant bit at
-- which no whole frame begins. What *Reading* finds from there on is the fault, its places counted from `start`
pub record BreaksAt (bits : List Bool) (start : ℕ) (fault : WireFault) : Type 0 where
  pub before : List TimedFrame
  pub recorded : IsRecording before 0 start (take start bits)
  pub stands : get_or bits start recessive ≡ dominant
  pub reads : ReadsFront (drop start bits) (Err fault)

-- why a line is not read
abbrev pub BreaksLine : List Bool → LineFault → Type 0
BreaksLine bits (Frame start fault) = BreaksAt bits start fault
-- want of memory is told of by no bits
BreaksLine bits Memory = ⊤

-- a whole frame stands in the bits at a place
pub record StandsAt (bits : List Bool) (start : ℕ) (sent : TimedFrame) : Type 0 where
  pub starts : sent.start ≡ start
  pub legal : IsFrame sent.frame
  pub whole : sent.len ≡ wire_length sent.frame
  pub within : start + sent.len ≤ length bits
  pub wire : take sent.len (drop start bits) ≡ wire_of sent.frame

-- no whole frame stands in the bits at a place
abbrev pub FailsAt : List Bool → ℕ → LineFault → Type 0
FailsAt bits start (Frame place fault) = (place ≡ start) × ReadsFront (drop start bits) (Err fault)
FailsAt bits start Memory = ⊥

-- the answer to bits, whose places are the times
abbrev pub ReadsLine : List Bool → Result (List TimedFrame) LineFault → Type 0
ReadsLine bits (Ok trace) = IsRecording trace 0 (length bits) bits
ReadsLine bits (Err fault) = BreaksLine bits fault

-- the frame, with its start counted from `from`
abbrev pub counted : ℕ → TimedFrame → TimedFrame
counted from sent = record sent { start = sent.start - from }

-- the trace, with all starts lowered by `from`
abbrev pub counted_from : ℕ → List TimedFrame → List TimedFrame
counted_from from trace = map (counted from) trace
