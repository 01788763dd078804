-- By what the bits of a line tell of its trace.
use Rattle.std.proofs.Common.{◌≡◌, ◌≢◌, List, length}
use Rattle.std.proofs.lemmas.Result.{IfOk-weaker, IfErr-weaker}
use Rattle.can_frame.specs.declared.data_frame.TimedFrame.{TimedFrame}
use Rattle.bus_line.specs.declared.line_fault.LineFault.TheVariants.{Memory}
use Rattle.bus_line.specs.Recording.{BreaksLine, IsRecording}
use Rattle.bus_line.proofs.OneRecording.{no_trace}
use Rattle.bus_line.proofs.recording.read_line.Goals as goal

pub returns-clause-only : goal.returns-clause-only
returns-clause-only c =
    let bits = c.args.bits.now in
    IfOk-weaker c.read.result (λ trace. IsRecording trace.items 0 (length bits) bits) (λ trace. (other : List TimedFrame) → IsRecording other 0 (length bits) bits → trace.items ≡ other)
    (λ trace recorded other h. c.one_recording.ensures.one_trace 0 (length bits) bits trace.items other recorded h) c.read.ensures.recorded

pub returns-clause-none : goal.returns-clause-none
returns-clause-none c =
    let bits = c.args.bits.now in
    IfErr-weaker c.read.result (BreaksLine bits) (λ fault. fault ≢ Memory → (trace : List TimedFrame) → IsRecording trace 0 (length bits) bits → ⊥) (no_trace bits c.one_recording.ensures.unbroken) c.read.ensures.breaks
