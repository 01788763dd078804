-- The frames of a trace, cycle by cycle.
use Rattle.std.specs.Prelude.{ℕ, ◌+◌, ◌==◌, List, [], ◌∷◌, ◌++◌, if◌then◌else◌, fold}
use Rattle.can_frame.specs.declared.data_frame.TimedFrame.{TimedFrame}

-- the number of triggers up to a frame, itself included, where `seen` came before it. A trigger is here the first
-- trigger frame of a cycle, which alone has identifier 0
abbrev pub trigger_count_with : ℕ → TimedFrame → ℕ
trigger_count_with seen sent = if sent.frame.identifier == 0 then seen + 1 else seen

-- the number of triggers among frames
abbrev pub triggers_in : List TimedFrame → ℕ
triggers_in frames = fold trigger_count_with 0 frames

-- the frames of a trace that start in a cycle: those up to which, themselves included, just cycle + 1 frames have the
-- trigger's identifier 0, where `seen` such frames came before
abbrev pub started_in : ℕ → ℕ → List TimedFrame → List TimedFrame
started_in cycle seen [] = []
started_in cycle seen (sent ∷ later) =
    (if trigger_count_with seen sent == cycle + 1 then sent ∷ [] else []) ++ started_in cycle (trigger_count_with seen sent) later
