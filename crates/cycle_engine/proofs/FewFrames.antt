-- How many frames there are on a bus up to a time.
use Rattle.std.proofs.Common.{ℕ, ◌+◌, ◌-◌, ◌*◌, ◌≤◌, List, [], ◌∷◌, ◌++◌, length, arith}
use Rattle.can_frame.specs.declared.data_frame.TimedFrame.{TimedFrame}
use Rattle.can_frame.proofs.Shared.{wire-least}
use Rattle.bus_line.specs.Trace.{Follows, Offers, end_of}

-- each takes 47 bit times or more, but for the last one, which may end later
pub few-frames : (offers : Offers) (past : List TimedFrame) (free until : ℕ) (frames : List TimedFrame)
    → Follows offers past free until frames → 47 * length frames ≤ (until - free) + 46
few-frames offers past free until [] none = omega arith
few-frames offers past free until (sent ∷ later) (next, rest) =
    let behind = few-frames offers (past ++ sent ∷ []) (end_of sent) until later rest in
    let at_least = wire-least sent.frame in
    omega (arith, behind, at_least, next.whole, next.when_free, next.within)
