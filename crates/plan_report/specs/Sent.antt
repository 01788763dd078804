-- Which instances were sent: words for laws.
use Rattle.std.specs.Prelude.{◌≡◌, ◌+◌, ℕ, List, Any}
use Rattle.profile.specs.Limits.{first_identifier}
use Rattle.can_frame.specs.declared.data_frame.TimedFrame.{TimedFrame}
use Rattle.requirement_table.specs.declared.entries.Placed.{Placed}
use Rattle.requirement_table.specs.Instance.{MaySend}
use Rattle.bus_trace.specs.Log.{started_in}

-- an instance of an entry was sent in a cycle: a frame of the entry's slot starts in the cycle, and the instance may be
-- sent in it
pub record WasSentIn (trace : List TimedFrame) (p : Placed) (number cycle : ℕ) : Type 0 where
  pub sent : Any (λ sent. sent.frame.identifier ≡ first_identifier + p.entry.slot) (started_in cycle 0 trace)
  pub in_time : MaySend p number cycle
