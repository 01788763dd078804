-- Traces of a CAN bus that is disturbed. Times and lengths are bit times.
use Rattle.std.specs.Prelude.{◌≡◌, ℕ, ◌+◌, ◌-◌, ◌<◌, ◌≤◌, ◌⊎◌, List, All, Any, map, sum_by, count_by, min, max, nat_lt, ◌&&◌, Bool}
use Rattle.can_frame.specs.DataFrame.{DataFrame}
use Rattle.can_frame.specs.declared.data_frame.TimedFrame.{TimedFrame}
use Rattle.bus_line.specs.Trace.{IsOrdered, Offers, end_of, started_before}

-- an outage: from its start on the bus sends no frame whole for so many bit times. What was sent of a frame before a
-- disturbance, the error frame, the intermission behind it, the wait of an error passive sender, and noise on an idle
-- bus are parts of outages
pub record Outage : Type 0 where
  pub start : ℕ
  pub span : ℕ

abbrev pub end_of_outage : Outage → ℕ
end_of_outage outage = outage.start + outage.span

-- how many of the bit times from `low` to below `high` an outage takes, and how many all of them take
abbrev pub overlap : ℕ → ℕ → Outage → ℕ
overlap low high outage = min (end_of_outage outage) high - max outage.start low

abbrev pub lost_in : ℕ → ℕ → List Outage → ℕ
lost_in low high outages = sum_by (overlap low high) outages

-- whether an outage has bit times from `low` to below `high`, and how many of them have
abbrev pub touches : ℕ → ℕ → Outage → Bool
touches low high outage = nat_lt outage.start high && nat_lt low (end_of_outage outage)

abbrev pub touching : ℕ → ℕ → List Outage → ℕ
touching low high outages = count_by (touches low high) outages

-- the frames that started before the time: what is still under way of them is lost to what comes behind
abbrev pub under_way : ℕ → List TimedFrame → List Outage
under_way at trace = map (λ sent. record { start = sent.start; span = sent.len }) (started_before at trace)

-- the trace of the frames that are sent whole below `until` on a bus with these outages: it is ordered, all starts are
-- below `until`, each frame is one that may start at its start, and every time below `until` at which something is
-- offered lies within a frame or within an outage. A frame that is cut is in no trace, so it is offered again.
-- `may` says what may start, and `must` what is offered without fail. Nothing is said of which offered frame goes
-- first, so the trace that arbitration decides is one of these, and so is that of controllers whose buffers are not
-- sorted, and of error passive ones, which wait before they send again
pub record IsDisturbedTrace (may must : Offers) (outages : List Outage) (until : ℕ) (trace : List TimedFrame) : Type 0 where
  pub ordered : IsOrdered trace
  pub within : All (λ sent. sent.start < until) trace
  pub allowed : All (λ sent. may (started_before sent.start trace) sent.start sent.frame) trace
  pub busy : (at : ℕ) (frame : DataFrame) → at < until → must (started_before at trace) at frame
      → Any (λ sent. (sent.start ≤ at) × (at < end_of sent)) trace
      ⊎ Any (λ outage. (outage.start ≤ at) × (at < end_of_outage outage)) outages
