-- Asynchronous frames on a disturbed bus: which of them go, and what disturbances take of their time. Times and lengths are
-- bit times.
use Rattle.std.specs.Prelude.{ℕ, ◌+◌, ◌-◌, ◌*◌, ◌^◌, ◌≤◌, ◌&&◌, nat_le, nat_lt, List, [], ◌∷◌, All, Contains, count_by}
use Rattle.profile.specs.Limits.{least_asynchronous}
use Rattle.can_frame.specs.DataFrame.{DataFrame}
use Rattle.can_frame.specs.declared.data_frame.TimedFrame.{TimedFrame}
use Rattle.stuff_bound.specs.Stuffing.{worst}
use Rattle.cycle_layout.specs.Layout.{CycleLayout}
use Rattle.requirement_table.specs.Opening.{Opening}
use Rattle.async_window.specs.declared.request.Request.{Request}
use Rattle.async_bound.specs.declared.stream.BurstStream.{BurstStream}
use Rattle.bus_line.specs.Trace.{Offers, started_before}
use Rattle.master_core.specs.declared.event.Event.{Event}
use Rattle.master_core.specs.History.{next_of}
use Rattle.master_core.specs.Openings.{openings_of}
use Rattle.kept_run.specs.Setting.{Setting}
use Rattle.disturbed_runs.specs.Outages.{IsDisturbedTrace, Outage}
use Rattle.disturbed_runs.specs.Offered.{AreOfRequests, Asks, IsAskedBy, IsDisturbedRun, Late, Silent, may_start}
use Rattle.disturbed_runs.specs.Budget.{IsWithinBudget}

-- the layout whose largest synchronous window is so many bit times longer
abbrev pub wider : CycleLayout → ℕ → CycleLayout
wider layout longer = record layout { window = layout.window + longer }

-- the requests that are offered without fail in opened cycles: of each identifier the first unsent one, from its arrival on,
-- if its longest frame ends before a window that is so much longer than its frames
abbrev pub offered_requests : ℕ → CycleLayout → List Request → List Opening → Offers
offered_requests longer layout requests openings past at frame =
    (opening : Opening) × Contains openings opening × IsAskedBy longer layout requests opening past at frame

-- the frame goes by arbitration: when it starts, no frame of a lesser identifier is offered
abbrev pub GoesFirst : Offers → List TimedFrame → TimedFrame → Type 0
GoesFirst offers trace sent = (other : DataFrame) → offers (started_before sent.start trace) sent.start other
    → sent.frame.identifier ≤ other.identifier

-- a disturbed run in whose cycles the budget is kept, and whose asynchronous frames are requests: these keep the guard and
-- `guard` bit times more, they are offered without fail as long as they do, and they go by arbitration
pub record SendsRequests (setting : Setting) (reserve guard : ℕ) (late : Late) (silent : Silent) (asks : Asks) (history : List Event)
    (outages : List Outage) (trace : List TimedFrame) : Type 0 where
  pub run : IsDisturbedRun reserve late silent setting.sends setting.layout asks (openings_of history) (next_of history) outages trace
  pub budget : All (IsWithinBudget setting.layout reserve late silent outages) (openings_of history)
  pub are_requests : AreOfRequests (reserve + guard) setting.layout setting.requests asks
  pub requests : IsDisturbedTrace (may_start reserve late silent setting.sends setting.layout asks (openings_of history))
      (offered_requests (reserve + guard) setting.layout setting.requests (openings_of history)) outages (next_of history * setting.layout.cycle) trace
  pub first : All (GoesFirst (offered_requests (reserve + guard) setting.layout setting.requests (openings_of history)) trace) trace

-- how long an outage may be that takes the time of three frames without data bytes: 165 bit times, no less than what a
-- disturbance of the longest frame costs
abbrev pub longest_outage : ℕ
longest_outage = 3 * worst 0

-- no outage is longer, and no more than so many start within any `gap` bit times
pub record AreRare (errors gap : ℕ) (outages : List Outage) : Type 0 where
  pub short : All (λ outage. outage.span ≤ longest_outage) outages
  pub few : (low : ℕ) → count_by (λ outage. nat_le low outage.start && nat_lt outage.start (low + gap)) outages ≤ errors

-- disturbances as a stream of requests that go before those of all greater identifiers: for each of them three frames
-- without data bytes, and so many of them within any `gap` bit times
abbrev pub fault_stream : ℕ → ℕ → BurstStream
fault_stream errors gap = record { gap = gap; burst = 3 * errors; id = least_asynchronous; bytes = 0 }

-- rare disturbances as two such streams: the second one stands for those that began before
abbrev pub fault_streams : ℕ → ℕ → List BurstStream
fault_streams errors gap = fault_stream errors gap ∷ fault_stream errors (2 ^ 32 - 1) ∷ []
