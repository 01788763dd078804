-- Runs, the requests that wait in them, and when their frames start. Times and lengths are bit times.
use Rattle.std.specs.Prelude.{◌≡◌, ℕ, ◌+◌, ◌<◌, ◌≤◌, ◌&&◌, nat_le, nat_lt, Bool, List, All, Contains, sum_by, length, if◌then◌else◌}
use Rattle.profile.specs.Limits.{least_asynchronous}
use Rattle.can_frame.specs.declared.data_frame.TimedFrame.{TimedFrame}
use Rattle.stuff_bound.specs.Stuffing.{worst}
use Rattle.cycle_layout.specs.Layout.{CycleLayout}
use Rattle.async_window.specs.declared.request.Request.{Request}
use Rattle.async_window.specs.Waiting.{IsRequestWaiting, frames_with, unsent_after}
use Rattle.requirement_table.specs.Opening.{Opening, width_of}
use Rattle.requirement_table.specs.Instance.{Instance}
use Rattle.bus_line.specs.Trace.{end_of, started_before}
use Rattle.cycle_engine.specs.Offered.{IsCanTrace}
use Rattle.cycle_engine.specs.Cycle.{RunsCycles}

-- the cycle is one of the opened ones, with a synchronous window of at most the largest length
pub record IsAmongOpened (layout : CycleLayout) (openings : List Opening) (cycle : ℕ) : Type 0 where
  pub opening : Opening
  pub among : Contains openings opening
  pub number : opening.cycle ≡ cycle
  pub narrow : width_of opening ≤ layout.window

-- a run of `count` cycles: its trace is that which arbitration decides, and each cycle sends what its opening says
pub record IsBoundedRun (sends : Instance → List ℕ) (layout : CycleLayout) (requests : List Request)
    (openings : List Opening) (count : ℕ) (trace : List TimedFrame) : Type 0 where
  pub can_trace : IsCanTrace sends layout requests openings count trace
  pub runs : RunsCycles sends layout openings trace
  pub opened : (cycle : ℕ) → cycle < count → IsAmongOpened layout openings cycle

-- of the requests of its identifier, behind the frames that started before the time, the request waits, and its longest
-- frame has at most so many bit times
pub record WaitsOnBus (requests : List Request) (trace : List TimedFrame) (longest at : ℕ)
    (request : Request) : Type 0 where
  pub waiting : IsRequestWaiting (unsent_after requests (started_before at trace) request.frame.identifier) at request
  pub short : worst (length request.frame.bytes) ≤ longest

-- some request of an identifier below this one waits
pub record IsPressed (requests : List Request) (trace : List TimedFrame) (longest id at : ℕ) : Type 0 where
  pub request : Request
  pub waits : WaitsOnBus requests trace longest at request
  pub level : request.frame.identifier < id

-- the frame starts from `low` to below `high`
abbrev pub is_inside : ℕ → ℕ → TimedFrame → Bool
is_inside low high sent = nat_le low sent.start && nat_lt sent.start high

-- and it is that of a request with an identifier below this one
abbrev pub is_ahead : ℕ → ℕ → ℕ → TimedFrame → Bool
is_ahead id low high sent =
    is_inside low high sent && (nat_le least_asynchronous sent.frame.identifier && nat_lt sent.frame.identifier id)

-- the lengths of the frames that pass, together
abbrev pub time_of : (TimedFrame → Bool) → List TimedFrame → ℕ
time_of test trace = sum_by (λ sent. if test sent then sent.len else 0) trace

-- every frame of a request that started before the time ends at most so many bit times behind it
abbrev pub EndSoon : ℕ → ℕ → List TimedFrame → Type 0
EndSoon blocked at trace =
    All (λ sent. least_asynchronous ≤ sent.frame.identifier → sent.start < at → end_of sent ≤ at + blocked) trace

-- the request at this place among those of its identifier starts at its arrival or behind it, by less than `span`, and
-- ends by the length of its longest frame later
pub record StartsWithin (trace : List TimedFrame) (place span : ℕ) (request : Request) : Type 0 where
  pub sent : TimedFrame
  pub among : Contains trace sent
  pub its_frame : sent.frame ≡ request.frame
  pub number : frames_with (started_before sent.start trace) request.frame.identifier ≡ place
  pub from : request.at ≤ sent.start
  pub before : sent.start < request.at + span
  pub ends : end_of sent < request.at + span + worst (length request.frame.bytes)
