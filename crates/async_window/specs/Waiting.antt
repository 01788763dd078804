-- Requests to send in an asynchronous window: which one of an identifier waits, and when it may start. Times are bit
-- times.
use Rattle.std.specs.Prelude.{◌≡◌, ℕ, ◌≤◌, ◌==◌, List, length, filter, count_by, drop, slice_get, Some}
use Rattle.can_frame.specs.declared.data_frame.TimedFrame.{TimedFrame}
use Rattle.cycle_layout.specs.Layout.{CycleLayout, IsAllowed}
use Rattle.async_window.specs.declared.request.Request.{Request}

-- the requests of an identifier, in their order
abbrev pub requests_of : List Request → ℕ → List Request
requests_of requests id = filter (λ request. request.frame.identifier == id) requests

-- how many of these frames have the identifier
abbrev pub frames_with : List TimedFrame → ℕ → ℕ
frames_with frames id = count_by (λ sent. sent.frame.identifier == id) frames

-- the requests of an identifier that have not started, where the frames `past` have: each frame of the identifier was
-- the first one of them that was left
abbrev pub unsent_after : List Request → List TimedFrame → ℕ → List Request
unsent_after requests past id = drop (frames_with past id) (requests_of requests id)

-- *Waiting*: of the unsent requests of one identifier, the first one waits, from its arrival on
pub record IsRequestWaiting (unsent : List Request) (at : ℕ) (request : Request) : Type 0 where
  pub first : slice_get unsent 0 ≡ Some request
  pub arrived : request.at ≤ at

-- the request waits at this time, and is allowed to start then in cycle c, whose synchronous window has the length l
pub record MayStart (layout : CycleLayout) (c l : ℕ) (unsent : List Request) (at : ℕ) (request : Request) : Type 0 where
  pub waiting : IsRequestWaiting unsent at request
  pub allowed : IsAllowed layout (length request.frame.bytes) at c l
