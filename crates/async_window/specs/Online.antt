-- Requests that come while the bus runs. Times are bit times.
use Rattle.std.specs.Prelude.{ℕ, ◌≤◌, ◌<◌, nat_le, nat_lt, List, All, filter, length, map}
use Rattle.profile.specs.Limits.{least_asynchronous}
use Rattle.can_frame.specs.declared.data_frame.TimedFrame.{TimedFrame}
use Rattle.async_window.specs.declared.request.Request.{Request}
use Rattle.async_window.specs.Mailbox.{Mail}
use Rattle.async_window.specs.Waiting.{frames_with, requests_of}

-- each frame of an asynchronous identifier was one of these requests
abbrev pub WereRequests : List Request → List TimedFrame → Type 0
WereRequests requests past =
    (id : ℕ) → least_asynchronous ≤ id → frames_with past id ≤ length (requests_of requests id)

-- all of these requests have arrived at a time
abbrev pub HaveArrived : ℕ → List Request → Type 0
HaveArrived at requests = All (λ request. request.at ≤ at) requests

-- none of them has
abbrev pub ComeLater : ℕ → List Request → Type 0
ComeLater at requests = All (λ request. at < request.at) requests

-- a request of which is forgotten when it arrived
abbrev pub forgotten : Request → Request
forgotten request = record request { at = 0 }

-- the same of a mailbox, and of mail
abbrev pub forgotten_box : Mail → Mail
forgotten_box box = record box { unsent = map forgotten box.unsent }

abbrev pub forgotten_mail : List Mail → List Mail
forgotten_mail mail = map forgotten_box mail

-- those of some requests that have arrived at a time, and those that come later
abbrev pub arrived_by : ℕ → List Request → List Request
arrived_by at requests = filter (λ request. nat_le request.at at) requests

abbrev pub coming_after : ℕ → List Request → List Request
coming_after at requests = filter (λ request. nat_lt at request.at) requests
