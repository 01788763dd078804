-- The frame that carries a request. Times are bit times.
use Rattle.std.specs.Prelude.{◌≡◌, ℕ, ◌<◌, ◌≤◌, List, [], ◌∷◌, All, Contains, length, Some}
use Rattle.std.specs.List.{slice_get}
use Rattle.can_frame.specs.declared.data_frame.TimedFrame.{TimedFrame}
use Rattle.cycle_layout.specs.Layout.{CycleLayout}
use Rattle.requirement_table.specs.Instance.{Instance, release_of}
use Rattle.requirement_table.specs.Opening.{Opening}
use Rattle.requirement_table.specs.Table.{instance_in}
use Rattle.bus_line.specs.Trace.{end_of}
use Rattle.node_model.specs.Opening.{end_of_cycle, window_start}
use Rattle.cycle_engine.specs.Cycle.{frames_in, of_slot}
use Rattle.sporadic_poll.specs.declared.stream.Stream.{Stream}
use Rattle.sporadic_poll.specs.Polled.{lengths_of}
use Rattle.sporadic_poll.specs.Ride.{bytes_with}

-- each instance that may be sent in one of these opened cycles was released in one of them, by an entry of the length
-- that its entry has
abbrev pub KeepLengths : List Opening → Type 0
KeepLengths openings = All (λ opening. (slot : ℕ) (instance : Instance)
    → instance_in opening.placed slot opening.cycle ≡ Some instance
    → lengths_of openings slot (release_of instance.placed instance.number) ≡ Some instance.placed.entry.length) openings

-- the request at a place has its frame in an opened cycle. That is the only frame of its slot among those of the cycle,
-- and lies in the cycle's synchronous window. It carries the request's bytes, with the mark before them and zeros behind
-- them, up to the length of the entry of which an instance was released in the cycle `release`
pub record HasRideFrame (layout : CycleLayout) (streams : List Stream) (openings : List Opening) (trace : List TimedFrame)
    (place release cycle : ℕ) : Type 0 where
  pub request : Stream
  pub at : slice_get streams place ≡ Some request
  pub opening : Opening
  pub opened : Contains openings opening
  pub in_cycle : opening.cycle ≡ cycle
  pub sent : TimedFrame
  pub once : of_slot request.slot (frames_in layout cycle trace) ≡ sent ∷ []
  pub after : window_start layout opening ≤ sent.start
  pub before : end_of sent ≤ end_of_cycle layout opening
  pub entry_length : ℕ
  pub released : lengths_of openings request.slot release ≡ Some entry_length
  pub room : length request.payload < entry_length
  pub carries : sent.frame.bytes ≡ bytes_with entry_length (Some request.payload)
