-- *CAN trace* of opened cycles: what is offered on the bus in them, and the trace that arbitration decides.
use Rattle.std.specs.Prelude.{◌≡◌, ◌≢◌, ℕ, ◌*◌, ◌≤◌, ◌⊎◌, List, All, AllPairs, Contains, length}
use Rattle.profile.specs.Limits.{greatest_identifier, least_asynchronous}
use Rattle.can_frame.specs.declared.data_frame.TimedFrame.{TimedFrame}
use Rattle.cycle_layout.specs.Layout.{CycleLayout}
use Rattle.async_window.specs.declared.request.Request.{Request}
use Rattle.bus_line.specs.Trace.{IsTrace, Offers}
use Rattle.requirement_table.specs.Opening.{Opening}
use Rattle.requirement_table.specs.Instance.{Instance}
use Rattle.node_model.specs.Offered.{OffersTrigger, OffersRequest, OffersSlot}

-- what is offered in one opened cycle: its trigger frames, the requests that may start in its asynchronous window, and
-- the frames of its flagged slots in its synchronous window, with the bytes that an instance sends
abbrev pub offered_in : (Instance → List ℕ) → CycleLayout → List Request → Opening → Offers
offered_in sends layout requests opening past at frame =
    OffersTrigger layout opening past at frame
    ⊎ (OffersRequest layout requests opening past at frame
    ⊎ ((slot : ℕ) × OffersSlot sends layout opening past at frame slot))

-- what is offered in the opened cycles together
abbrev pub offered : (Instance → List ℕ) → CycleLayout → List Request → List Opening → Offers
offered sends layout requests openings past at frame =
    (opening : Opening) × Contains openings opening × offered_in sends layout requests opening past at frame

-- *CAN trace*: that of `count` opened cycles, where an instance sends these bytes
abbrev pub IsCanTrace : (Instance → List ℕ) → CycleLayout → List Request → List Opening → ℕ → List TimedFrame → Type 0
IsCanTrace sends layout requests openings count trace =
    IsTrace (offered sends layout requests openings) (count * layout.cycle) trace

-- each instance sends as many bytes as its entry's length
abbrev pub SendsWhole : (Instance → List ℕ) → Type 0
SendsWhole sends = (instance : Instance) → length (sends instance) ≡ instance.placed.entry.length

-- no two of the openings are of one cycle
abbrev pub AreOfDistinctCycles : List Opening → Type 0
AreOfDistinctCycles openings = AllPairs (λ one other. one.cycle ≢ other.cycle) openings

-- the identifiers of all requests are asynchronous ones
abbrev pub AreAsynchronous : List Request → Type 0
AreAsynchronous requests =
    All (λ request. (least_asynchronous ≤ request.frame.identifier)
    × (request.frame.identifier ≤ greatest_identifier)) requests
