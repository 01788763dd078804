-- The frames of requests in a trace.
use Rattle.std.proofs.Common.{◌≡◌, ℕ, zero, suc, ◌<◌, ◌≤◌, Bool, true, List, All, AllPairs, Contains, Some, inl, inr, subst, arith, drop, slice_get, get_or}
use Rattle.std.proofs.lemmas.List.Elements.{All-contains}
use Rattle.profile.specs.Limits.{least_asynchronous}
use Rattle.can_frame.specs.declared.data_frame.TimedFrame.{TimedFrame}
use Rattle.can_frame.proofs.Shared.{wire-positive}
use Rattle.cycle_layout.specs.Layout.{CycleLayout}
use Rattle.requirement_table.specs.Instance.{Instance}
use Rattle.requirement_table.specs.Opening.{Opening, width_of}
use Rattle.trigger_kind.specs.Kind.{greatest_trigger}
use Rattle.trigger_codec.proofs.Shared.{low_ids}
use Rattle.async_window.specs.declared.request.Request.{Request}
use Rattle.async_window.specs.Waiting.{requests_of}
use Rattle.bus_line.specs.Trace.{IsLeastOffered, IsOrdered, end_of, started_before}
use Rattle.node_model.specs.Offered.{trigger_frames}
use Rattle.cycle_engine.specs.Offered.{offered, offered_in}
use Rattle.bounded_runs.specs.Runs.{IsBoundedRun, WaitsOnBus}
use Rattle.bounded_runs.proofs.Begun.{begun, begun-step, begun-zero}
use Rattle.bounded_runs.proofs.Arrivals.{arrived, arrived-le, arrived-least}

module _ (requests : List Request) (trace : List TimedFrame) where
  -- the frame is that of the first request of its identifier which had not started
  pub record OfRequest (sent : TimedFrame) : Type 0 where
    pub request : Request
    pub is : slice_get (drop (begun sent.frame.identifier sent.start trace) (requests_of requests sent.frame.identifier)) 0 ≡ Some request
    pub arrived_ : request.at ≤ sent.start
    pub its_frame : sent.frame ≡ request.frame

  -- a request is answered at a time: by a frame that covers it, before which no waiting request would go
  pub record IsAnswered (longest at : ℕ) : Type 0 where
    pub sent : TimedFrame
    pub among : Contains trace sent
    pub from : sent.start ≤ at
    pub before : at < end_of sent
    pub asynchronous : least_asynchronous ≤ sent.frame.identifier
    pub goes_first : (r : Request) → WaitsOnBus requests trace longest sent.start r → sent.frame.identifier ≤ r.frame.identifier

  -- a bus on which each frame of a request is that of the first one unsent, and at each usable time below `until` at which a
  -- request waits it is answered
  pub record IsAnswering (usable : ℕ → Bool) (longest until : ℕ) : Type 0 where
    pub ordered : IsOrdered trace
    pub of_request : (sent : TimedFrame) → Contains trace sent → least_asynchronous ≤ sent.frame.identifier → OfRequest sent
    pub answers : (at : ℕ) (r : Request) → at < until → usable at ≡ true → WaitsOnBus requests trace longest at r → IsAnswered longest at

module _ (sends : Instance → List ℕ) (layout : CycleLayout) (requests : List Request) (openings : List Opening)
    (count : ℕ) (trace : List TimedFrame) (run : IsBoundedRun sends layout requests openings count trace) where
  from-offer : (opening : Opening) (sent : TimedFrame) → least_asynchronous ≤ sent.frame.identifier
      → offered_in sends layout requests opening (started_before sent.start trace) sent.start sent.frame → OfRequest requests trace sent
  from-offer opening sent high (inl trigger) =
      let low = All-contains (λ f. f.identifier ≤ greatest_trigger) (trigger_frames layout opening) sent.frame
      (low_ids layout.slots opening.cycle (width_of opening) opening.mask)
      trigger.among in
      absurd (omega (arith, high, low))
  from-offer opening sent high (inr (inl its)) = record {
    request = its.request;
    is = its.may_start.waiting.first;
    arrived_ = its.may_start.waiting.arrived;
    its_frame = its.its_frame;
  }
  from-offer opening sent high (inr (inr (slot, its))) = absurd (omega (arith, high, its.identifier, its.known))

  pub of-request : (sent : TimedFrame) → Contains trace sent → least_asynchronous ≤ sent.frame.identifier → OfRequest requests trace sent
  of-request sent has high =
      let least = All-contains (λ s. IsLeastOffered (offered sends layout requests openings) (started_before s.start trace) s.start s.frame) trace sent run.can_trace.least has in
      from-offer least.offered.0 sent high least.offered.2

module _ (requests : List Request) (trace : List TimedFrame) (ordered : IsOrdered trace)
    (of_request : (sent : TimedFrame) → Contains trace sent → least_asynchronous ≤ sent.frame.identifier → OfRequest requests trace sent) where
  pub some-long : All (λ s. 0 < s.len) trace
  some-long k d within =
      let long = ordered.lengths k d within in
      let some = wire-positive (get_or trace k d).frame in
      omega (arith, long, some)

  -- what has started has arrived
  pub begun-arrived : (id : ℕ) → least_asynchronous ≤ id → AllPairs (λ one other. one.at ≤ other.at) (requests_of requests id) → (at : ℕ)
      → begun id at trace ≤ arrived at (requests_of requests id)
  begun-arrived id high rise zero = omega (arith, begun-zero id trace)
  begun-arrived id high rise (suc at) =
      let sofar = begun-arrived id high rise at in
      let more = arrived-le at (suc at) (requests_of requests id) (omega arith) in
      elim (begun-step id at trace some-long ordered.apart) [
        | inl same ↦ omega (arith, same, sofar, more)
        | inr starts ↦
            let of = of_request starts.sent starts.among (omega (arith, starts.same, high)) in
            let is_id = subst (λ n. slice_get (drop (begun n starts.sent.start trace) (requests_of requests n)) 0 ≡ Some of.request) starts.same of.is in
            let is_at = subst (λ n. slice_get (drop (begun id n trace) (requests_of requests id)) 0 ≡ Some of.request) starts.now is_id in
            let least = arrived-least (suc at) (begun id at trace) (requests_of requests id) of.request rise is_at (omega (arith, of.arrived_, starts.now)) in
            omega (arith, least, starts.one)
      ]
