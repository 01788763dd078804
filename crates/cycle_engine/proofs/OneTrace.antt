-- Frames that are offered on the bus at one time with one identifier, after the same frames, are the same.
use Rattle.std.proofs.Common.{◌≡◌, ℕ, ◌+◌, ◌*◌, ◌<◌, ◌≤◌, List, Some, inl, inr, sym, subst, arith}
use Rattle.std.specs.Prelude.{◌==◌}
use Rattle.std.proofs.Math.Nat.{div-eq_of_lt-le, add-mul}
use Rattle.std.specs.List.{slice_get}
use Rattle.std.proofs.lemmas.List.Elements.{All-contains, All-filter, All-drop}
use Rattle.can_frame.specs.DataFrame.{DataFrame}
use Rattle.can_frame.specs.declared.data_frame.TimedFrame.{TimedFrame}
use Rattle.cycle_layout.specs.Layout.{CycleLayout, IsLayout}
use Rattle.async_window.specs.declared.request.Request.{Request}
use Rattle.async_window.specs.Waiting.{requests_of, unsent_after, frames_with}
use Rattle.bus_line.specs.Trace.{IsDetermined}
use Rattle.bus_line.proofs.Shared.{only-trace}
use Rattle.requirement_table.specs.Instance.{Instance}
use Rattle.requirement_table.specs.Opening.{Opening}
use Rattle.node_model.specs.Opening.{start_of, end_of_cycle}
use Rattle.node_model.specs.Offered.{OffersTrigger, OffersRequest, OffersSlot}
use Rattle.cycle_engine.specs.Offered.{AreAsynchronous, AreOfDistinctCycles, IsCanTrace, offered, offered_in}
use Rattle.cycle_engine.proofs.Lists.{Contains-slice_get, same_by_number}
use Rattle.cycle_engine.proofs.TriggerFrames.{rising}

same_frame : (one other : DataFrame) → one.identifier ≡ other.identifier → one.bytes ≡ other.bytes → one ≡ other
same_frame one other id bytes = grind arith

-- a time of two cycles shows that they are one
same_cycle : (c d length at : ℕ) → c * length ≤ at → at < (c + 1) * length → d * length ≤ at → at < (d + 1) * length → c ≡ d
same_cycle c d length at c_begun c_within d_begun d_within = grind (arith, div-eq_of_lt-le)

-- the first unsent request of an identifier is one of the requests
pub is_asynchronous : (requests : List Request) (past : List TimedFrame) (id : ℕ) (request : Request) → AreAsynchronous requests
    → slice_get (unsent_after requests past id) 0 ≡ Some request → 0x200 ≤ request.frame.identifier
is_asynchronous requests past id request all first =
    let Wanted : Request → Type 0 = λ x. (0x200 ≤ x.frame.identifier) × (x.frame.identifier ≤ 0x7EF) in
    let unsent = All-drop Wanted (frames_with past id) (requests_of requests id) (All-filter (λ x. x.frame.identifier == id) Wanted requests all) in
    (All-contains Wanted (unsent_after requests past id) request unsent (Contains-slice_get (unsent_after requests past id) 0 request first)).0

module _ (sends : Instance → List ℕ) (layout : CycleLayout) (requests : List Request) where
  -- what is offered in a cycle is offered at a time of the cycle
  pub in_cycle : IsLayout layout → (opening : Opening) (past : List TimedFrame) (at : ℕ) (frame : DataFrame)
      → offered_in sends layout requests opening past at frame → (start_of layout opening ≤ at) × (at < end_of_cycle layout opening)
  in_cycle is opening past at frame h1 = grind (arith, add-mul)

  pub request_id : AreAsynchronous requests → (opening : Opening) (past : List TimedFrame) (at : ℕ) (frame : DataFrame)
      → OffersRequest layout requests opening past at frame → 0x200 ≤ frame.identifier
  request_id all opening past at frame offers =
      let least = is_asynchronous requests past frame.identifier offers.request all offers.may_start.waiting.first in
      grind arith

  -- frames of one identifier that are offered in one cycle
  same_trigger : (opening : Opening) (past : List TimedFrame) (at : ℕ) (one other : DataFrame) → OffersTrigger layout opening past at one
      → OffersTrigger layout opening past at other → one.identifier ≡ other.identifier → one ≡ other
  same_trigger opening past at one other is_one is_other same = grind (arith, same_by_number, rising)

  same_request : (opening : Opening) (past : List TimedFrame) (at : ℕ) (one other : DataFrame) → OffersRequest layout requests opening past at one
      → OffersRequest layout requests opening past at other → one.identifier ≡ other.identifier → one ≡ other
  same_request opening past at one other is_one is_other same =
      let first_other = subst (λ id. slice_get (unsent_after requests past id) 0 ≡ Some is_other.request) (sym same) is_other.may_start.waiting.first in
      grind arith

  same_slot : (opening : Opening) (past : List TimedFrame) (at : ℕ) (one other : DataFrame) (slot also : ℕ) → OffersSlot sends layout opening past at one slot
      → OffersSlot sends layout opening past at other also → one.identifier ≡ other.identifier → one ≡ other
  same_slot opening past at one other slot also is_one is_other same = grind (arith, same_frame)

  same_in_cycle : AreAsynchronous requests → (opening : Opening) (past : List TimedFrame) (at : ℕ) (one other : DataFrame)
      → offered_in sends layout requests opening past at one → offered_in sends layout requests opening past at other → one.identifier ≡ other.identifier → one ≡ other
  same_in_cycle all opening past at one other (inl a) (inl b) same = same_trigger opening past at one other a b same
  same_in_cycle all opening past at one other (inl a) (inr (inl b)) same = grind (arith, request_id)
  same_in_cycle all opening past at one other (inl a) (inr (inr (slot, b))) same = grind arith
  same_in_cycle all opening past at one other (inr (inl a)) (inl b) same = grind (arith, request_id)
  same_in_cycle all opening past at one other (inr (inl a)) (inr (inl b)) same = same_request opening past at one other a b same
  same_in_cycle all opening past at one other (inr (inl a)) (inr (inr (slot, b))) same = grind (arith, request_id)
  same_in_cycle all opening past at one other (inr (inr (slot, a))) (inl b) same = grind arith
  same_in_cycle all opening past at one other (inr (inr (slot, a))) (inr (inl b)) same = grind (arith, request_id)
  same_in_cycle all opening past at one other (inr (inr (slot, a))) (inr (inr (also, b))) same = same_slot opening past at one other slot also a b same

  -- a time belongs to one opening
  pub IsDetermined-offered : IsLayout layout → AreAsynchronous requests → (openings : List Opening) → AreOfDistinctCycles openings
      → IsDetermined (offered sends layout requests openings)
  IsDetermined-offered is all openings distinct past at one other (opening, in_one, is_one) (also, in_other, is_other) same =
      let low = in_cycle is opening past at one is_one in
      let high = in_cycle is also past at other is_other in
      let cycles = same_cycle opening.cycle also.cycle layout.cycle at low.0 low.1 high.0 high.1 in
      let openings_same = same_by_number (λ o. o.cycle) openings opening also distinct in_one in_other cycles in
      same_in_cycle all opening past at one other is_one (subst (λ o. offered_in sends layout requests o past at other) (sym openings_same) is_other) same

-- there is only one CAN trace of some opened cycles
pub one-can_trace : (sends : Instance → List ℕ) (layout : CycleLayout) (requests : List Request) (openings : List Opening) (count : ℕ) (one other : List TimedFrame)
    → IsLayout layout → AreAsynchronous requests → AreOfDistinctCycles openings
    → IsCanTrace sends layout requests openings count one → IsCanTrace sends layout requests openings count other → one ≡ other
one-can_trace sends layout requests openings count one other is asynchronous distinct =
    only-trace (offered sends layout requests openings) (IsDetermined-offered sends layout requests is asynchronous openings distinct) (count * layout.cycle) one other
