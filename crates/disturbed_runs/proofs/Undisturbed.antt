-- A bus without errors has no outages.
use Rattle.std.proofs.Common.{ℕ, ◌*◌, List, [], inl}
use Rattle.can_frame.specs.declared.data_frame.TimedFrame.{TimedFrame}
use Rattle.cycle_layout.specs.Layout.{CycleLayout}
use Rattle.async_window.specs.declared.request.Request.{Request}
use Rattle.requirement_table.specs.Instance.{Instance}
use Rattle.requirement_table.specs.Opening.{Opening}
use Rattle.cycle_engine.specs.Offered.{IsCanTrace, offered}
use Rattle.disturbed_runs.specs.Outages.{IsDisturbedTrace}

pub none : (sends : Instance → List ℕ) (layout : CycleLayout) (requests : List Request) (openings : List Opening) (count : ℕ) (trace : List TimedFrame)
    → IsCanTrace sends layout requests openings count trace → IsDisturbedTrace (offered sends layout requests openings) (offered sends layout requests openings) [] (count * layout.cycle) trace
none sends layout requests openings count trace is = record {
  ordered = is.ordered;
  within = is.within;
  allowed = λ k d within. (is.least k d within).offered;
  busy = λ at frame before offer. inl (is.busy at frame before offer);
}
