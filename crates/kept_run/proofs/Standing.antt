-- In a cycle the same is offered by a list of entries and by one that stands for it.
use Rattle.std.proofs.Common.{◌≡◌, ℕ, Bool, List, ◌++◌, sym, arith}
use Rattle.can_frame.specs.DataFrame.{DataFrame}
use Rattle.can_frame.specs.declared.data_frame.TimedFrame.{TimedFrame}
use Rattle.cycle_layout.specs.Layout.{CycleLayout}
use Rattle.requirement_table.specs.declared.entries.Placed.{Placed}
use Rattle.requirement_table.specs.Instance.{Instance}
use Rattle.requirement_table.specs.Opening.{Opening, width_of}
use Rattle.requirement_table.specs.Table.{instance_in, width_in}
use Rattle.bit_sets.specs.Sets.{has_bit}
use Rattle.bit_sets.proofs.Shared.{sum_where-costs}
use Rattle.async_window.specs.declared.request.Request.{Request}
use Rattle.node_model.specs.Offered.{OffersSlot}
use Rattle.bus_line.specs.Trace.{AgreeAlong, Follows}
use Rattle.bus_line.proofs.Shared.{Follows-along}
use Rattle.cycle_engine.specs.Offered.{offered_in}
use Rattle.master_core.specs.Orders.{StandsFor}

-- lists with the same instances in a cycle
abbrev pub SameIn : ℕ → List Placed → List Placed → Type 0
SameIn cycle one other = (slot : ℕ) → instance_in one slot cycle ≡ instance_in other slot cycle

-- their windows have one length
pub width-same : (cycle : ℕ) (flagged : ℕ → Bool) (one other : List Placed) → SameIn cycle one other → width_in one cycle flagged ≡ width_in other cycle flagged
width-same cycle flagged one other same = grind (arith, sum_where-costs)

module _ (sends : Instance → List ℕ) (layout : CycleLayout) (requests : List Request) (cycle mask : ℕ) where
  abbrev opens : List Placed → Opening
  opens placed = record { cycle = cycle; mask = mask; placed = placed }

  module _ (one other : List Placed) (same : SameIn cycle one other) (past : List TimedFrame) (at : ℕ) (frame : DataFrame) where
    width : width_of (opens one) ≡ width_of (opens other)
    width = width-same cycle (has_bit mask) one other same

    by-slot : (slot : ℕ) → OffersSlot sends layout (opens one) past at frame slot → OffersSlot sends layout (opens other) past at frame slot
    by-slot slot offer = grind (arith, width)

    offered-by : offered_in sends layout requests (opens one) past at frame → offered_in sends layout requests (opens other) past at frame
    offered-by h0 = grind (arith, by-slot)

  agree : (one other : List Placed) → SameIn cycle one other → (past frames : List TimedFrame) (free until : ℕ)
      → AgreeAlong (offered_in sends layout requests (opens one)) (offered_in sends layout requests (opens other)) past past free until frames
  agree one other same past frames free until front back at frame split from before = (
    offered-by one other same (past ++ front) at frame,
    offered-by other one (λ slot. sym (same slot)) (past ++ front) at frame,
  )

  -- frames that follow by what one list offers follow by what the other one does
  pub follows-same : (one other : List Placed) → SameIn cycle one other → (past frames : List TimedFrame) (free until : ℕ)
      → Follows (offered_in sends layout requests (opens one)) past free until frames
      → Follows (offered_in sends layout requests (opens other)) past free until frames
  follows-same one other same past frames free until follows =
      Follows-along (offered_in sends layout requests (opens one)) (offered_in sends layout requests (opens other)) past past free until frames
      (agree one other same past frames free until) follows

-- what a list that stands for another one has in its cycle
pub stands-now : (cycle : ℕ) (whole list : List Placed) → StandsFor cycle whole list → SameIn cycle list whole
stands-now cycle whole list stands slot = stands.instances slot cycle (omega arith)

pub width-stands : (cycle mask : ℕ) (whole list : List Placed) → StandsFor cycle whole list
    → width_in list cycle (has_bit mask) ≡ width_in whole cycle (has_bit mask)
width-stands cycle mask whole list stands = width-same cycle (has_bit mask) list whole (stands-now cycle whole list stands)

pub same-offers : (sends : Instance → List ℕ) (layout : CycleLayout) (requests : List Request) (cycle mask : ℕ) (whole list : List Placed)
    (past frames : List TimedFrame) (free until : ℕ) → StandsFor cycle whole list
    → Follows (offered_in sends layout requests (record { cycle = cycle; mask = mask; placed = list })) past free until frames
    → Follows (offered_in sends layout requests (record { cycle = cycle; mask = mask; placed = whole })) past free until frames
same-offers sends layout requests cycle mask whole list past frames free until stands follows = grind (arith, follows-same, stands-now)
