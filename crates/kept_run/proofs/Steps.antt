-- The steps of a run: it begins, calls are answered, cycles are opened and run; and what it keeps.
use Rattle.std.proofs.Common.{◌≡◌, ℕ, ◌+◌, ◌*◌, false, List, [], ◌∷◌, ◌++◌, sym, ap, ◌∙◌, arith}
use Rattle.can_frame.specs.declared.data_frame.TimedFrame.{TimedFrame}
use Rattle.cycle_layout.specs.Layout.{CycleLayout}
use Rattle.requirement_table.specs.declared.entries.Placed.{Placed}
use Rattle.requirement_table.specs.Opening.{Opening}
use Rattle.requirement_table.specs.Table.{IsWellPlaced}
use Rattle.planner_policies.specs.Plan.{NeverMisses, mask_at}
use Rattle.admission_rules.specs.declared.Rules.{Rules}
use Rattle.master_core.specs.declared.event.Event.{Event}
use Rattle.master_core.specs.declared.event.Event.TheVariants.{Open}
use Rattle.master_core.specs.History.{IsLegal, is_open, next_of, placed_of, plan_of}
use Rattle.master_core.specs.Openings.{openings_of}
use Rattle.bus_line.specs.Trace.{Follows}
use Rattle.cycle_engine.specs.Cycle.{FitsWindow, FollowsTrace, RunsCycle}
use Rattle.cycle_engine.specs.Offered.{SendsWhole, offered_in}
use Rattle.cycle_engine.proofs.Shared.{more-can_trace, more-cycles, more-ended, more-runs, one-can_trace}
use Rattle.kept_run.specs.Kept.{Kept}
use Rattle.kept_run.specs.Progress.{IsUnderWay}
use Rattle.kept_run.specs.Setting.{IsSetting, Setting}
use Rattle.kept_run.specs.Served.{ForgetsEnds}
use Rattle.kept_run.proofs.Histories.{legal-but_last, next_of-closed, next_of-push, openings_of-closed, openings_of-push}
use Rattle.kept_run.proofs.Opened.{opened-legal}
use Rattle.kept_run.proofs.Plans.{mask-fits, mask-sendable}
use Rattle.kept_run.proofs.Served.{IsRunOf, all_guarded, all_served, no_strangers}

-- Nothing was called

pub begins : (setting : Setting) → IsUnderWay setting [] []
begins setting = grind arith

-- A call that opens no cycle

pub answered : (setting : Setting) (trace : List TimedFrame) (history : List Event) (event : Event) → is_open event ≡ false
    → IsLegal setting.rules (history ++ event ∷ []) → IsUnderWay setting history trace → IsUnderWay setting (history ++ event ∷ []) trace
answered setting trace history event closed legal way = grind (arith, openings_of-closed, next_of-closed)

-- A cycle is opened and run

-- the flagged slots of the plan have instances to send, and fit the window
fits-window : (rules : Rules) (layout : CycleLayout) (placed : List Placed) (cycle mask : ℕ) → IsWellPlaced placed → NeverMisses (plan_of rules placed)
    → rules.window ≡ layout.window → mask ≡ mask_at (plan_of rules placed) cycle → FitsWindow layout (record { cycle = cycle; mask = mask; placed = placed })
fits-window rules layout placed cycle mask well in_time window is = grind (arith, mask-sendable, mask-fits)

-- a cycle that is opened right after a legal history
module _ (setting : Setting) (history : List Event) (cycle mask : ℕ)
    (known : IsSetting setting) (legal : IsLegal setting.rules (history ++ Open cycle mask ∷ [])) where
  abbrev opening : Opening
  opening = record { cycle = cycle; mask = mask; placed = placed_of history }

  abbrev openings : List Opening
  openings = openings_of history

  so_far : IsLegal setting.rules history
  so_far = (legal-but_last setting.rules history (Open cycle mask) legal).0

  now : cycle ≡ next_of history
  now = (legal-but_last setting.rules history (Open cycle mask) legal).1.0

  pub opened-fits : FitsWindow setting.layout opening
  opened-fits =
      let right = (legal-but_last setting.rules history (Open cycle mask) legal).1 in
      let by = opened-legal setting.rules history so_far in
      fits-window setting.rules setting.layout (placed_of history) cycle mask by.well by.in_time known.same_window right.1

  module _ (whole : SendsWhole setting.sends) (trace frames : List TimedFrame)
      (way : IsUnderWay setting history trace)
      (follows : Follows (offered_in setting.sends setting.layout setting.requests opening) trace (cycle * setting.layout.cycle) ((cycle + 1) * setting.layout.cycle) frames) where
    behind : FollowsTrace setting.sends setting.layout setting.requests openings opening trace frames
    behind = grind (arith, now, opened-legal, so_far)

    pub opened-runs : RunsCycle setting.sends setting.layout opening frames
    opened-runs = more-runs setting.sends setting.layout setting.requests openings opening trace frames known.known behind whole known.asynchronous opened-fits

    pub opened : IsUnderWay setting (history ++ Open cycle mask ∷ []) (trace ++ frames)
    opened =
        let more : openings_of (history ++ Open cycle mask ∷ []) ≡ openings ++ opening ∷ [] = openings_of-push history (Open cycle mask) in
        let next : next_of (history ++ Open cycle mask ∷ []) ≡ cycle + 1 = next_of-push history (Open cycle mask) ∙ ap (λ n. n + 1) (sym now) in
        let can_trace = more-can_trace setting.sends setting.layout setting.requests openings opening trace frames known.known behind in
        let ended = more-ended setting.sends setting.layout setting.requests openings opening trace frames known.known behind whole known.asynchronous opened-fits in
        let run = more-cycles setting.sends setting.layout setting.requests openings opening trace frames known.known behind whole known.asynchronous opened-fits way.cycles in
        grind arith

-- A run that is under way keeps what is promised

pub keeps : (setting : Setting) (history : List Event) (trace : List TimedFrame)
    → IsSetting setting → ForgetsEnds setting.sends → IsUnderWay setting history trace → Kept setting history trace
keeps setting history trace known forgets way =
    let by = opened-legal setting.rules history way.legal in
    let run : IsRunOf setting.sends setting.rules setting.layout (placed_of history) (next_of history) (openings_of history) trace =
    record { some_time = omega arith; opened = by; within = way.can_trace.within; cycles = way.cycles } in
    record {
      legal = way.legal;
      can_trace = way.can_trace;
      only_trace = λ other is.
          one-can_trace setting.sends setting.layout setting.requests (openings_of history) (next_of history) other trace known.known known.asynchronous by.each_once is way.can_trace;
      served = all_served setting.sends setting.rules setting.layout (placed_of history) (next_of history) (openings_of history) trace run forgets;
      no_strangers = no_strangers setting.sends setting.rules setting.layout (placed_of history) (next_of history) (openings_of history) trace run;
      guarded = all_guarded setting.sends setting.rules setting.layout (placed_of history) (next_of history) (openings_of history) trace run;
    }
