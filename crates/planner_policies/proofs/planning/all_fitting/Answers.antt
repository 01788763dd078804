use Rattle.std.proofs.Common.{◌≡◌, None, get_or, take}
use Rattle.std.proofs.lemmas.List.{take_all}
use Rattle.requirement_table.specs.declared.entries.Placed.{Placed}
use Rattle.bit_sets.specs.Sets.{has_bit}
use Rattle.planner_policies.specs.Due.{IsDueOf, IsPending}
use Rattle.planner_policies.specs.Plan.{planning_of}
use Rattle.planner_policies.proofs.AllFitting.{IsGathered, gathered-more, gathered-none, gathered-whole}
use Rattle.planner_policies.proofs.Rows.{more-of, stands-in}
use Rattle.planner_policies.proofs.planning.all_fitting.Goals as goal
use Rattle.planner_policies.proofs.planning.all_fitting.Goals.{in-Some+else-w-width, in_default}

abbrev no_entry : Placed
no_entry = record {
  entry = record { slot = 0; node = 0; length = 0; phase = 0; period = 0; deadline = 0; priority = 0 };
  origin = 0;
  end = None;
}

pub loop-row-preserved : goal.loop-row-preserved
loop-row-preserved c =
    let ranked = c.args.ranked.now in
    let plan = planning_of ranked c.args.w c.args.state.now.cycle c.args.state.now.pending in
    let cycle = c.args.state.now.cycle in
    let before = has_bit c.args.state.now.pending in
    let rows = c.rows-rows.result.now in
    let k = c.loop-row.row-index in
    let so_far = c.loop-row.invariant in
    let same = c.rows-rows.ensures.same in
    let well = c.rows-rows.ensures.well_placed in
    let within = c.loop-row-test.true in
    let stands = stands-in ranked.placed rows k no_entry same within in
    elim c.match-due_of.branch [
      | in-Some+else-w-width w ↦
          let due = w.in-Some.due in
          let pending : IsPending ranked.policy before cycle (get_or rows k no_entry) due = rw c.policy.ensures.value at w.in-Some.ensures.pending in
          let more = more-of plan cycle before rows k no_entry so_far.line due well same within stands so_far.found pending in
          rw (w.mask-is, w.width-is)
          (gathered-more plan cycle before rows k no_entry c.loop-row.mask c.loop-row.width w.with-mask.result due within so_far more
          w.if-w-width.false w.with-mask.ensures.slots)
      | in_default w ↦
          let none : IsDueOf ranked.policy before cycle (get_or rows k no_entry) None = w.in_default.ensures.pending in
          rw (w.mask-is, w.width-is)
          (gathered-none plan cycle before rows k no_entry c.loop-row.mask c.loop-row.width well within stands so_far none)
    ]

pub returns : goal.returns
returns c =
    let ranked = c.args.ranked.now in
    let plan = planning_of ranked c.args.w c.args.state.now.cycle c.args.state.now.pending in
    let rows = c.rows-rows.result.now in
    let k = c.loop-row.row-index in
    let all : take k rows ≡ rows = take_all k rows c.loop-row-test.false in
    let done : IsGathered plan c.args.state.now.cycle (has_bit c.args.state.now.pending) rows c.loop-row.mask c.loop-row.width
    = rw all at c.loop-row.invariant in
    record {
      fitting = gathered-whole plan c.args.state.now.cycle c.args.state.now.pending rows c.loop-row.mask c.loop-row.width c.rows-rows.ensures.well_placed
          c.rows-rows.ensures.same c.requires.valid c.known.ensures.below done;
    }
