use Rattle.std.proofs.Common.{rules, ◌≡◌, None, get_or, take}
use Rattle.std.proofs.lemmas.List.{take_all}
use Rattle.requirement_table.specs.declared.entries.Placed.{Placed}
use Rattle.bit_sets.specs.Sets.{has_bit}
use Rattle.planner_policies.specs.Due.{IsDueOf, IsPending}
use Rattle.planner_policies.specs.Plan.{planning_of}
use Rattle.planner_policies.proofs.Rows.{IsLineOf, line_of-more, line_of-none, more-of, room-of, stands-in, whole_line-of}
use Rattle.planner_policies.proofs.planning.line_of.Goals as goal
use Rattle.planner_policies.proofs.planning.line_of.Goals.{in-Some, in_default}

abbrev no_entry : Placed
no_entry = record {
  entry = record { slot = 0; node = 0; length = 0; phase = 0; period = 0; deadline = 0; priority = 0 };
  origin = 0;
  end = None;
}

pub put-requires : goal.put-requires
put-requires g c =
    let ranked = c.args.ranked.now in
    let plan = planning_of ranked c.args.w c.args.state.now.cycle c.args.state.now.pending in
    let cycle = c.args.state.now.cycle in
    let before = has_bit c.args.state.now.pending in
    let rows = c.rows-rows.result.now in
    let k = c.loop-row.row-index in
    let same = c.rows-rows.ensures.same in
    let pending : IsPending ranked.policy before cycle (get_or rows k no_entry) c.in-Some.due = rw c.policy.ensures.value at c.in-Some.ensures.pending in
    let more = more-of plan cycle before rows k no_entry c.loop-row.line c.in-Some.due c.rows-rows.ensures.well_placed same c.loop-row-test.true
    (stands-in ranked.placed rows k no_entry same c.loop-row-test.true) c.loop-row.invariant pending in (
      search rules,
      (
        room-of plan cycle before rows k no_entry c.loop-row.line c.in-Some.due g.row.ROOM c.loop-row.invariant more c.loop-row-test.true same c.requires.room,
        c.loop-row.invariant.lined,
      ),
    )

pub loop-row-preserved : goal.loop-row-preserved
loop-row-preserved g c =
    let ranked = c.args.ranked.now in
    let plan = planning_of ranked c.args.w c.args.state.now.cycle c.args.state.now.pending in
    let cycle = c.args.state.now.cycle in
    let before = has_bit c.args.state.now.pending in
    let rows = c.rows-rows.result.now in
    let k = c.loop-row.row-index in
    let same = c.rows-rows.ensures.same in
    let well = c.rows-rows.ensures.well_placed in
    let within = c.loop-row-test.true in
    let stands = stands-in ranked.placed rows k no_entry same within in
    elim c.match-due_of.branch [
      | in-Some w ↦
          let due = w.in-Some.due in
          let pending : IsPending ranked.policy before cycle (get_or rows k no_entry) due = rw c.policy.ensures.value at w.in-Some.ensures.pending in
          let more = more-of plan cycle before rows k no_entry c.loop-row.line due well same within stands c.loop-row.invariant pending in
          rw w.line-is
          (line_of-more plan cycle before rows k no_entry c.loop-row.line w.put.new.self due within c.loop-row.invariant more w.put.ensures.put)
      | in_default w ↦
          let none : IsDueOf ranked.policy before cycle (get_or rows k no_entry) None = w.in_default.ensures.pending in
          rw w.line-is (line_of-none plan cycle before rows k no_entry c.loop-row.line well within stands c.loop-row.invariant none)
    ]

pub returns : goal.returns
returns g c =
    let ranked = c.args.ranked.now in
    let plan = planning_of ranked c.args.w c.args.state.now.cycle c.args.state.now.pending in
    let cycle = c.args.state.now.cycle in
    let rows = c.rows-rows.result.now in
    let k = c.loop-row.row-index in
    let all : take k rows ≡ rows = take_all k rows c.loop-row-test.false in
    let done : IsLineOf plan cycle (has_bit c.args.state.now.pending) rows c.loop-row.line = rw all at c.loop-row.invariant in
    record {
      line = whole_line-of plan cycle c.args.state.now.pending rows c.loop-row.line c.rows-rows.ensures.well_placed c.rows-rows.ensures.same
          c.requires.valid done;
    }
