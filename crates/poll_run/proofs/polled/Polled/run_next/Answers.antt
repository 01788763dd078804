use Rattle.std.proofs.Common.{List, refl, subst, sym}
use Rattle.can_frame.specs.declared.data_frame.TimedFrame.{TimedFrame}
use Rattle.requirement_table.specs.Table.{IsWellPlaced}
use Rattle.master_core.specs.History.{next_of, placed_of}
use Rattle.master_core.specs.Orders.{StandsFor}
use Rattle.poll_run.proofs.Carrying.{Carries, can-tell, ran-on}
use Rattle.poll_run.proofs.polled.Polled.run_next.Goals as goal

pub run_next-requires-clause-going : goal.run_next-requires-clause-going
run_next-requires-clause-going c =
    let can = c.requires.can in
    (can.0, can.3.plain_trace, c.make_ready.ensures.still.going can.0 can.3.plain_trace can.3.going)

pub carry-requires-clause-well_placed : goal.carry-requires-clause-well_placed
carry-requires-clause-well_placed c =
    subst IsWellPlaced (sym c.placed.ensures.list) c.placed.ensures.stands.well_placed

pub returns-clause-on : goal.returns-clause-on
returns-clause-on c = λ setting streams trace is.
    let run = c.args.self.now in
    let after = record run { bus = c.run_next.new.self; rides = c.carry.new.self; frames = c.carry.new.out } in
    let cycle = c.next-cycle.result in
    let placed = c.placed.result.now in
    ran-on
    (record {
      rides = record { is = c.one_ride.ensures.is; at = c.rides_of_openings.ensures.at; cycles = c.opened_cycles.ensures.cycles };
      opened = c.cycles_run.ensures.opened;
      runs = c.cycles_run.ensures.runs;
      fits = c.cycles_run.ensures.fits;
      whole = c.numbers_are_whole.ensures.whole;
      begin = c.opened_frames.ensures.begin;
      width = c.opened_frames.ensures.width;
      rows = c.rows_appended.ensures.opened;
      counted = c.rows_appended.ensures.counted;
    })
    run c.make_ready.new.self after cycle placed
    (subst (λ (plain : List TimedFrame). Carries run.layout run.rides.queued.streams cycle placed plain after.frames.items run.rides after.rides) c.frames.ensures.list
    (record { taken = c.carry.ensures.taken; fates = c.carry.ensures.fates; frames_are = c.carry.ensures.frames }))
    c.make_ready.ensures.still c.run_next.ensures.on c.run_next.ensures.follows c.next-cycle.ensures.next
    (subst (StandsFor (next_of c.make_ready.new.self.master.history) (placed_of c.make_ready.new.self.master.history)) (sym c.placed.ensures.list) c.run_next.ensures.stands)
    setting streams trace is refl c.carry.ensures.streams c.carry.ensures.slots c.carry.ensures.capacity refl c.run_next.ensures.calls

pub returns-clause-last : goal.returns-clause-last
returns-clause-last c =
    let run = c.args.self.now in
    let after = record run { bus = c.run_next.new.self; rides = c.carry.new.self; frames = c.carry.new.out } in
    let cycle = c.next-cycle.result in
    let placed = c.placed.result.now in
    can-tell
    (record {
      rides = record { is = c.one_ride.ensures.is; at = c.rides_of_openings.ensures.at; cycles = c.opened_cycles.ensures.cycles };
      opened = c.cycles_run.ensures.opened;
      runs = c.cycles_run.ensures.runs;
      fits = c.cycles_run.ensures.fits;
      whole = c.numbers_are_whole.ensures.whole;
      begin = c.opened_frames.ensures.begin;
      width = c.opened_frames.ensures.width;
      rows = c.rows_appended.ensures.opened;
      counted = c.rows_appended.ensures.counted;
    })
    run c.make_ready.new.self after cycle placed
    (subst (λ (plain : List TimedFrame). Carries run.layout run.rides.queued.streams cycle placed plain after.frames.items run.rides after.rides) c.frames.ensures.list
    (record { taken = c.carry.ensures.taken; fates = c.carry.ensures.fates; frames_are = c.carry.ensures.frames }))
    c.make_ready.ensures.still c.run_next.ensures.on c.run_next.ensures.follows c.next-cycle.ensures.next
    (subst (StandsFor (next_of c.make_ready.new.self.master.history) (placed_of c.make_ready.new.self.master.history)) (sym c.placed.ensures.list) c.run_next.ensures.stands)
    c.requires.can
