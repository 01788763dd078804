use Rattle.std.proofs.Common.{[]}
use Rattle.replay_run.specs.Run.{setting_of}
use Rattle.poll_run.specs.PolledRun.{polled_setting}
use Rattle.poll_run.proofs.Begun.{BegunLaws, all-under_way, begun-history, begun-rides, begun-under_way, known-setting}
use Rattle.poll_run.proofs.laws.beginnings.Goals as goal

pub returns-clause-history : goal.returns-clause-history
returns-clause-history c = begun-history (record {
  events = c.beginnings.ensures.events;
  cycles = c.opened_cycles.ensures.cycles;
  at = c.rides_of_openings.ensures.at;
  sound = c.instances_of_a_slot.ensures.sound;
  whole = c.numbers_are_whole.ensures.whole;
  under_way = c.legal_runs.ensures.under_way;
})

pub returns-clause-rides : goal.returns-clause-rides
returns-clause-rides c = λ system steps streams history whole carried again trace frames begun run.
    let laws : BegunLaws = record {
      events = c.beginnings.ensures.events;
      cycles = c.opened_cycles.ensures.cycles;
      at = c.rides_of_openings.ensures.at;
      sound = c.instances_of_a_slot.ensures.sound;
      whole = c.numbers_are_whole.ensures.whole;
      under_way = c.legal_runs.ensures.under_way;
    } in
    let (later, split) = begun-history laws system steps streams history whole carried again trace frames begun run in
    begun-rides laws system steps streams history whole carried again trace frames begun run later split

pub returns-clause-trace : goal.returns-clause-trace
returns-clause-trace c = λ system steps streams history whole carried again trace frames is begun run.
    let laws : BegunLaws = record {
      events = c.beginnings.ensures.events;
      cycles = c.opened_cycles.ensures.cycles;
      at = c.rides_of_openings.ensures.at;
      sound = c.instances_of_a_slot.ensures.sound;
      whole = c.numbers_are_whole.ensures.whole;
      under_way = c.legal_runs.ensures.under_way;
    } in
    let (later, split) = begun-history laws system steps streams history whole carried again trace frames begun run in
    let way = begun-under_way laws system steps streams history whole carried again trace frames begun run later split is in
    let all_way = all-under_way laws system steps streams history whole carried again trace frames begun run later split is in
    c.legal_runs.ensures.front (polled_setting (setting_of system []) streams again) history later trace frames
    (known-setting laws system steps streams history whole carried again trace frames begun run later split is) way all_way.legal all_way.can_trace
