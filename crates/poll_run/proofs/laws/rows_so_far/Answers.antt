use Rattle.std.proofs.Common.{◌≡◌, ℕ, ◌++◌, List, [], sym, subst}
use Rattle.master_core.specs.declared.event.Event.{Event}
use Rattle.bus_trace.specs.Log.{events_rows, log_text}
use Rattle.replay_run.specs.Run.{setting_of}
use Rattle.poll_run.specs.PolledRun.{polled_setting}
use Rattle.poll_run.proofs.Begun.{BegunLaws, all-under_way, begun-history, begun-under_way, known-setting}
use Rattle.poll_run.proofs.laws.rows_so_far.Goals as goal

pub returns : goal.returns
returns c = record {
  front = λ system steps streams history whole carried again trace frames is begun run.
      let laws : BegunLaws = record {
        events = c.beginnings.ensures.events;
        cycles = c.opened_cycles.ensures.cycles;
        at = c.rides_of_openings.ensures.at;
        sound = c.instances_of_a_slot.ensures.sound;
        whole = c.numbers_are_whole.ensures.whole;
        under_way = c.legal_runs.ensures.under_way;
      } in
      let (later, split) = begun-history laws system steps streams history whole carried again trace frames begun run in
      let way = begun-under_way laws system steps streams history whole carried again trace frames begun run later split is in
      let all_way = all-under_way laws system steps streams history whole carried again trace frames begun run later split is in
      let known = known-setting laws system steps streams history whole carried again trace frames begun run later split is in
      subst (λ (h : List Event). (rest : List ℕ) × (log_text h frames ≡ events_rows trace [] history ++ rest)) (sym split)
      (c.rows_of_fronts.ensures.front (polled_setting (setting_of system []) streams again) history later trace frames known way all_way);
}
