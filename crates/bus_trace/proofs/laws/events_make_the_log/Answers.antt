use Rattle.std.proofs.Common.{◌++◌, ◌∷◌, [], ap}
use Rattle.master_core.specs.History.{next_of}
use Rattle.bus_trace.specs.Log.{end_row}
use Rattle.log_reader.specs.declared.row.LogRow.TheVariants.{End}
use Rattle.bus_trace.proofs.EventByEvent.{all-events, all-events-told}
use Rattle.bus_trace.proofs.laws.events_make_the_log.Goals as goal

pub returns : goal.returns
returns c = record {
  rows = λ trace history says. ap (λ l. l ++ end_row (next_of history)) (all-events trace [] history says);
  values = λ trace history says. ap (λ l. l ++ End (next_of history) ∷ []) (all-events-told trace [] history says);
}
