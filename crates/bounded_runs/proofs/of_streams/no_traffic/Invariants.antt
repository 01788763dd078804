use Rattle.std.proofs.Common.{◌≡◌, ℕ, ◌<◌, [], length, get_or}
use Rattle.bounded_runs.specs.declared.of_streams.Traffic.{Traffic}
use Rattle.bounded_runs.proofs.of_streams.no_traffic.Given as goal

abbrev pub invariant-loop : goal.invariant-loop
invariant-loop l = record {
  count : length l.all.items ≡ l.counter;
  none : (id : ℕ) (d : Traffic) → id < l.counter → ((get_or l.all.items id d).streams.items ≡ []) × ((get_or l.all.items id d).arrived.items ≡ []);
}
