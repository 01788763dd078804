use Rattle.std.proofs.Common.{◌≡◌, ◌*◌, ◌^◌, ◌≤◌, take}
use Rattle.std.specs.Prelude.{count_by}
use Rattle.std.specs.List.{sum_by}
use Rattle.fttcan_top.specs.Summary.{is_asynchronous, is_synchronous}
use Rattle.fttcan_top.proofs.summary.counted.Given as goal

abbrev pub invariant-loop-sent : goal.invariant-loop-sent
invariant-loop-sent l = record {
  synchronous : l.synchronous ≡ count_by is_synchronous (take l.sent-index l.trace);
  asynchronous : l.asynchronous ≡ count_by is_asynchronous (take l.sent-index l.trace);
  busy : l.busy ≡ sum_by (λ sent. sent.len) (take l.sent-index l.trace);
  few : l.synchronous ≤ l.sent-index;
  few_others : l.asynchronous ≤ l.sent-index;
  small : l.busy ≤ l.sent-index * 2 ^ 32;
}
