use Rattle.std.proofs.Common.{◌+◌, ◌<◌, Some, arith}
use Rattle.recurrence_check.specs.Keys.{table}
use Rattle.recurrence_check.proofs.Places.{long-pushed, meets-pushed, sparse-pushed}
use Rattle.recurrence_check.proofs.Stretched.{run-next}
use Rattle.recurrence_check.proofs.by_keys.append.Goals as goal

pub loop-behind-preserved : goal.loop-behind-preserved
loop-behind-preserved c =
    let old = c.loop-behind.row.items in
    let new = c.push_reserved.new.self.items in
    let mark = c.args.mark in
    let n = c.loop-behind.behind in
    let so = c.loop-behind.invariant in
    let near : c.args.place + n < 100000 = omega (arith, c.loop-behind-test.true, c.requires.short) in
    record {
      long = omega (arith, long-pushed old new (Some (mark, c.args.steps + n)) (c.args.place + n) so.long c.push_reserved.ensures.items);
      room = omega (arith, c.push_reserved.ensures.len, c.push_reserved.ensures.capacity, so.room);
      met = λ others sparse.
          run-next (table c.args.row.now.items others) (table old others) (table new others) (Some (mark, c.args.place)) c.args.steps n (so.met others sparse)
          (meets-pushed old new others mark (c.args.place + n) (c.args.steps + n) (so.sparse others sparse) so.long near c.push_reserved.ensures.items);
      sparse = λ others sparse.
          sparse-pushed old new others mark (c.args.place + n) (c.args.steps + n) (so.sparse others sparse) so.long near c.push_reserved.ensures.items;
    }
