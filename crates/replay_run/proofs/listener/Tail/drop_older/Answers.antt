use Rattle.std.proofs.Common.{arith, ap, refl}
use Rattle.bus_trace.specs.declared.gathering.Gathered.{Gathered}
use Rattle.replay_run.proofs.Tails.{WholeRows, holds-newer}
use Rattle.replay_run.proofs.listener.Tail.drop_older.Goals as goal

pub returns-clause-kept : goal.returns-clause-kept
returns-clause-kept c =
    let whole = c.rows_are_whole.ensures in
    let laws : WholeRows = record { both = whole.both; counted = whole.counted; tails = whole.tails; same = whole.same; enough = whole.enough } in
    let enough = c.if-self.false in
    λ past has.
    holds-newer laws past c.args.self.now
    (record { older = c.swap.new.x; newer = record { text = c.clear.new.self; faults = c.swap.new.y.faults }; count = 0; most = c.args.self.now.most })
    (ap (λ (g : Gathered). g.text.items) c.swap.ensures.x_after) c.clear.ensures.items refl refl (omega (arith, enough)) has
