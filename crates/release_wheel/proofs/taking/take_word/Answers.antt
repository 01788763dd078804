use Rattle.std.proofs.Common.{nat_le, ◌≡◌, ◌+◌, ◌∙◌, sym, subst, ℕ, arith}
use Rattle.release_wheel.specs.Taking.{IsTaking}
use Rattle.release_wheel.specs.Wheel.{cost_at}
use Rattle.bit_sets.specs.Rows.{rows_left}
use Rattle.release_wheel.proofs.RowTaking.{first-row, nothing-fits, taking-pass, taking-take}
use Rattle.release_wheel.proofs.taking.take_word.Goals as goal

pub loop-rest-preserved-then-cost-w : goal.loop-rest-preserved-then-cost-w
loop-rest-preserved-then-cost-w c =
    let l = c.loop-rest in
    let row = c.first_left-row.result in
    let first = c.first_left-row.ensures in
    let less = c.without_first-rest in
    let entries = c.args.entries.now in
    let cost : c.cost-cost.result ≡ cost_at entries row = c.cost-cost.ensures.worst in
    let P : ℕ → Type 0 = λ n. IsTaking c.args.fill c.args.w nat_le entries c.args.due (rows_left less.result) l.left c.with-mask.result (l.width + n) in
    let small = c.if-cost-w.true in
    record {
      taking = subst P (sym cost)
          (taking-take c.args.fill c.args.w nat_le entries c.args.due (rows_left l.rest) l.left l.mask l.width row l.invariant.taking c.requires.distinct
          c.requires.within (first-row (rows_left l.rest) row first.stands first.none_before)
          (rows_left less.result) (less.ensures.rows row first.stands first.none_before) c.with-mask.result (omega arith) c.with-mask.ensures.slots);
      base = less.ensures.base ∙ l.invariant.base;
      behind = less.ensures.behind ∙ l.invariant.behind;
    }

pub returns-then-stops-clause-stops : goal.returns-then-stops-clause-stops
returns-then-stops-clause-stops c = λ some dues back of is.
    let l = c.loop-rest in
    let row = c.first_left-row.result in
    let first = c.first_left-row.ensures in
    let entries = c.args.entries.now in
    let cost : c.cost-cost.result ≡ cost_at entries row = c.cost-cost.ensures.worst in
    let wide = c.if-cost-w.false in
    nothing-fits c.args.fill c.args.w nat_le entries c.args.due (rows_left l.rest) l.left l.mask l.width row l.invariant.taking c.requires.distinct
    c.requires.within (first-row (rows_left l.rest) row first.stands first.none_before) (c.stops.ensures.prefix c.if-stops.true) (omega arith) dues back of is

pub loop-rest-preserved : goal.loop-rest-preserved
loop-rest-preserved c =
    let l = c.loop-rest in
    let row = c.first_left-row.result in
    let first = c.first_left-row.ensures in
    let less = c.without_first-rest-else-stops in
    let entries = c.args.entries.now in
    let cost : c.cost-cost.result ≡ cost_at entries row = c.cost-cost.ensures.worst in
    let wide = c.if-cost-w.false in
    record {
      taking = taking-pass c.args.fill c.args.w nat_le entries c.args.due (rows_left l.rest) l.left l.mask l.width row l.invariant.taking
          c.requires.distinct c.requires.within (first-row (rows_left l.rest) row first.stands first.none_before) (rows_left less.result)
          (less.ensures.rows row first.stands first.none_before) c.with-left.result (c.stops.ensures.skip c.if-stops.false) (omega arith)
          c.with-left.ensures.rows;
      base = less.ensures.base ∙ l.invariant.base;
      behind = less.ensures.behind ∙ l.invariant.behind;
    }

pub returns-clause-stops : goal.returns-clause-stops
returns-clause-stops c = λ some dues back of is. absurd (let ended = c.loop-rest-test.false in omega arith)

pub bounds-entries-row : goal.bounds-entries-row
bounds-entries-row c = c.requires.within c.first_left-row.result (c.loop-rest.invariant.taking.rest_in c.first_left-row.result c.first_left-row.ensures.stands)
