use Rattle.std.proofs.Common.{rules, ◌≡◌, ◌+◌, ◌-◌, ◌||◌, nat_eq, false, Bool, ℕ, get_or, length, ap, sym, subst, ◌∙◌, arith}
use Rattle.requirement_table.specs.Instance.{worst}
use Rattle.bit_sets.specs.Sets.{has_bit}
use Rattle.release_wheel.specs.Taking.{IsTaking, goes_by, last_of}
use Rattle.release_wheel.specs.Wheel.{cost_at, cost_below, no_entry}
use Rattle.planner_policies.proofs.Shared.{same-read}
use Rattle.release_wheel.proofs.RowPicking.{due-below, due-less}
use Rattle.bit_sets.proofs.Shared.{has_bit-none}
use Rattle.release_wheel.proofs.RowSums.{cost-both}
use Rattle.release_wheel.proofs.RowTaking.{cost-none, nothing-fits, nothing-left, taking-pass, taking-start, taking-take, took}
use Rattle.release_wheel.proofs.picking.pick_rows.Goals as goal

pub loop-rest-init : goal.loop-rest-init
loop-rest-init c =
    let w = c.args.wheel.now in
    taking-start c.args.fill c.args.w (goes_by (last_of w)) w.rows.entries.items c.args.due c.empty-mask.result c.empty-mask.ensures.slots

pub first_due-row-requires-clause-due : goal.first_due-row-requires-clause-due
first_due-row-requires-clause-due c = due-less c.args.wheel.now c.args.due c.loop-rest.rest c.requires.due c.loop-rest.invariant.rest_in

pub index-requires : goal.index-requires
index-requires c = grind (arith, due-below, rules)

pub without-rest-requires : goal.without-rest-requires
without-rest-requires c = grind (arith, due-below)

pub without-rest-requires-else-stops : goal.without-rest-requires-else-stops
without-rest-requires-else-stops c = grind (arith, due-below)

pub with-left-requires : goal.with-left-requires
with-left-requires c = grind (arith, due-below)

pub loop-rest-preserved-then-cost-w : goal.loop-rest-preserved-then-cost-w
loop-rest-preserved-then-cost-w c =
    let l = c.loop-rest in
    let w = c.args.wheel.now in
    let entries = w.rows.entries.items in
    let order = goes_by (last_of w) in
    let row = c.first_due-row.result in
    let first = c.first_due-row.ensures.first in
    let below = due-below w c.args.due c.requires.room c.requires.due in
    let entry : c.index.result.now ≡ get_or entries row no_entry
    = c.index.ensures ∙ sym (same-read entries row no_entry c.index.result.now (below row (l.invariant.rest_in row first.stands))) in
    let cost : c.cost-cost.result ≡ cost_at entries row = c.cost-cost.ensures.worst ∙ ap (λ p. worst p.entry.length) entry in
    let less = c.without-rest.result in
    let small = c.if-cost-w.true in
    let P : ℕ → Type 0 = λ n. IsTaking c.args.fill c.args.w order entries c.args.due less l.left c.with-mask.result (l.width + n) in
    subst P (sym cost)
    (taking-take c.args.fill c.args.w order entries c.args.due l.rest l.left l.mask l.width row l.invariant c.requires.distinct below first less
    c.without-rest.ensures.rows c.with-mask.result (omega arith)
    (λ slot. c.with-mask.ensures.slots slot ∙ ap (λ p. nat_eq slot p.entry.slot || has_bit l.mask slot) entry))

pub returns-then-stops : goal.returns-then-stops
returns-then-stops c =
    let l = c.loop-rest in
    let w = c.args.wheel.now in
    let entries = w.rows.entries.items in
    let order = goes_by (last_of w) in
    let row = c.first_due-row.result in
    let first = c.first_due-row.ensures.first in
    let below = due-below w c.args.due c.requires.room c.requires.due in
    let entry : c.index.result.now ≡ get_or entries row no_entry
    = c.index.ensures ∙ sym (same-read entries row no_entry c.index.result.now (below row (l.invariant.rest_in row first.stands))) in
    let cost : c.cost-cost.result ≡ cost_at entries row = c.cost-cost.ensures.worst ∙ ap (λ p. worst p.entry.length) entry in
    let wide = c.if-cost-w.false in
    record {
      took = took c.args.fill c.args.w order entries c.args.due l.rest l.left l.mask l.width c.both.result l.invariant
          (nothing-fits c.args.fill c.args.w order entries c.args.due l.rest l.left l.mask l.width row l.invariant c.requires.distinct below first
          (c.stops.ensures.prefix c.if-stops.true) (omega arith))
          c.both.ensures.rows (cost-both entries (length entries) l.rest l.left c.both.result l.invariant.apart c.both.ensures.rows) c.known.ensures.below;
    }

pub loop-rest-preserved : goal.loop-rest-preserved
loop-rest-preserved c =
    let l = c.loop-rest in
    let w = c.args.wheel.now in
    let entries = w.rows.entries.items in
    let order = goes_by (last_of w) in
    let row = c.first_due-row.result in
    let first = c.first_due-row.ensures.first in
    let below = due-below w c.args.due c.requires.room c.requires.due in
    let entry : c.index.result.now ≡ get_or entries row no_entry
    = c.index.ensures ∙ sym (same-read entries row no_entry c.index.result.now (below row (l.invariant.rest_in row first.stands))) in
    let cost : c.cost-cost.result ≡ cost_at entries row = c.cost-cost.ensures.worst ∙ ap (λ p. worst p.entry.length) entry in
    let wide = c.if-cost-w.false in
    taking-pass c.args.fill c.args.w order entries c.args.due l.rest l.left l.mask l.width row l.invariant c.requires.distinct below first
    c.without-rest-else-stops.result c.without-rest-else-stops.ensures.rows c.with-left.result (c.stops.ensures.skip c.if-stops.false) (omega arith) c.with-left.ensures.rows

pub returns : goal.returns
returns c =
    let l = c.loop-rest in
    let w = c.args.wheel.now in
    let entries = w.rows.entries.items in
    let ended = c.loop-rest-test.false in
    let empty : l.rest ≡ 0 = omega arith in
    let none : cost_below entries (length entries) l.rest ≡ 0 = ap (cost_below entries (length entries)) empty ∙ cost-none entries (length entries) in
    record {
      took = took c.args.fill c.args.w (goes_by (last_of w)) entries c.args.due l.rest l.left l.mask l.width l.left l.invariant
          (λ dues back of is. nothing-left c.args.fill (c.args.w - l.width) l.rest dues back empty is)
          (λ i. sym (first-false (has_bit l.rest i) (has_bit l.left i) (ap (λ m. has_bit m i) empty ∙ has_bit-none i))) (omega arith) c.known-2.ensures.below;
    }
  where
    first-false : (a b : Bool) → a ≡ false → (a || b) ≡ b
    first-false a b is = grind arith
