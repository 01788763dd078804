use Rattle.std.proofs.Common.{◌≡◌, ℕ, List, get_or, sym, subst, inl, ◌∙◌, arith}
use Rattle.std.proofs.lemmas.Bool.{and_from, and_parts, both_ways}
use Rattle.release_wheel.specs.Taking.{IsFirstRow, goes_by}
use Rattle.bit_sets.specs.Sets.{has_bit}
use Rattle.planner_policies.proofs.Shared.{same-read}
use Rattle.release_wheel.proofs.RowPicking.{due-below, only-waiting, own-before, own-first, own-sooner, row-first}
use Rattle.bit_sets.proofs.Shared.{has_bit-none}
use Rattle.release_wheel.proofs.picking.first_due.Goals as goal

pub soonest_row-requires-clause-within : goal.soonest_row-requires-clause-within
soonest_row-requires-clause-within c = grind (arith, due-below)

pub returns-then-always-eq0 : goal.returns-then-always-eq0
returns-then-always-eq0 c = grind (arith, only-waiting)

pub returns-then-waiting-eq0 : goal.returns-then-waiting-eq0
returns-then-waiting-eq0 c = grind (arith, both_ways, has_bit-none, and_from, own-first)

pub returns-then-wheel : goal.returns-then-wheel
returns-then-wheel c =
    let w = c.args.wheel.now in
    let own = c.first-own in
    let before = c.if-wheel.true in
    record {
      first = own-first w c.args.rest c.common-always.result c.requires.due c.common-always.ensures.rows own.result own.ensures.stands own.ensures.none_before
          (λ i in' wait. let later = c.requires.due.soonest_is i wait in inl (omega arith));
    }

pub soonest_row-row-requires-clause-within : goal.soonest_row-row-requires-clause-within
soonest_row-row-requires-clause-within c = grind (arith, and_parts)

-- the row of least last cycle of those that wait
pub returns-then-wheel-index : goal.returns-then-wheel-index
returns-then-wheel-index c =
    let w = c.args.wheel.now in
    let own = c.first-own in
    let row = c.soonest_row-row in
    let P : List ℕ → Type 0 = λ lasts. IsFirstRow (goes_by (λ row. get_or lasts row 0)) (has_bit c.common-waiting.result) row.result in
    let sooner = c.if-wheel-index.true in
    let within = c.requires.room.waiting.below row.result
    (and_parts (has_bit c.args.rest row.result) (has_bit w.dues.waiting.rows row.result) (sym (c.common-waiting.ensures.rows row.result) ∙ row.ensures.first.stands)).1 in
    let size = c.requires.room.lasts in
    let read : c.index.result.now ≡ get_or w.rows.lasts.items row.result 0
    = c.index.ensures ∙ sym (same-read w.rows.lasts.items row.result 0 c.index.result.now (omega arith)) in
    record {
      first = own-sooner w c.args.rest c.common-always.result c.requires.due c.common-always.ensures.rows own.result own.ensures.stands own.ensures.none_before
          c.common-waiting.result row.result c.common-waiting.ensures.rows (subst P c.as_slice-2.ensures.value row.ensures.first) (omega arith);
    }

pub returns-then-own-row : goal.returns-then-own-row
returns-then-own-row c = grind (arith, and_parts, same-read, own-before)

pub returns : goal.returns
returns c =
    let w = c.args.wheel.now in
    let own = c.first-own in
    let row = c.soonest_row-row in
    let P : List ℕ → Type 0 = λ lasts. IsFirstRow (goes_by (λ row. get_or lasts row 0)) (has_bit c.common-waiting.result) row.result in
    let later = c.if-wheel-index.false in
    let before = c.if-own-row.false in
    let within = c.requires.room.waiting.below row.result
    (and_parts (has_bit c.args.rest row.result) (has_bit w.dues.waiting.rows row.result) (sym (c.common-waiting.ensures.rows row.result) ∙ row.ensures.first.stands)).1 in
    let size = c.requires.room.lasts in
    let read : c.index.result.now ≡ get_or w.rows.lasts.items row.result 0
    = c.index.ensures ∙ sym (same-read w.rows.lasts.items row.result 0 c.index.result.now (omega arith)) in
    record {
      first = grind (arith, row-first);
    }
