use Rattle.std.proofs.Common.{nat_le, ◌≡◌, ◌||◌, ◌∙◌, ap, sym, subst, ℕ, arith, length}
use Rattle.release_wheel.specs.Taking.{IsTaking}
use Rattle.bit_sets.specs.Sets.{has_bit}
use Rattle.bit_sets.specs.Rows.{rows_left}
use Rattle.release_wheel.proofs.RowSums.{cost-both}
use Rattle.release_wheel.proofs.RowTaking.{nothing-left, taking-start, took}
use Rattle.bit_sets.proofs.Shared.{high-set, low-set, none-left}
use Rattle.release_wheel.proofs.taking.take_rows.Goals as goal

pub take_word-low-requires-clause-taking : goal.take_word-low-requires-clause-taking
take_word-low-requires-clause-taking c =
    let P : ℕ → Type 0 = λ rest. IsTaking c.args.fill c.args.w nat_le c.args.entries.now c.args.due rest 0 c.empty.result 0 in
    subst P (sym c.rest_of.ensures.rows) (taking-start c.args.fill c.args.w nat_le c.args.entries.now c.args.due c.empty.result c.empty.ensures.slots)

pub take_word-high-requires-clause-taking : goal.take_word-high-requires-clause-taking
take_word-high-requires-clause-taking c = grind arith

pub returns-then-low-ne0 : goal.returns-then-low-ne0
returns-then-low-ne0 c =
    let last = c.take_word-low.result in
    let ends = c.take_word-low.ensures in
    let entries = c.args.entries.now in
    let rest = rows_left last.rest in
    let some = c.if-low-ne0.true in
    let is = c.of_words.ensures.set ∙ low-set last.rest (ends.base ∙ c.rest_of.ensures.low) in
    let rows : (i : ℕ) → has_bit c.both.result i ≡ (has_bit rest i || has_bit last.left i)
    = λ i. c.both.ensures.rows i ∙ ap (λ set'. has_bit set' i || has_bit last.left i) is in
    record {
      took = took c.args.fill c.args.w nat_le entries c.args.due rest last.left last.mask last.width c.both.result ends.taking (ends.stops (omega arith)) rows
          (cost-both entries (length entries) rest last.left c.both.result ends.taking.apart rows) c.known.ensures.below;
    }

pub returns : goal.returns
returns c =
    let last = c.take_word-high.result in
    let ends = c.take_word-high.ensures in
    let entries = c.args.entries.now in
    let rest = rows_left last.rest in
    let behind = ends.behind ∙ c.next_word.ensures.last in
    let is = c.of_words-2.ensures.set ∙ high-set last.rest (ends.base ∙ c.next_word.ensures.high) behind in
    let rows : (i : ℕ) → has_bit c.both-2.result i ≡ (has_bit rest i || has_bit last.left i)
    = λ i. c.both-2.ensures.rows i ∙ ap (λ set'. has_bit set' i || has_bit last.left i) is in
    record {
      took = took c.args.fill c.args.w nat_le entries c.args.due rest last.left last.mask last.width c.both-2.result ends.taking
          (λ dues back of is. grind (arith, nothing-left, none-left))
          rows (cost-both entries (length entries) rest last.left c.both-2.result ends.taking.apart rows) c.known-2.ensures.below;
    }
