use Rattle.std.proofs.Common.{◌≡◌, ℕ, suc, ◌+◌, ◌-◌, ◌<◌, ◌∙◌, ap, length, get_or, rules, arith}
use Rattle.std.proofs.lemmas.List.{get_or_default}
use Rattle.bit_sets.specs.Sets.{has_bit, most_slots}
use Rattle.plan_check.specs.Breaches.{IsBreach, is_flagged}
use Rattle.plan_check.proofs.CycleSteps.{IsCycle, cycle-of, good-more, mask-at}
use Rattle.plan_check.proofs.CycleSteps.{mask-flags, step-breach, step-good, step-held}
use Rattle.plan_check.proofs.checking.check_block.Goals as goal
use Rattle.plan_check.proofs.checking.check_block.Goals.{After-index-block-index-in-loop-i}

pub check_cycle-requires-clause-ends : goal.check_cycle-requires-clause-ends
check_cycle-requires-clause-ends c = λ s known.
    let i = c.loop-i.i in
    let ends = c.args.block.now.ends in
    let count : length ends ≡ 256 = search rules in
    let few = c.requires.few in
    let below = c.loop-i-test.true in
    ap (λ n. has_bit n s) (get_or_default ends i c.index-block-index-in-loop-i.result 0 (omega arith))
    ∙ (c.requires.filled s known).ends i below

-- where the cycle's sets are read: what they say of the cycle is what the certificate's words say
module _ (c : After-index-block-index-in-loop-i) where
  abbrev number : ℕ
  number = c.args.cycle + c.loop-i.i - c.args.certificate.now.from

  in-masks : number < length c.args.certificate.now.masks
  in-masks = omega (arith, c.requires.few, c.loop-i-test.true, c.requires.after, c.requires.within)

  sets : IsCycle c.args.placed.now (c.args.cycle + c.loop-i.i)
      (get_or c.args.block.now.released c.loop-i.i c.index-block-index.result)
      (get_or c.args.block.now.ends c.loop-i.i c.index-block-index-in-loop-i.result) c.args.block.now.costs
  sets =
      let block = c.args.block.now in
      let i = c.loop-i.i in
      let below = c.loop-i-test.true in
      let few = c.requires.few in
      let released_count : length block.released ≡ 256 = search rules in
      let ends_count : length block.ends ≡ 256 = search rules in
      cycle-of c.args.placed.now c.args.cycle c.args.count i (get_or block.released i c.index-block-index.result)
      (get_or block.ends i c.index-block-index-in-loop-i.result) block c.requires.filled below
      (get_or_default block.released i c.index-block-index.result 0 (omega arith))
      (get_or_default block.ends i c.index-block-index-in-loop-i.result 0 (omega arith))

  flags : (s : ℕ) → s < most_slots → has_bit c.index-masks-cycle.result s
      ≡ is_flagged c.args.certificate.now number s
  flags s h0 = grind (arith, mask-flags, in-masks, mask-at)

pub returns-in_err-left-clause-breach : goal.returns-in_err-left-clause-breach
returns-in_err-left-clause-breach c =
    let at = (goal.at.returns-in_err-left-clause-breach c).After-index-block-index-in-loop-i in
    let placed = c.args.placed.now in
    let certificate = c.args.certificate.now in
    let block = c.args.block.now in
    let i = c.loop-i.i in
    let after = c.requires.after in
    let found : IsBreach placed c.args.w certificate c.in_err-left.field-0.0
    = step-breach placed c.args.w certificate (number at) (c.args.cycle + i)
    (get_or block.released i c.index-block-index.result)
    (get_or block.ends i c.index-block-index-in-loop-i.result) c.loop-i.left c.index-masks-cycle.result block.costs
    c.requires.well_placed c.requires.pending (omega arith) (sets at) c.loop-i.invariant.held (flags at)
    c.loop-i.invariant.good c.in_err-left.field-0.0 c.requires.rounds (in-masks at) c.in_err-left.ensures.breach in
    search (rules, found)

pub loop-i-preserved : goal.loop-i-preserved
loop-i-preserved c =
    let at = (goal.at.loop-i-preserved c).After-index-block-index-in-loop-i in
    let placed = c.args.placed.now in
    let certificate = c.args.certificate.now in
    let block = c.args.block.now in
    let i = c.loop-i.i in
    let after = c.requires.after in
    let released = get_or block.released i c.index-block-index.result in
    let ends = get_or block.ends i c.index-block-index-in-loop-i.result in
    let flagged = c.index-masks-cycle.result in
    let next : c.args.cycle + (i + 1) - certificate.from ≡ suc (number at) = omega arith in
    record {
      held = rw next
          (step-held placed c.args.w certificate (number at) (c.args.cycle + i) released ends c.loop-i.left flagged
          block.costs
          c.requires.well_placed c.requires.pending (omega arith) (sets at) c.loop-i.invariant.held (flags at)
          c.loop-i.invariant.good c.in_ok-left.left c.in_ok-left.ensures.held);
      good = rw next
          (good-more placed c.args.w certificate (number at) c.loop-i.invariant.good
          (step-good placed c.args.w certificate (number at) (c.args.cycle + i) released ends c.loop-i.left flagged
          block.costs
          c.requires.well_placed c.requires.pending (omega arith) (sets at) c.loop-i.invariant.held (flags at)
          c.loop-i.invariant.good c.in_ok-left.ensures.good));
    }
