use Rattle.std.proofs.Common.{suc, ◌+◌, ◌*◌, ◌-◌, ◌/◌, ◌^◌, ◌<◌, ◌≤◌, length, get_or, refl, arith}
use Rattle.async_window.proofs.Trees.{IsMendedTo, IsMendedTo-above, IsMendedTo-top, mended-inner}
use Rattle.async_window.proofs.tournament.mend.Goals as goal
use Rattle.async_window.proofs.tournament.mend.Goals.{In-loop}

pub loop-init : goal.loop-init
loop-init c rest is = grind arith

-- where the loop stands
standing : (c : In-loop)
    → IsMendedTo c.args.levels (suc (c.args.levels - c.loop.counter - 1)) c.loop.node c.loop.least c.args.nodes.now c.loop.nodes
standing c = c.loop.invariant (suc (c.args.levels - c.loop.counter - 1)) (omega (arith, c.loop-test.true))

inner : (c : In-loop) → (1 ≤ c.loop.node / 2) × (2 * (c.loop.node / 2) + 1 < length c.loop.nodes)
    × (c.loop.node / 2 < 2 ^ c.args.levels) × (length c.loop.nodes ≤ 4096)
inner c =
    mended-inner c.args.levels (c.args.levels - c.loop.counter - 1) c.loop.node c.loop.least c.args.nodes.now c.loop.nodes
    (standing c) (omega (arith, c.loop-test.true))

pub overflow_mul-above : goal.overflow_mul-above
overflow_mul-above c = omega (arith, inner c)

pub overflow_add-above : goal.overflow_add-above
overflow_add-above c = omega (arith, inner c)

pub offset_bounds-nodes-above : goal.offset_bounds-nodes-above
offset_bounds-nodes-above c = omega (arith, inner c)

pub bounds-nodes-above : goal.bounds-nodes-above
bounds-nodes-above c = omega (arith, inner (goal.at.bounds-nodes-above c).In-loop)

pub offset_bounds-nodes-above-in-loop : goal.offset_bounds-nodes-above-in-loop
offset_bounds-nodes-above-in-loop c = omega (arith, inner (goal.at.offset_bounds-nodes-above-in-loop c).In-loop)

pub bounds-nodes-above-in-loop : goal.bounds-nodes-above-in-loop
bounds-nodes-above-in-loop c = omega (arith, inner (goal.at.bounds-nodes-above-in-loop c).In-loop)

pub loop-preserved : goal.loop-preserved
loop-preserved c rest is =
    IsMendedTo-above c.args.levels rest c.loop.node c.loop.least c.args.nodes.now c.loop.nodes (c.loop.invariant (suc rest) (omega (arith, is)))
    (omega (arith, is)) (get_or c.loop.nodes (4 * (c.loop.node / 2) + 1 - c.loop.node) 0) c.min-least.result refl c.min-least.ensures

pub returns-then-nodes-above : goal.returns-then-nodes-above
returns-then-nodes-above c =
    let has = standing (goal.at.returns-then-nodes-above c).In-loop in
    record {
      tree = grind arith;
      leaves = has.leaves;
    }

pub returns : goal.returns
returns c =
    let has = c.loop.invariant 0 (omega (arith, c.loop-test.false, c.loop.auto)) in
    record {
      tree = IsMendedTo-top c.args.levels c.loop.node c.loop.least c.args.nodes.now c.loop.nodes has;
      leaves = has.leaves;
    }
