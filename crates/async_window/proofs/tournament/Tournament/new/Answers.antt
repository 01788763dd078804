use Rattle.std.proofs.Common.{◌≡◌, ℕ, ◌*◌, ◌^◌, ◌<◌, length, get_or, arith}
use Rattle.async_window.specs.Tournament.{never}
use Rattle.async_window.proofs.Trees.{numbers-length, numbers-never}
use Rattle.async_window.proofs.tournament.Tournament.new.Goals as goal
use Rattle.async_window.proofs.tournament.Tournament.new.Goals.{In_ok-nodes}

is-long : (c : In_ok-nodes) → length c.in_ok-nodes.nodes.items ≡ 2 * 2 ^ c.levels_for-levels.result
is-long c = omega (arith, c.in_ok-nodes.ensures.length, c.leaves_of.ensures)

is-never : (c : In_ok-nodes) (node : ℕ) → node < 2 * 2 ^ c.levels_for-levels.result → get_or c.in_ok-nodes.nodes.items node 0 ≡ never
is-never c node below = c.in_ok-nodes.ensures.nothing node (omega (arith, c.leaves_of.ensures))

pub invariant_of-result : goal.invariant_of-result
invariant_of-result c = grind (arith, is-long, is-never)

pub returns : goal.returns
returns c = grind (arith, is-long, is-never, numbers-length, numbers-never)
