-- The next instance of the entry takes the place of the known one.
use Rattle.std.proofs.Common.{◌+◌, ◌%◌, ◌^◌, ◌<◌, get_or, length, refl, ap, arith}
use Rattle.node_model.specs.Kept.{IsSlotReady}
use Rattle.node_model.proofs.Ready.{at-place, next-ready, one-ready, unknown}
use Rattle.node_model.proofs.entries.turn.Goals as goal

pub returns-clause-ready : goal.returns-clause-ready
returns-clause-ready c = λ entries before.
    let slots = c.args.ready.now in
    let place = c.from-place.result in
    let within : place < length slots = omega (arith, c.told-ready, c.from-place.ensures, c.requires.slot) in
    let found = get_or slots place unknown in
    one-ready entries slots place _
    (next-ready entries place found (found.release + c.from-period.result) ((found.number + 1) % 2 ^ 64) c.args.cycle
    (at-place (IsSlotReady entries place) slots place unknown within (before place))
    (ap (λ n. found.release + n) c.from-period.ensures) refl (omega (arith, c.ranges.cycle)) (c.if-not-is_sendable.ensures.sendable refl))
    before
