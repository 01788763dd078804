use Rattle.std.proofs.Common.{◌≡◌, length, arith}
use Rattle.async_window.proofs.Soonest.{IsSoonest-more, IsSoonest-none}
use Rattle.async_window.proofs.firsts.next_of.Goals as goal

pub loop-place-init : goal.loop-place-init
loop-place-init c = IsSoonest-none c.args.boxes.now c.args.window.opened c.args.window.closed c.args.at

pub loop-place-preserved : goal.loop-place-preserved
loop-place-preserved c =
    IsSoonest-more c.args.boxes.now c.args.window.opened c.args.window.closed c.args.at c.loop-place.place c.index-boxes-place.result
    c.loop-place.least c.start_of.result c.sooner-least.result (omega (arith, c.loop-place-test.true)) c.index-boxes-place.is
    c.loop-place.invariant c.start_of.ensures.start c.sooner-least.ensures.sooner

pub returns : goal.returns
returns c =
    let all : c.loop-place.place ≡ length c.args.boxes.now = omega (arith, c.loop-place-test.false, c.loop-place.auto) in
    record {
      next = grind arith;
    }
