use Rattle.std.proofs.Common.{◌<◌, ◌^◌, arith, rules}
use Rattle.async_window.proofs.Telling.{soonest-starts}
use Rattle.async_window.proofs.firsts.Firsts.next_of_soonest.Goals as goal

pub first-requires : goal.first-requires
first-requires c = grind (arith, rules)

pub returns-in-Some : goal.returns-in-Some
returns-in-Some c =
    let wide : c.args.window.closed < 2 ^ 64 = search rules in
    record {
      next = soonest-starts c.args.boxes.now c.args.self.now.arrivals c.args.window.opened c.args.window.closed c.args.at
          c.least-soonest.result c.in-Some.first.place c.in-Some.first.sooner c.bytes.result c.index-boxes-first.result c.earliest.result
          wide c.if-window-soonest.false c.requires.firsts.arrive c.least-soonest.ensures.least c.in-Some.ensures.first
          c.index-boxes-first.is c.bytes.ensures.bytes c.earliest.ensures.earliest;
    }
