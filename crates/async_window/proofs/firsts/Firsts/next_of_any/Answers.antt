use Rattle.std.proofs.Common.{◌<◌, ◌^◌, rules}
use Rattle.async_window.specs.Tournament.{arrival_within}
use Rattle.async_window.proofs.Soonest.{IsSoonest-any, earliest-whole}
use Rattle.async_window.proofs.Telling.{least-told, some-told}
use Rattle.async_window.proofs.firsts.Firsts.next_of_any.Goals as goal

pub returns : goal.returns
returns c =
    let wide : c.args.window.closed < 2 ^ 64 = search rules in
    record {
      next = λ boxes tell.
          IsSoonest-any boxes c.args.window.opened c.args.window.closed c.args.at wide c.least.result
          (least-told (arrival_within 8) boxes c.args.self.now.arrivals tell.arrive c.least.result c.least.ensures.least c.least.ensures.some)
          c.earliest.result
          (some-told (arrival_within 8) boxes c.args.self.now.arrivals tell.arrive c.least.result c.least.ensures.least c.least.ensures.some)
          c.earliest.ensures.earliest;
      whole = earliest-whole c.args.window.opened c.args.window.closed c.args.at c.least.result c.earliest.result c.earliest.ensures.earliest;
    }
