use Rattle.std.proofs.lemmas.Option.{slice_get-get_or}
use Rattle.sporadic_poll.proofs.Held.{held-by, released-by}
use Rattle.sporadic_poll.proofs.current.current_among.Goals as goal

pub returns-in-Some : goal.returns-in-Some
returns-in-Some c =
    let by = c.in-Some.ensures.some in
    record {
      value = held-by c.args.placed.now c.requires.well_placed c.loop-p.p-index c.args.slot c.args.cycle _ c.in-Some.current
          (slice_get-get_or c.args.placed.now c.loop-p.p-index _ c.loop-p-test.true) by;
      few = by.few;
      released = released-by c.args.slot c.args.cycle _ c.in-Some.current by;
    }
