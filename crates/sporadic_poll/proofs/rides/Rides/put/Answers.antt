use Rattle.std.proofs.Common.{◌≡◌, Some, refl, sym, ◌∙◌}
use Rattle.std.specs.List.{slice_get}
use Rattle.sporadic_poll.specs.Rides.{polled_frame}
use Rattle.sporadic_poll.proofs.Rounds.{anew_first}
use Rattle.sporadic_poll.proofs.rides.Rides.put.Goals as goal

pub returns-in-Some-clause-put : goal.returns-in-Some-clause-put
returns-in-Some-clause-put c = λ carried ridden.
    let at : slice_get c.args.window.now 0 ≡ Some c.in-Some.first.now = sym c.in-Some.ensures.value in
    let sent = c.send.ensures.sent carried ridden in
    let anew = anew_first (polled_frame c.args.self.now.queued.streams carried c.args.placed.now c.args.cycle) c.args.until c.args.window.now c.in-Some.first.now at in
    let items = rw c.unwrap.ensures at c.extend_from_slice.ensures.items in
    let front : c.extend_from_slice.new.self.items ≡ c.args.front.now = rw c.clear.ensures.items at items in
    sent ∙ (rw (front, anew) refl)
