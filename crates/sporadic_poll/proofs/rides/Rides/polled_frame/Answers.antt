use Rattle.std.proofs.Common.{◌≡◌, ◌<◌, ◌+◌, length, true, sym, ap, ◌∙◌, arith}
use Rattle.sporadic_poll.specs.Polled.{is_polled}
use Rattle.sporadic_poll.specs.Rides.{Riding}
use Rattle.sporadic_poll.proofs.Carried.{bytes_polled, frame_polled, polled_known}
use Rattle.sporadic_poll.proofs.rides.Rides.polled_frame.Goals as goal

pub returns : goal.returns
returns c = record {
  frame = λ carried ridden.
      let streams = c.args.self.now.queued.streams in
      let slot = c.in-Some.slot in
      let frame = c.args.frame.now in
      let current = c.in-Some-current_in.current in
      let inside : is_polled c.self.inside.queues.streams slot ≡ true = sym (c.self.invariant.are_polled slot) ∙ sym c.has.ensures.slot ∙ c.if-not-has.false in
      let polled : is_polled streams slot ≡ true = sym (ap (λ (v : Riding). is_polled v.queued.streams slot) c.self.view_is) ∙ inside in
      let below = polled_known c.self.inside.queues.streams slot (length c.self.inside.queues.next) inside c.self.invariant.known in
      let known : slot < length c.args.self.now.queued.next = omega (arith, below, ap (λ (v : Riding). length v.queued.next) c.self.view_is) in
      let before : current.release < c.args.cycle + 1 = omega (arith, c.in-Some-current_in.ensures.released) in
      let bytes = c.bytes_of-bytes.ensures.bytes (carried slot) (c.args.cycle + 1) (ridden slot known) before in
      let same = bytes_polled streams carried c.args.placed.now c.args.cycle slot current frame.bytes c.requires.well_placed polled c.in-Some-current_in.ensures.value ∙ sym bytes in
      let made : c.in-Ok.polled ≡ record { identifier = frame.identifier; bytes = c.bytes_of-bytes.result } = rw (c.id.ensures.value, c.as_slice.ensures.bytes) at c.in-Ok.ensures.frame in
      made ∙ sym (frame_polled streams carried c.args.placed.now c.args.cycle slot frame c.bytes_of-bytes.result (sym c.in-Some.ensures.slot) polled same);
}
