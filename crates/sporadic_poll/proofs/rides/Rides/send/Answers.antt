use Rattle.std.proofs.Common.{◌≡◌, ◌∷◌, ◌+◌, length, length-append, drop, sym, ap, ◌∙◌, arith}
use Rattle.std.proofs.lemmas.List.{drop_more}
use Rattle.sporadic_poll.proofs.Rounds.{sending-done, sending-more, sending-past}
use Rattle.sporadic_poll.proofs.rides.Rides.send.Goals as goal

pub loop-sent-preserved : goal.loop-sent-preserved
loop-sent-preserved c =
    let next = drop_more c.args.frames.now c.loop-sent.sent-index c.sent-item.result c.loop-sent-test.true ∙ ap (λ it. it ∷ drop (c.loop-sent.sent-index + 1) c.args.frames.now) (sym c.sent-item.is) in
    let more = sending-more c.args.cycle c.args.placed.now c.args.self.now c.args.frames.now c.args.until c.args.out.now.items c.args.from c.loop-sent.out.items c.loop-sent.at c.loop-sent.sent-index
    c.sent-item.result c.polled_frame-frame.result c.wire_len-len.result next c.if-at-until.false c.wire_len-len.ensures.value c.polled_frame-frame.ensures.frame c.loop-sent.invariant.sending in
    let put = c.push_reserved.ensures.items in
    let grown : length c.push_reserved.new.self.items ≡ length c.loop-sent.out.items + 1 = ap length put ∙ length-append c.loop-sent.out.items _ in
    record {
      sending = rw (put, c.from-at.ensures) more;
      room_left = omega (arith, grown, c.loop-sent.invariant.room_left, c.push_reserved.ensures.capacity);
      no_less = omega (arith, c.loop-sent.invariant.no_less, c.push_reserved.ensures.capacity);
    }

pub returns-then-at-until-clause-sent : goal.returns-then-at-until-clause-sent
returns-then-at-until-clause-sent c =
    sending-past c.args.cycle c.args.placed.now c.args.self.now c.args.frames.now c.args.until c.args.out.now.items c.args.from c.loop-sent.out.items c.loop-sent.at c.loop-sent.sent-index
    c.if-at-until.true c.loop-sent.invariant.sending

pub returns-clause-sent : goal.returns-clause-sent
returns-clause-sent c =
    sending-done c.args.cycle c.args.placed.now c.args.self.now c.args.frames.now c.args.until c.args.out.now.items c.args.from c.loop-sent.out.items c.loop-sent.at c.loop-sent.sent-index
    c.loop-sent-test.false c.loop-sent.invariant.sending
