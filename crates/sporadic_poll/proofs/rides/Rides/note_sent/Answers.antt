use Rattle.std.proofs.Common.{◌++◌, [], ◌∷◌, take, sym, ap, ◌∙◌}
use Rattle.std.proofs.lemmas.List.{take_more}
use Rattle.sporadic_poll.proofs.Rounds.{noting-first, noting-more}
use Rattle.sporadic_poll.proofs.rides.Rides.note_sent.Goals as goal

pub loop-sent-init : goal.loop-sent-init
loop-sent-init c = noting-first c.args.cycle c.args.placed.now c.args.frames.now c.args.self.now

pub loop-sent-preserved : goal.loop-sent-preserved
loop-sent-preserved c =
    noting-more c.args.cycle c.args.placed.now c.args.frames.now c.args.self.now c.loop-sent.self c.note.new.self c.loop-sent.sent-index c.sent-item.result
    (take_more c.args.frames.now c.loop-sent.sent-index c.sent-item.result c.loop-sent-test.true ∙ ap (λ it. take c.loop-sent.sent-index c.args.frames.now ++ it ∷ []) (sym c.sent-item.is))
    c.loop-sent.invariant c.note.ensures.queued c.note.ensures.noted
