use Rattle.live_node.proofs.Requests.{some-until}
use Rattle.live_node.proofs.offers.find_request.Goals as goal

pub returns-clause-until : goal.returns-clause-until
returns-clause-until c =
    some-until c.args.layout.now c.args.width c.args.boxes.now c.loop-mailbox.least c.requires.distinct c.loop-mailbox.invariant.until
