use Rattle.std.proofs.Common.{arith}
use Rattle.node_model.proofs.Offers.{node_offer-late}
use Rattle.node_model.proofs.LookAhead.{stays-due, stays-mail}
use Rattle.node_model.proofs.node.Node.find_offer.Goals as goal

pub returns-then-window-at-clause-offer : goal.returns-then-window-at-clause-offer
returns-then-window-at-clause-offer c = grind (arith, node_offer-late)

pub returns-then-window-at-clause-stays : goal.returns-then-window-at-clause-stays
returns-then-window-at-clause-stays c = grind (arith, stays-due)

pub returns-else-window-at-clause-stays : goal.returns-else-window-at-clause-stays
returns-else-window-at-clause-stays c =
    let state = c.args.self.now.state in
    let o = c.in_ok-open_cycle.open_cycle in
    let known = c.open_at.ensures.known in
    stays-mail state c.args.at o c.in_ok-open_cycle.ensures.open_cycle c.offer_until.result known.mail
    (grind arith)
