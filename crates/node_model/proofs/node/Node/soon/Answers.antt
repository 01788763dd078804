use Rattle.std.proofs.Common.{◌≡◌, ℕ, ◌*◌, ◌<◌, max, Some, IsSome, subst, arith}
use Rattle.async_window.specs.Mailbox.{IsNextInCycle, StaysUntil, mail_offer}
use Rattle.node_model.specs.Node.{NodeView}
use Rattle.node_model.proofs.LookAhead.{stays-mail}
use Rattle.node_model.proofs.Offers.{IsOpenAt-later, in_cycle-times, next-offer, wake-mail}
use Rattle.node_model.proofs.node.Node.soon.Goals as goal

pub returns-in-Some : goal.returns-in-Some
returns-in-Some c =
    let state = c.args.self.now.state in
    let o = c.in_ok-open_cycle.open_cycle in
    let known = c.open_at.ensures.known in
    let is = c.in_ok-open_cycle.ensures.open_cycle in
    let from : ℕ = c.in-Some.soon.from in
    let some : 0 < state.layout.cycle = omega (arith, known.layout.cycle_range.above) in
    let mail = subst (λ (v : NodeView). IsNextInCycle v.state.layout.cycle c.args.at
    (λ later. IsSome (mail_offer v.state.layout o.width v.state.mail later)) (Some from)) c.self.view_is c.in-Some.ensures.next in
    let next = wake-mail state c.args.at o is some known.mail from mail in
    let times = in_cycle-times state.layout.cycle c.args.at o.cycle some is.cycle in
    let behind : c.args.at ≡ max c.args.at (o.cycle * state.layout.cycle) = omega (arith, times.0) in
    let stays = subst (λ (v : NodeView). StaysUntil v.state.layout o.width v.state.mail from c.in-Some.soon.offer.id c.in-Some.soon.offer.until)
    c.self.view_is c.in-Some.ensures.stays in
    record {
      next = grind (arith, next-offer);
      stays = stays-mail state from o (IsOpenAt-later state c.args.at from o is next.0.1) (Some c.in-Some.soon.offer) known.mail stays;
    }
