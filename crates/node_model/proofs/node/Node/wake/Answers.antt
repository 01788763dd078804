use Rattle.std.proofs.Common.{◌≡◌, ◌+◌, ◌*◌, ◌≤◌, None, IsSome, ap, ◌∙◌, subst, arith}
use Rattle.cycle_layout.specs.Layout.{sync_start}
use Rattle.async_window.specs.Mailbox.{IsNextInCycle, mail_offer}
use Rattle.node_model.specs.Node.{NodeView}
use Rattle.node_model.proofs.Offers.{mail-late, wake-mail, wake-due}
use Rattle.node_model.proofs.node.Node.wake.Goals as goal

pub returns-then-window-at : goal.returns-then-window-at
returns-then-window-at c =
    let o = c.in_ok-open_cycle.open_cycle in
    let known = c.open_at.ensures.known in
    let window : c.sync_start-window.result ≡ sync_start c.args.self.now.state.layout o.cycle o.width = c.sync_start-window.ensures.value ∙ ap (λ (v : NodeView). sync_start v.state.layout o.cycle o.width) c.self.view_is in
    let late : sync_start c.args.self.now.state.layout o.cycle o.width ≤ c.args.at = rw window at c.if-window-at.true in
    let last : c.sync_start-end.result ≡ sync_start c.args.self.now.state.layout o.cycle 0 = c.sync_start-end.ensures.value ∙ ap (λ (v : NodeView). sync_start v.state.layout o.cycle 0) c.self.view_is in
    let ends : c.sync_start-end.result ≡ (o.cycle + 1) * c.args.self.now.state.layout.cycle = last ∙ omega arith in
    let value = rw (window, ends) at c.next_due.ensures.next in
    let none = mail-late c.args.self.now.state c.args.at o c.in_ok-open_cycle.ensures.open_cycle (omega (arith, known.layout.cycle_range.above)) known.mail late in
    record { next = wake-due c.args.self.now.state c.args.at o c.in_ok-open_cycle.ensures.open_cycle (omega (arith, known.layout.cycle_range.above)) known.mail c.next_due.result none value }

pub returns-in-Some : goal.returns-in-Some
returns-in-Some c = grind (arith, wake-mail)

pub returns-in-None : goal.returns-in-None
returns-in-None c =
    let o = c.in_ok-open_cycle.open_cycle in
    let known = c.open_at.ensures.known in
    let none = subst (λ (v : NodeView). IsNextInCycle v.state.layout.cycle c.args.at (λ later. IsSome (mail_offer v.state.layout o.width v.state.mail later)) None) c.self.view_is c.in-None.ensures.next in
    let window : c.sync_start-window.result ≡ sync_start c.args.self.now.state.layout o.cycle o.width = c.sync_start-window.ensures.value ∙ ap (λ (v : NodeView). sync_start v.state.layout o.cycle o.width) c.self.view_is in
    let last : c.sync_start-end.result ≡ sync_start c.args.self.now.state.layout o.cycle 0 = c.sync_start-end.ensures.value ∙ ap (λ (v : NodeView). sync_start v.state.layout o.cycle 0) c.self.view_is in
    let ends : c.sync_start-end.result ≡ (o.cycle + 1) * c.args.self.now.state.layout.cycle = last ∙ omega arith in
    let value = rw (window, ends) at c.next_due-in-None.ensures.next in
    record { next = wake-due c.args.self.now.state c.args.at o c.in_ok-open_cycle.ensures.open_cycle (omega (arith, known.layout.cycle_range.above)) known.mail c.next_due-in-None.result none value }
