use Rattle.std.proofs.Common.{rules, ◌≡◌, ℕ, ◌+◌, ◌*◌, ◌≤◌, max, None, Some, IsSome, option_map, sym, ap, ◌∙◌, subst, arith}
use Rattle.cycle_layout.specs.Layout.{sync_start}
use Rattle.async_window.specs.Mailbox.{IsNextInCycle, mail_offer}
use Rattle.node_model.specs.Node.{IsNode, NodeView, node_offer}
use Rattle.node_model.specs.Kept.{KnowsDue, opened_of}
use Rattle.node_model.proofs.Offers.{next-due, next-offer}
use Rattle.node_model.proofs.node.Node.find_next_offer.Goals as goal

pub returns : goal.returns
returns c =
    let state = c.args.self.now.state in
    let known : IsNode state = subst (λ (v : NodeView). IsNode v.state) c.self.view_is c.self.invariant.node in
    let o = opened_of c.in_ok-open_cycle.open_cycle in
    let is : c.self.inside.opened ≡ Some c.in_ok-open_cycle.open_cycle = search rules in
    let opened : state.opened ≡ Some o = sym (ap (λ (v : NodeView). v.state.opened) c.self.view_is) ∙ ap (option_map opened_of) is in
    let length : c.from.result ≡ state.layout.cycle = c.from.ensures ∙ c.cycle.ensures.value ∙ ap (λ (v : NodeView). v.state.layout.cycle) c.self.view_is in
    let behind : c.max.result ≡ max c.args.at (o.cycle * state.layout.cycle) = c.max.ensures ∙ ap (λ n. max c.args.at (o.cycle * n)) length in
    record {
      next = next-offer state c.args.at o c.wake.result known opened
          (subst (λ t. IsNextInCycle state.layout.cycle t (λ later. IsSome (node_offer state later)) c.wake.result) behind c.wake.ensures.next);
    }

pub returns-then-not-has_arrived : goal.returns-then-not-has_arrived
returns-then-not-has_arrived c =
    let state = c.args.self.now.state in
    let known : IsNode state = subst (λ (v : NodeView). IsNode v.state) c.self.view_is c.self.invariant.node in
    let open_cycle = c.in_ok-open_cycle.open_cycle in
    let o = opened_of open_cycle in
    let is : c.self.inside.opened ≡ Some open_cycle = search rules in
    let opened : state.opened ≡ Some o = sym (ap (λ (v : NodeView). v.state.opened) c.self.view_is) ∙ ap (option_map opened_of) is in
    let due : KnowsDue state.entries open_cycle
    = grind arith in
    let window : c.sync_start-window.result ≡ sync_start state.layout o.cycle o.width
    = c.sync_start-window.ensures.value ∙ ap (λ (v : NodeView). sync_start v.state.layout o.cycle o.width) c.self.view_is in
    let last : c.sync_start-end.result ≡ sync_start state.layout o.cycle 0
    = c.sync_start-end.ensures.value ∙ ap (λ (v : NodeView). sync_start v.state.layout o.cycle 0) c.self.view_is in
    let ends : c.sync_start-end.result ≡ (o.cycle + 1) * state.layout.cycle = last ∙ omega arith in
    let silent : (later : ℕ) → later ≤ sync_start state.layout o.cycle o.width → mail_offer state.layout o.width state.mail later ≡ None
    = grind arith in
    let value = rw (window, ends) at c.next_due.ensures.next in
    record { next = next-due state c.args.at open_cycle known opened due silent c.next_due.result value }
