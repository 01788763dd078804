use Rattle.std.proofs.Common.{◌≡◌, ℕ, ◌+◌, ◌-◌, ◌≤◌, max, Some, sym, ap, ◌∙◌, subst, arith}
use Rattle.cycle_layout.specs.Layout.{CycleLayout, IsLayout, trigger_part}
use Rattle.async_window.specs.Mailbox.{IsLeastWith}
use Rattle.node_model.specs.Online.{open_now}
use Rattle.live_node.specs.Live.{AreWaiting, LiveView}
use Rattle.live_node.proofs.Offered.{opened-of}
use Rattle.live_node.proofs.Wake.{OffersLater, wakes-first, wakes-late, wakes-second}
use Rattle.live_node.proofs.node.LiveNode.wake_in.Goals as goal
use Rattle.live_node.proofs.node.LiveNode.wake_in.Goals.{After-cycle, After-next_from-first}

is-known : (c : After-cycle) → AreWaiting c.args.self.now.mail
is-known c = subst (λ (v : LiveView). AreWaiting v.mail) c.self.view_is c.self.invariant.waiting

is-layout : (c : After-cycle) → c.layout-layout.result ≡ c.args.self.now.state.layout
is-layout c = c.layout-layout.ensures.layout ∙ ap (λ (v : LiveView). v.state.layout) c.self.view_is

is-cycle : (c : After-cycle) → c.cycle.result ≡ c.args.self.now.state.layout.cycle
is-cycle c = c.cycle.ensures.value ∙ ap (λ (y : CycleLayout). y.cycle) (is-layout c)

has-room : (c : After-cycle) (width : ℕ) → width ≡ c.args.open_cycle.now.width
    → trigger_part c.args.self.now.state.layout + c.args.self.now.state.layout.turnaround + width ≤ c.args.self.now.state.layout.cycle
has-room c width is =
    let known : IsLayout c.args.self.now.state.layout = subst IsLayout (is-layout c) c.cycle.ensures.known in
    omega (arith, known.room, is, c.requires.fits)

is-first : (c : After-next_from-first) → c.next_from-first.result
    ≡ max (trigger_part c.args.self.now.state.layout + c.args.self.now.state.layout.turnaround) (c.args.into + 1)
is-first c =
    let cycle = (goal.at.After-next_from-first c).After-cycle in
    c.next_from-first.ensures.next
    ∙ ap (λ n. max (n + c.turnaround.result) (c.args.into + 1)) (c.trigger_part.ensures.value ∙ ap trigger_part (is-layout cycle))
    ∙ ap (λ n. max (trigger_part c.args.self.now.state.layout + n) (c.args.into + 1))
    (c.turnaround.ensures.value ∙ ap (λ (y : CycleLayout). y.turnaround) (is-layout cycle))

pub returns-then-cycle-into : goal.returns-then-cycle-into
returns-then-cycle-into c =
    let cycle = (goal.at.returns-then-cycle-into c).After-cycle in
    record {
      next = wakes-late c.args.self.now c.args.into (is-known cycle)
          (subst (λ n. n ≤ c.args.into) (is-cycle cycle) c.if-cycle-into.true);
    }

pub returns-in-Some : goal.returns-in-Some
returns-in-Some c =
    let cycle = (goal.at.returns-in-Some c).After-cycle in
    let at = opened-of (open_now c.args.self.now.state) c.args.open_cycle.now (sym c.requires.open_cycle) in
    record {
      next = subst (λ t. IsLeastWith (OffersLater c.args.self.now c.args.into) (Some t)) (sym c.in-Some.ensures.time.0)
          (wakes-first c.args.self.now (is-known cycle) at.0 at.1 (has-room cycle at.0.width at.3) c.args.into c.next_from-first.result
          (is-first (goal.at.returns-in-Some c).After-next_from-first) c.in-Some.ensures.time.1);
    }

pub returns-in-None : goal.returns-in-None
returns-in-None c =
    let cycle = (goal.at.returns-in-None c).After-cycle in
    let at = opened-of (open_now c.args.self.now.state) c.args.open_cycle.now (sym c.requires.open_cycle) in
    let length : c.cycle-in-None.result ≡ c.args.self.now.state.layout.cycle
    = c.cycle-in-None.ensures.value ∙ ap (λ (y : CycleLayout). y.cycle) (is-layout cycle) in
    let second : c.next_from-second.result ≡ max (c.args.self.now.state.layout.cycle - at.0.width) (c.args.into + 1)
    = c.next_from-second.ensures.next
    ∙ ap (λ n. max (n - c.args.open_cycle.now.width) (c.args.into + 1)) length
    ∙ ap (λ w. max (c.args.self.now.state.layout.cycle - w) (c.args.into + 1)) (sym at.3) in
    record {
      next = wakes-second c.args.self.now (is-known cycle) at.0 at.1 (has-room cycle at.0.width at.3) c.args.into c.next_from-first.result
          c.next_from-second.result c.wake_at-in-None.result (is-first (goal.at.returns-in-None c).After-next_from-first) c.in-None.ensures.time
          second c.wake_at-in-None.ensures.time;
    }
