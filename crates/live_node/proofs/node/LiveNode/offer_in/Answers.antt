use Rattle.std.proofs.Common.{◌≡◌, ◌+◌, ◌-◌, ◌<◌, ◌≤◌, Some, length, sym, ap, ◌∙◌, subst, arith}
use Rattle.std.specs.Prelude.{IfSome, slice_get}
use Rattle.stuff_bound.specs.Stuffing.{worst}
use Rattle.can_frame.specs.DataFrame.{DataFrame}
use Rattle.cycle_layout.specs.Layout.{CycleLayout}
use Rattle.node_model.specs.Online.{open_now}
use Rattle.live_node.specs.Live.{AreWaiting, LiveView, frames_of}
use Rattle.live_node.specs.Sending.{request_offer}
use Rattle.live_node.proofs.Offered.{opened-of, request-offered, slot-offered}
use Rattle.live_node.proofs.node.LiveNode.offer_in.Goals as goal

pub returns-then-cycle-open_cycle : goal.returns-then-cycle-open_cycle
returns-then-cycle-open_cycle c =
    let view : LiveView = c.args.self.now in
    let known : AreWaiting view.mail = subst (λ (v : LiveView). AreWaiting v.mail) c.self.view_is c.self.invariant.waiting in
    let at = opened-of (open_now view.state) c.args.open_cycle.now (sym c.requires.open_cycle) in
    let behind : view.state.layout.cycle - c.args.open_cycle.now.width ≤ c.args.into = grind arith in
    record {
      offer = slot-offered view known c.args.into at.0 c.find_slot.result at.1
          (subst (λ w. view.state.layout.cycle - w ≤ c.args.into) (sym at.3) behind) c.find_slot.ensures.offer c.find_slot.ensures.until;
    }

pub returns-else-cycle-open_cycle : goal.returns-else-cycle-open_cycle
returns-else-cycle-open_cycle c =
    let view : LiveView = c.args.self.now in
    let known : AreWaiting view.mail = subst (λ (v : LiveView). AreWaiting v.mail) c.self.view_is c.self.invariant.waiting in
    let at = opened-of (open_now view.state) c.args.open_cycle.now (sym c.requires.open_cycle) in
    let before : c.args.into < view.state.layout.cycle - c.args.open_cycle.now.width = grind arith in
    let layout : c.layout-layout.result ≡ view.state.layout = c.layout-layout.ensures.layout ∙ ap (λ (v : LiveView). v.state.layout) c.self.view_is in
    let mail : c.as_slice.result.now ≡ view.mail = c.as_slice.ensures.value ∙ ap (λ (v : LiveView). v.mail) c.self.view_is in
    let width : c.args.open_cycle.now.width ≡ at.0.width = sym at.3 in
    record {
      offer = request-offered view known c.args.into at.0 c.find_request.result at.1
          (subst (λ w. c.args.into < view.state.layout.cycle - w) width before)
          (c.find_request.ensures.offer
          ∙ ap (λ (y : CycleLayout). request_offer y c.args.open_cycle.now.width c.args.into c.as_slice.result.now) layout
          ∙ ap (λ w. request_offer view.state.layout w c.args.into c.as_slice.result.now) width
          ∙ ap (λ m. request_offer view.state.layout at.0.width c.args.into m) mail)
          (subst (λ m. IfSome c.find_request.result (λ offer. (frame : DataFrame) → slice_get (frames_of m offer.id) 0 ≡ Some frame
          → offer.until + worst (length frame.bytes) ≡ view.state.layout.cycle - at.0.width)) mail
          (subst (λ w. IfSome c.find_request.result (λ offer. (frame : DataFrame) → slice_get (frames_of c.as_slice.result.now offer.id) 0 ≡ Some frame
          → offer.until + worst (length frame.bytes) ≡ view.state.layout.cycle - w)) width
          (subst (λ (y : CycleLayout). IfSome c.find_request.result (λ offer. (frame : DataFrame) → slice_get (frames_of c.as_slice.result.now offer.id) 0 ≡ Some frame
          → offer.until + worst (length frame.bytes) ≡ y.cycle - c.args.open_cycle.now.width)) layout c.find_request.ensures.until)));
    }
