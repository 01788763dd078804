use Rattle.std.proofs.Common.{◌≡◌, true, false, sym, arith}
use Rattle.bit_sets.specs.Sets.{most_slots}
use Rattle.live_node.specs.Sending.{may_send}
use Rattle.live_node.proofs.Slots.{before-next, least-found, least-none, none-before, none-ready}
use Rattle.live_node.proofs.node.LiveNode.least_ready.Goals as goal

pub returns-in_default-clause-least : goal.returns-in_default-clause-least
returns-in_default-clause-least c =
    none-ready c.args.self.now c.args.into c.ready-ready.result c.ready-ready.ensures.slots c.in_default.ensures.least

pub loop-slot-init : goal.loop-slot-init
loop-slot-init c = record {
  before = λ other early. none-before c.args.self.now c.args.into c.ready-ready.result c.ready-ready.ensures.slots c.in-Some.first other
      c.in-Some.ensures.least early;
}

pub returns-then-may_send-clause-least : goal.returns-then-may_send-clause-least
returns-then-may_send-clause-least c =
    let may : may_send c.args.self.now c.args.into c.loop-slot.slot ≡ true = grind arith in
    sym (least-found most_slots (may_send c.args.self.now c.args.into) c.loop-slot.slot c.loop-slot-test.true may c.loop-slot.invariant.before)

pub loop-slot-preserved : goal.loop-slot-preserved
loop-slot-preserved c =
    let not : may_send c.args.self.now c.args.into c.loop-slot.slot ≡ false = grind arith in
    record { before = before-next (may_send c.args.self.now c.args.into) c.loop-slot.slot c.loop-slot.invariant.before not }

pub returns-clause-least : goal.returns-clause-least
returns-clause-least c =
    sym (least-none most_slots (may_send c.args.self.now c.args.into)
    (λ i within. c.loop-slot.invariant.before i (omega (arith, within, c.loop-slot-test.false))))
