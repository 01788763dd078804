use Rattle.std.proofs.Common.{inl, inr, refl, sym, ◌∙◌}
use Rattle.std.proofs.lemmas.Bool.{cases_lt, false≢true}
use Rattle.bit_sets.specs.Sets.{most_slots}
use Rattle.bit_sets.proofs.Shared.{has_bit-above, least-of, none-of, without-less}
use Rattle.node_model.proofs.Ready.{sendable-next}
use Rattle.node_model.proofs.entries.turn_all.Goals as goal

pub loop-slot-init : goal.loop-slot-init
loop-slot-init c = record {
  sendable = λ slot has gone. absurd (false≢true (sym gone ∙ has));
  ready = λ entries before. before;
}

pub turn-requires : goal.turn-requires
turn-requires c = record { slot = (least-of c.loop-slot.left c.in-Some.slot (sym c.in-Some.ensures.least)).0 }

pub loop-slot-smaller : goal.loop-slot-smaller
loop-slot-smaller c =
    let least = least-of c.loop-slot.left c.in-Some.slot (sym c.in-Some.ensures.least) in
    without-less most_slots c.loop-slot.left c.without_least-left.result c.in-Some.slot least.0 c.known-in-Some.ensures.below c.known-in-Some-2.ensures.below least.1
    (c.without_least-left.ensures.slots c.in-Some.slot (sym c.in-Some.ensures.least))

pub loop-slot-preserved : goal.loop-slot-preserved
loop-slot-preserved c = record {
  sendable = sendable-next c.args.cycle c.args.set c.loop-slot.left c.without_least-left.result c.in-Some.slot _ _
      (c.without_least-left.ensures.slots c.in-Some.slot (sym c.in-Some.ensures.least))
      (c.if-not-turn.ensures.sendable refl) c.turn.ensures.others c.loop-slot.invariant.sendable;
  ready = λ entries before. c.turn.ensures.ready entries (c.loop-slot.invariant.ready entries before);
}

pub returns : goal.returns
returns c = record {
  sendable = λ _ slot has. elim (cases_lt slot most_slots) [
    | inl within ↦ c.loop-slot.invariant.sendable slot has (none-of c.loop-slot.left (sym c.in_default.ensures.least) slot within)
    | inr beyond ↦ absurd (false≢true (sym (has_bit-above c.args.set most_slots slot c.known.ensures.below beyond) ∙ has))
  ];
  ready = c.loop-slot.invariant.ready;
}
