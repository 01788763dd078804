use Rattle.std.proofs.Common.{◌≡◌, Bool, true, false, ◌&&◌, not, refl, ap, ◌∙◌}
use Rattle.bit_sets.specs.Sets.{has_bit}
use Rattle.node_model.proofs.cycle.unheard.Goals as goal

in_turn : (a b c : Bool) → ((a && b) && c) ≡ (a && (b && c))
in_turn true b c = refl
in_turn false b c = refl

pub returns : goal.returns
returns c = record {
  slots = λ slot.
      c.difference.ensures.slots slot
      ∙ ap (λ has. has && not (has_bit c.args.heard slot)) (c.common.ensures.slots slot)
      ∙ in_turn (has_bit c.args.flags slot) (has_bit c.args.sendable slot) (not (has_bit c.args.heard slot));
}
