use Rattle.std.proofs.Common.{◌∙◌, ◌+◌, ◌%◌, ◌++◌, ◌∷◌, [], sym}
use Rattle.generated_input.specs.Generator.{owner_made}
use Rattle.generated_input.proofs.GeneratorDraws.{each_more, each_none}
use Rattle.generated_input.proofs.generating.owners.Goals as goal

pub loop-place-init : goal.loop-place-init
loop-place-init c = c.new-owners.ensures.items ∙ sym (each_none owner_made)

pub loop-place-preserved : goal.loop-place-preserved
loop-place-preserved c =
    c.in_ok-push.ensures.items
    ∙ (λ i. c.loop-place.invariant i ++ record { id = 512 + c.from-id.ensures i; node = c.loop-place.place % 8 } ∷ [])
    ∙ sym (each_more c.loop-place.place owner_made)
