use Rattle.std.proofs.Common.{◌≡◌, ◌∙◌, ◌+◌, ◌%◌, ap}
use Rattle.generated_input.specs.Generator.{draw, each_below, state_after}
use Rattle.generated_input.proofs.GeneratorDraws.{after_again, bytes_framed, draw_again, state_framed}
use Rattle.generated_input.proofs.generating.Draws.request.Goals as goal

pub returns-clause-identifier : goal.returns-clause-identifier
returns-clause-identifier c =
    ap (λ frame. frame.identifier) c.frame-frame.ensures.value
    ∙ ap (λ drawn. 512 + drawn) (c.below-2.ensures.value ∙ ap (λ end. draw c.below.new.self.state 1 % end) c.from.ensures ∙ ap (λ s. draw s 1 % 32) c.below.ensures.state ∙ ap (λ drawn. drawn % 32) (draw_again c.args.self.now.state 1 1))

pub returns-clause-bytes : goal.returns-clause-bytes
returns-clause-bytes c =
    let two : c.below-2.new.self.state ≡ state_after c.args.self.now.state 2 = c.below-2.ensures.state ∙ ap (λ s. state_after s 1) c.below.ensures.state ∙ after_again c.args.self.now.state 1 1 in
    ap (λ frame. frame.bytes) c.frame-frame.ensures.value
    ∙ ap (λ s. each_below (draw s 1 % 9) (λ place. draw s (2 + place) % 256)) two
    ∙ bytes_framed c.args.self.now.state

pub returns-clause-state : goal.returns-clause-state
returns-clause-state c =
    let two : c.below-2.new.self.state ≡ state_after c.args.self.now.state 2 = c.below-2.ensures.state ∙ ap (λ s. state_after s 1) c.below.ensures.state ∙ after_again c.args.self.now.state 1 1 in
    c.frame-frame.ensures.state
    ∙ ap (λ s. state_after s (1 + draw s 1 % 9)) two
    ∙ state_framed c.args.self.now.state
