use Rattle.std.proofs.Common.{◌≡◌, ◌∙◌, ap}
use Rattle.generated_input.specs.Generator.{each_below, owner_made, state_after, system_made}
use Rattle.generated_input.proofs.GeneratorLegal.{requests_are_legal, steps_are, system_is}
use Rattle.generated_input.proofs.generating.generate.Goals as goal

pub returns-clause-valid : goal.returns-clause-valid
returns-clause-valid c = rw c.in_ok-system.ensures.value (system_is c.args.number)

pub returns-clause-legal_steps : goal.returns-clause-legal_steps
returns-clause-legal_steps c = rw (c.in_ok-steps.ensures.value, c.new-draws.ensures.state) (steps_are c.args.number)

pub returns-clause-legal_requests : goal.returns-clause-legal_requests
unfolding system_made
returns-clause-legal_requests c =
    let drawn : c.steps.new.draws.state ≡ state_after c.args.number 240 = c.in_ok-steps.ensures.state ∙ ap (λ s. state_after s 240) c.new-draws.ensures.state in
    let owners : c.in_ok-system.system.owners ≡ each_below 32 owner_made = ap (λ system. system.owners) c.in_ok-system.ensures.value in
    rw (owners, c.in_ok-requests.ensures.value c.args.number drawn) (requests_are_legal c.args.number)
