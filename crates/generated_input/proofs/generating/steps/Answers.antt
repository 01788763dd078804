use Rattle.std.proofs.Common.{◌≡◌, ◌∙◌, ◌++◌, ◌∷◌, [], ap, arith, sym}
use Rattle.generated_input.specs.Generator.{change_made, each_below, steps_made}
use Rattle.steps_file.specs.declared.steps.Step.TheVariants.{Cycle}
use Rattle.generated_input.proofs.GeneratorDraws.{change_more, each_none, none_after, state_more}
use Rattle.generated_input.proofs.generating.steps.Goals as goal

pub loop-slot-init : goal.loop-slot-init
loop-slot-init c = record { changes = c.new-steps.ensures.items ∙ sym (each_none _); state = sym (none_after _) }

pub loop-slot-preserved : goal.loop-slot-preserved
loop-slot-preserved c =
    let so_far = c.loop-slot.invariant in
    record {
      changes = change_more _ _ _ _ _ _ _ so_far.state c.entry-entry.ensures.value c.in_ok-change.ensures.value so_far.changes c.in_ok-push.ensures.items;
      state = state_more _ _ _ _ so_far.state c.entry-entry.ensures.state;
    }

pub returns-clause-value : goal.returns-clause-value
unfolding steps_made
returns-clause-value c =
    let all : c.loop-slot.slot ≡ 40 = omega (arith, c.loop-slot-test.false, c.loop-slot.auto.slot-end) in
    c.of.ensures.list
    ∙ c.in_ok-push-2.ensures.items
    ∙ ap (λ changes. changes ++ Cycle 5000 ∷ []) (c.loop-slot.invariant.changes ∙ ap (λ slot. each_below slot (change_made c.args.draws.now.state)) all)
