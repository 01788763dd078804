use Rattle.std.proofs.Common.{◌+◌, ◌++◌, ◌∷◌, [], drop, sym, slice_set, ap, subst, ◌∙◌, arith}
use Rattle.std.specs.Prelude.{slice_index}
use Rattle.live_steps.specs.Live.{acts_of}
use Rattle.trace_audit.specs.Ahead.{AreStepsAhead}
use Rattle.trace_audit.proofs.Taking.{ahead-behind, next-act, nobody, some-within}
use Rattle.trace_audit.proofs.ahead.StepsAhead.take.Goals as goal

pub returns-then-number-ge9-clause-act : goal.returns-then-number-ge9-clause-act
returns-then-number-ge9-clause-act c = λ history is.
    let number = c.from-number.ensures in
    let many = c.if-number-ge9.true in
    nobody c.args.operator c.args.steps.now _ (omega (arith, number, many)) c.requires.steps

pub returns-then-number-ge9-clause-ahead : goal.returns-then-number-ge9-clause-ahead
returns-then-number-ge9-clause-ahead c = λ history event is some calls.
    absurd (some-within c.args.operator c.args.steps.now _ (omega arith) some)

pub returns-then-place-steps-clause-act : goal.returns-then-place-steps-clause-act
returns-then-place-steps-clause-act c = λ history is.
    let number = c.from-number.ensures in
    let few = c.if-number-ge9.false in
    next-act c.args.steps.now history c.args.self.now is c.args.operator c.place_of_act-place.result (omega (arith, number, few))
    (c.place_of_act-place.ensures.acts
    ∙ ap (λ n. acts_of c.args.operator (drop (slice_index c.args.self.now.places n) c.args.steps.now)) number)
    c.place_of_act-place.ensures.first

pub returns-then-place-steps-clause-ahead : goal.returns-then-place-steps-clause-ahead
returns-then-place-steps-clause-ahead c = λ history event is some calls.
    let number = c.from-number.ensures in
    let few = c.if-number-ge9.false in
    subst (λ n. AreStepsAhead c.args.steps.now (history ++ event ∷ [])
    (record { cycles = c.args.self.now.cycles; places = slice_set c.args.self.now.places n (c.place_of_act-place.result + 1) })) (sym number)
    (ahead-behind c.args.steps.now history c.args.self.now is c.args.operator c.place_of_act-place.result (omega (arith, number, few))
    (c.place_of_act-place.ensures.acts
    ∙ ap (λ n. acts_of c.args.operator (drop (slice_index c.args.self.now.places n) c.args.steps.now)) number)
    event calls some)

pub returns-else-place-steps-clause-act : goal.returns-else-place-steps-clause-act
returns-else-place-steps-clause-act c = λ history is.
    let number = c.from-number.ensures in
    let few = c.if-number-ge9.false in
    next-act c.args.steps.now history c.args.self.now is c.args.operator c.place_of_act-place.result (omega (arith, number, few))
    (c.place_of_act-place.ensures.acts
    ∙ ap (λ n. acts_of c.args.operator (drop (slice_index c.args.self.now.places n) c.args.steps.now)) number)
    c.place_of_act-place.ensures.first

pub returns-else-place-steps-clause-ahead : goal.returns-else-place-steps-clause-ahead
returns-else-place-steps-clause-ahead c = λ history event is some calls.
    absurd (some-within c.args.operator c.args.steps.now c.place_of_act-place.result c.if-place-steps.false some)
