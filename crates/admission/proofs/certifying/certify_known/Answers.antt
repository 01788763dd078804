use Rattle.std.proofs.Common.{◌-◌, ◌++◌, ap, ◌∙◌, List, ℕ, arith}
use Rattle.admission.proofs.Certified.{made-of, within-listed}
use Rattle.admission.proofs.certifying.certify_known.Goals as goal

pub planned-requires-clause-none_missed : goal.planned-requires-clause-none_missed
planned-requires-clause-none_missed c = grind arith

pub new-requires-clause-within : goal.new-requires-clause-within
new-requires-clause-within c =
    let state = c.args.state.now in
    let found = c.requires.repeats in
    let start = found.1.at in
    within-listed c.args.rules.now c.args.placed.now state.cycle state.pending c.requires.pending c.args.opened.now
    c.in_ok-planned.planned.items c.args.first c.args.length c.requires.well_placed c.requires.in_time c.requires.opened
    (c.args.first - state.cycle) (omega arith) c.in_ok-planned.ensures.masks found c.in_ok-masks.masks.items
    (c.in_ok-masks.ensures.masks ∙ ap (λ (list : List ℕ). c.args.opened.now ++ list) c.as_slice.ensures.value)

pub returns : goal.returns
returns c =
    let state = c.args.state.now in
    let found = c.requires.repeats in
    let start = found.1.at in
    let whole = made-of c.args.rules.now c.args.placed.now state.cycle state.pending c.requires.pending c.args.opened.now
    c.in_ok-planned.planned.items c.args.first c.args.length c.requires.well_placed c.requires.in_time c.requires.opened
    (c.args.first - state.cycle) (omega arith) c.in_ok-planned.ensures.masks found c.new.result c.new.ensures.from
    (c.new.ensures.pending ∙ c.empty.ensures.number) c.new.ensures.first
    (c.new.ensures.masks ∙ c.in_ok-masks.ensures.masks ∙ ap (λ (list : List ℕ). c.args.opened.now ++ list) c.as_slice.ensures.value) in
    record { certificate = whole.certificate; whole = whole.whole; taken = whole.taken }
