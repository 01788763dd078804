use Rattle.release_wheel.proofs.Demands.{leaves-none, none-valid}
use Rattle.release_wheel.proofs.NearPlans.{rows-of-all}
use Rattle.release_wheel.proofs.demand.pass_fitting.Goals as goal

pub returns-clause-standing : goal.returns-clause-standing
returns-clause-standing c =
    let all = c.args.ranked.now in
    let wheel = c.set_plain.new.wheel in
    let kept = c.set_plain.ensures.kept all in
    record { end = kept.near; valid = kept.valid; rows = rows-of-all all c.forget.new.near wheel c.forget.ensures.none kept }

pub returns-clause-valid : goal.returns-clause-valid
returns-clause-valid c = λ at. none-valid c.args.ranked.now.placed at c.args.wheel.now.dues.waiting.slots c.requires.empty

pub returns-clause-passed : goal.returns-clause-passed
returns-clause-passed c = λ at from to.
    leaves-none c.args.ranked.now c.args.w at c.args.wheel.now.dues.waiting.slots c.placed.ensures.well_placed c.requires.empty (c.requires.fits at from to)
