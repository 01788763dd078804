use Rattle.std.proofs.Common.{◌<◌, arith}
use Rattle.release_wheel.specs.Near.{until_of}
use Rattle.release_wheel.proofs.NearPlans.{near-passed, near-standing, near-valid}
use Rattle.release_wheel.proofs.near.pass_near.Goals as goal

pub returns-clause-passed : goal.returns-clause-passed
returns-clause-passed c =
    let near = c.args.near.now in
    let until = c.until-until.ensures.until in
    let less = c.if-until-wheel.false in
    let made = c.pass_quiet.ensures in
    let to = made.until in
    let before : c.args.wheel.now.cycle < until_of near = omega arith in
    near-passed c.args.ranked.now c.at_wheel.result.now near c.args.wheel.now c.pass_quiet.new.wheel c.placed.ensures.well_placed c.requires.standing
    c.at_wheel.ensures.entries before made.onward (omega arith) made.slots made.kept made.passed

pub returns-clause-valid : goal.returns-clause-valid
returns-clause-valid c =
    let near = c.args.near.now in
    let until = c.until-until.ensures.until in
    let less = c.if-until-wheel.false in
    let made = c.pass_quiet.ensures in
    let to = made.until in
    let before : c.args.wheel.now.cycle < until_of near = omega arith in
    near-valid c.args.ranked.now c.at_wheel.result.now near c.args.wheel.now c.pass_quiet.new.wheel c.placed.ensures.well_placed c.requires.standing
    c.at_wheel.ensures.entries before made.onward (omega arith) made.slots made.kept made.passed

pub returns-clause-standing : goal.returns-clause-standing
returns-clause-standing c =
    let near = c.args.near.now in
    let until = c.until-until.ensures.until in
    let less = c.if-until-wheel.false in
    let made = c.pass_quiet.ensures in
    let to = made.until in
    let before : c.args.wheel.now.cycle < until_of near = omega arith in
    near-standing c.args.ranked.now c.at_wheel.result.now near c.args.wheel.now c.pass_quiet.new.wheel c.placed.ensures.well_placed c.requires.standing
    c.at_wheel.ensures.entries before made.onward (omega arith) made.slots made.kept made.passed
