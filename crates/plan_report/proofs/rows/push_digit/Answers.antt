use Rattle.std.proofs.Common.{arith, false}
use Rattle.std.proofs.lemmas.Fmt.{hex_one_digit}
use Rattle.std.proofs.lemmas.Grind.{common_steps}
use Rattle.plan_report.proofs.rows.push_digit.Goals as goal

pub returns : goal.returns
returns c =
    let digit = hex_one_digit false c.args.digit c.requires.digit in
    grind (arith, common_steps, digit)
