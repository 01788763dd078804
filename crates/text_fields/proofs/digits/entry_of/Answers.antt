use Rattle.text_fields.proofs.DigitValues.{value-is, value-most}
use Rattle.text_fields.proofs.digits.entry_of.Goals as goal

pub returns-clause-entry : goal.returns-clause-entry
returns-clause-entry c = value-is c.args.byte c.ranges.byte.fits c.from.result c.from.ensures

pub returns-clause-most : goal.returns-clause-most
returns-clause-most c = value-most c.args.byte c.ranges.byte.fits c.from.result c.from.ensures
