-- Four bits, whose number is at most 8.
use Rattle.can_frame.proofs.Expectations.{expects_code, code_found}
use Rattle.can_frame.proofs.reader.Reader.code.Goals as goal

pub field-requires-clause-expects : goal.field-requires-clause-expects
field-requires-clause-expects c = expects_code c.args.self.now c.requires.no_six c.requires.placed c.requires.at

pub returns-then-code-gt-MAX_CODE-clause-fault : goal.returns-then-code-gt-MAX_CODE-clause-fault
returns-then-code-gt-MAX_CODE-clause-fault c =
    code_found c.args.self.now c.field.new.self c.in_ok-code.code _ (expects_code c.args.self.now c.requires.no_six c.requires.placed c.requires.at) c.requires.at
    c.in_ok-code.ensures.ok c.in_ok-code.ensures.range c.if-code-gt-MAX_CODE.true c.in_ok-code.ensures.last c.last_place.ensures.value
