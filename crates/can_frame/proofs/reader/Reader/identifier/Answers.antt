-- The seven most significant bits, which are not all recessive, and the other four.
use Rattle.std.proofs.Common.{◌++◌, ◌∙◌, ap}
use Rattle.stuff_bound.specs.Fields.{bits}
use Rattle.can_frame.proofs.Expectations.{expects_high, expects_low, high_found, identifier_read}
use Rattle.can_frame.proofs.reader.Reader.identifier.Goals as goal

pub field-requires-clause-expects : goal.field-requires-clause-expects
field-requires-clause-expects c = expects_high c.args.self.now c.requires.no_six c.requires.at

pub returns-then-high-eq-ALL_RECESSIVE-clause-fault : goal.returns-then-high-eq-ALL_RECESSIVE-clause-fault
returns-then-high-eq-ALL_RECESSIVE-clause-fault c =
    high_found c.args.self.now c.field.new.self c.in_ok-high.high _ c.requires.no_six c.requires.at c.in_ok-high.ensures.ok c.if-high-eq-ALL_RECESSIVE.true c.in_ok-high.ensures.last
    c.last_place.ensures.value

pub field-requires-2-clause-expects : goal.field-requires-2-clause-expects
field-requires-2-clause-expects c =
    let went = c.in_ok-high.ensures.ok in
    expects_low c.field.new.self c.in_ok-high.high went.no_six (went.carried ∙ ap (λ v. v ++ bits 7 c.in_ok-high.high) c.requires.at) c.in_ok-high.ensures.range c.if-high-eq-ALL_RECESSIVE.false

pub returns-clause-ok : goal.returns-clause-ok
returns-clause-ok c =
    identifier_read c.args.self.now c.field.new.self c.field-2.new.self c.in_ok-high.high c.in_ok-low.low c.in_ok-high.ensures.ok c.in_ok-low.ensures.ok
    c.in_ok-low.ensures.range
