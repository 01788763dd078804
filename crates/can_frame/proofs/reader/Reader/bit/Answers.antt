-- A stuff bit, where one is due, and then a bit of the plain part.
use Rattle.std.proofs.Common.{lit<}
use Rattle.can_frame.proofs.Steps.{IsBegun-expected, short_after, went_plain, went_then}
use Rattle.can_frame.proofs.reader.Reader.bit.Goals as goal

pub stuff_bit-requires : goal.stuff_bit-requires
stuff_bit-requires c = record { begun = IsBegun-expected c.args.self.now 1 (lit< tt) c.requires.expects }

pub returns-in_default-clause-fault : goal.returns-in_default-clause-fault
returns-in_default-clause-fault c =
    short_after c.args.self.now c.stuff_bit.new.self _ c.requires.expects c.in_ok-stuff_bit.ensures.ok c.in_default.ensures.value c.len.ensures.value

pub returns-clause-ok : goal.returns-clause-ok
returns-clause-ok c =
    let went = c.in_ok-stuff_bit.ensures.ok in
    went_then _ _ _ _ _ went
    (went_plain c.stuff_bit.new.self _ c.in-Some.bit (record { next = c.in-Some.ensures.value; is = c.advance.ensures.value })
    c.in_ok-stuff_bit.ensures.no_stuff_place went.no_six)
