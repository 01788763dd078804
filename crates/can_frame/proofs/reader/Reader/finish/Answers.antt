-- The bits behind the stuffed part, one after another.
use Rattle.can_frame.proofs.Finish.{early_found, wrong_end_found, front_found}
use Rattle.can_frame.proofs.reader.Reader.finish.Goals as goal

pub returns-in_default : goal.returns-in_default
returns-in_default c = record {
  reads =
      early_found c.args.self.now c.loop-due.self c.args.frame c.loop-due.due-index _ c.requires.legal c.requires.stuffed c.loop-due.invariant c.loop-due-test.true
      c.in_default.ensures.value c.len.ensures.value;
}

pub returns-then-bit-due : goal.returns-then-bit-due
returns-then-bit-due c = record {
  reads =
      wrong_end_found c.args.self.now c.loop-due.self c.args.frame c.loop-due.due-index _ c.in-Some.bit c.requires.legal c.requires.stuffed c.loop-due.invariant c.loop-due-test.true
      c.in-Some.ensures.value c.if-bit-due.true c.place.ensures.value;
}

pub returns : goal.returns
returns c = record {
  reads =
      front_found c.args.self.now c.loop-due.self c.args.frame c.loop-due.due-index _ c.requires.legal c.requires.stuffed c.loop-due.invariant c.loop-due-test.false
      c.place-2.ensures.value;
}
