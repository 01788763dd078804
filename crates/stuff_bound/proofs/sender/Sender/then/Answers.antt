use Rattle.std.proofs.Common.{arith}
use Rattle.std.proofs.lemmas.Nat.{one_shl}
use Rattle.std.proofs.lemmas.List.{reverse-append}
use Rattle.stuff_bound.proofs.Sent.{entry-sent}
use Rattle.stuff_bound.proofs.sender.Sender.then.Goals as goal

pub returns-clause-given : goal.returns-clause-given
returns-clause-given c plain h =
    let one = one_shl c.args.width 64 (omega arith) in
    rw (c.from-2.ensures, c.from-3.ensures, reverse-append) (entry-sent c.args.width c.args.value _ c.self.inside.state c.self.inside.stuff_bits c.step-step.result _ c.requires.width c.requires.value c.self.invariant (omega arith) c.step-step.ensures.value (rw (← c.self.view_is) at h))
