-- One field after another, from the start on.
use Rattle.std.proofs.Common.{length, ap, ◌∙◌}
use Rattle.can_frame.specs.Wire.{header}
use Rattle.can_frame.proofs.Plain.{before_code, length-before_code}
use Rattle.can_frame.proofs.Steps.{went_then}
use Rattle.can_frame.proofs.Expectations.{carried_start, expects_start, placed_before_code, rtr_next, r1_next, r0_next, to_code}
use Rattle.can_frame.proofs.reader.Reader.header.Goals as goal

pub dominant-requires-clause-expects : goal.dominant-requires-clause-expects
dominant-requires-clause-expects c = expects_start c.args.self.now c.requires.start

pub dominant-requires-2-clause-expects : goal.dominant-requires-2-clause-expects
dominant-requires-2-clause-expects c =
    (rtr_next _ _ _ _ c.in_ok-id.ensures.range c.requires.start c.in_ok-dominant.ensures.ok c.in_ok-id.ensures.ok).expects

pub dominant-requires-2-clause-fixed : goal.dominant-requires-2-clause-fixed
dominant-requires-2-clause-fixed c =
    (rtr_next _ _ _ _ c.in_ok-id.ensures.range c.requires.start c.in_ok-dominant.ensures.ok c.in_ok-id.ensures.ok).fixed

pub dominant-requires-3-clause-expects : goal.dominant-requires-3-clause-expects
dominant-requires-3-clause-expects c =
    (r1_next _ _ _ _ _ c.in_ok-id.ensures.range c.requires.start c.in_ok-dominant.ensures.ok c.in_ok-id.ensures.ok c.in_ok-dominant-2.ensures.ok).expects

pub dominant-requires-3-clause-fixed : goal.dominant-requires-3-clause-fixed
dominant-requires-3-clause-fixed c =
    (r1_next _ _ _ _ _ c.in_ok-id.ensures.range c.requires.start c.in_ok-dominant.ensures.ok c.in_ok-id.ensures.ok c.in_ok-dominant-2.ensures.ok).fixed

pub dominant-requires-4-clause-expects : goal.dominant-requires-4-clause-expects
dominant-requires-4-clause-expects c =
    (r0_next _ _ _ _ _ _ c.in_ok-id.ensures.range c.requires.start c.in_ok-dominant.ensures.ok c.in_ok-id.ensures.ok c.in_ok-dominant-2.ensures.ok c.in_ok-dominant-3.ensures.ok).expects

pub dominant-requires-4-clause-fixed : goal.dominant-requires-4-clause-fixed
dominant-requires-4-clause-fixed c =
    (r0_next _ _ _ _ _ _ c.in_ok-id.ensures.range c.requires.start c.in_ok-dominant.ensures.ok c.in_ok-id.ensures.ok c.in_ok-dominant-2.ensures.ok c.in_ok-dominant-3.ensures.ok).fixed

pub code-requires-clause-placed : goal.code-requires-clause-placed
code-requires-clause-placed c =
    let went = to_code c.args.self.now _ _ _ _ _ c.in_ok-id.id c.in_ok-dominant.ensures.ok c.in_ok-id.ensures.ok c.in_ok-dominant-2.ensures.ok c.in_ok-dominant-3.ensures.ok c.in_ok-dominant-4.ensures.ok in
    let is = carried_start _ _ (before_code c.in_ok-id.id) c.requires.start went in
    rw is (placed_before_code c.in_ok-id.id c.in_ok-id.ensures.range)

pub code-requires-clause-at : goal.code-requires-clause-at
code-requires-clause-at c =
    let went = to_code c.args.self.now _ _ _ _ _ c.in_ok-id.id c.in_ok-dominant.ensures.ok c.in_ok-id.ensures.ok c.in_ok-dominant-2.ensures.ok c.in_ok-dominant-3.ensures.ok c.in_ok-dominant-4.ensures.ok in
    ap length (carried_start _ _ (before_code c.in_ok-id.id) c.requires.start went) ∙ length-before_code c.in_ok-id.id

pub returns-clause-ok : goal.returns-clause-ok
unfolding header
returns-clause-ok c =
    went_then c.args.self.now _ _ (before_code c.in_ok-id.id) _
    (to_code c.args.self.now _ _ _ _ _ c.in_ok-id.id c.in_ok-dominant.ensures.ok c.in_ok-id.ensures.ok c.in_ok-dominant-2.ensures.ok c.in_ok-dominant-3.ensures.ok c.in_ok-dominant-4.ensures.ok)
    c.in_ok-code.ensures.ok
