-- What is noted is known of the entry's latest instance.
use Rattle.std.proofs.Common.{sym, subst}
use Rattle.requirement_table.specs.Instance.{latest}
use Rattle.node_model.specs.Kept.{IsSlotReady}
use Rattle.node_model.proofs.Ready.{entry-ready, one-ready}
use Rattle.node_model.proofs.entries.with_sendable.Goals as goal

pub returns-then-is_sendable-clause-ready : goal.returns-then-is_sendable-clause-ready
returns-then-is_sendable-clause-ready c = λ entries place well at before.
    let p = c.args.p.now in
    let known = subst (IsSlotReady entries p.entry.slot) (sym c.in-Some.ensures.latest.1)
    (entry-ready entries place (latest p c.args.cycle) p well at c.requires.in_range) in
    one-ready entries c.args.ready.now c.from.result c.in-Some.found
    (subst (λ slot. IsSlotReady entries slot c.in-Some.found) (sym c.from.ensures) known) before

pub returns-else-is_sendable-clause-ready : goal.returns-else-is_sendable-clause-ready
returns-else-is_sendable-clause-ready c = λ entries place well at before.
    let p = c.args.p.now in
    c.note_other.ensures.ready entries
    (subst (IsSlotReady entries p.entry.slot) (sym c.in-Some.ensures.latest.1)
    (entry-ready entries place (latest p c.args.cycle) p well at c.requires.in_range))
    before
