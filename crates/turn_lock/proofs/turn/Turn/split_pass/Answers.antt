use Rattle.std.proofs.Common.{rules, ap, ◌∙◌, sym, subst, Option}
use Rattle.atomic_table.specs.Table.{Me}
use Rattle.turn_lock.specs.Passes.{Facts, Known}
use Rattle.turn_lock.specs.declared.view.View.{View}
use Rattle.turn_lock.proofs.Parting.{splits}
use Rattle.turn_lock.proofs.Passed.{facts_split}
use Rattle.turn_lock.proofs.Word.{looks}
use Rattle.turn_lock.proofs.turn.Turn.split_pass.Goals as goal

pub split_seat-seat-requires : goal.split_seat-seat-requires
split_seat-seat-requires g c =
    let idle = ap (λ (k : Known g.row.T-Entry.Denot g.row.T-Fixed.Denot). k.view.found) c.pass.view_is ∙ c.requires.ready.1 in
    let first = ap (λ (k : Known g.row.T-Entry.Denot g.row.T-Fixed.Denot). k.view.number) c.pass.view_is ∙ c.requires.first in
    (search rules, search rules, splits _ _ _ _ _ _ c.pass.invariant.3 idle first)

pub load-requires : goal.load-requires
load-requires g c =
    let is = c.split_seat-seat.ensures.4 in
    let alive = ap (λ (m : Me (Option g.row.T.Denot) (View g.row.T-Entry.Denot g.row.T-Fixed.Denot)). m.0.spent) is in
    let idle = ap (λ (m : Me (Option g.row.T.Denot) (View g.row.T-Entry.Denot g.row.T-Fixed.Denot)). m.0.found) is in
    (search rules, search rules, looks _ _ _ _ _ _ _ alive idle)

pub invariant_of-pass : goal.invariant_of-pass
invariant_of-pass g c =
    let is = c.split_seat-seat.ensures.2 in
    let facts = subst (λ (m : Me (Option g.row.T.Denot) (View g.row.T-Entry.Denot g.row.T-Fixed.Denot)). Facts g.T.Stands.number m.0) (sym is) (facts_split g.T.Stands.number c.pass.inside.seat.me.0 c.pass.invariant.5) in
    (search rules, search rules, search rules, search rules, search rules, facts)

pub returns-clause-facts : goal.returns-clause-facts
returns-clause-facts g c =
    let is = c.split_seat-seat.ensures.2 in (
      subst (λ (m : Me (Option g.row.T.Denot) (View g.row.T-Entry.Denot g.row.T-Fixed.Denot)). Facts g.T.Stands.number m.0) (sym is) (facts_split g.T.Stands.number c.pass.inside.seat.me.0 c.pass.invariant.5),
      subst (λ (m : Me (Option g.row.T.Denot) (View g.row.T-Entry.Denot g.row.T-Fixed.Denot)). Facts g.T.Stands.number m.0) (sym c.load.ensures.2.0) c.load.ensures.2.2,
    )
