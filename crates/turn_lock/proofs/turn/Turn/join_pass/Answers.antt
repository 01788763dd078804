use Rattle.std.proofs.Common.{rules, ap, ◌∙◌, sym, subst, Option, List}
use mathlib.Core.List.{IsPrefix}
use Rattle.atomic_table.specs.Table.{Me}
use Rattle.turn_lock.specs.Passes.{Facts, Known}
use Rattle.turn_lock.specs.declared.view.View.{View}
use Rattle.turn_lock.proofs.Joining.{joins}
use Rattle.turn_lock.proofs.Passed.{met_left, met_right}
use Rattle.turn_lock.proofs.Word.{looks}
use Rattle.turn_lock.proofs.turn.Turn.join_pass.Goals as goal

pub join_seat-requires : goal.join_seat-requires
join_seat-requires g c =
    let idle = ap (λ (k : Known g.row.T-Entry.Denot g.row.T-Fixed.Denot). k.view.found) c.pass.view_is ∙ c.requires.ready.1 in
    let other_idle = ap (λ (k : Known g.row.T-Entry.Denot g.row.T-Fixed.Denot). k.view.found) c.other.view_is ∙ c.requires.other.1 in
    let first = ap (λ (k : Known g.row.T-Entry.Denot g.row.T-Fixed.Denot). k.view.number) c.pass.view_is ∙ c.requires.first in
    (search rules, search rules, search rules, search rules, joins _ _ _ _ _ _ _ _ c.pass.invariant.3 c.other.invariant.3 idle other_idle first)

pub load-requires : goal.load-requires
load-requires g c =
    let is = c.join_seat.ensures.2 in
    let alive = ap (λ (m : Me (Option g.row.T.Denot) (View g.row.T-Entry.Denot g.row.T-Fixed.Denot)). m.0.spent) is ∙ c.pass.invariant.3 in
    let idle = ap (λ (m : Me (Option g.row.T.Denot) (View g.row.T-Entry.Denot g.row.T-Fixed.Denot)). m.0.found) is ∙ (ap (λ (k : Known g.row.T-Entry.Denot g.row.T-Fixed.Denot). k.view.found) c.pass.view_is ∙ c.requires.ready.1) in
    (search rules, search rules, looks _ _ _ _ _ _ _ alive idle)

pub returns-clause-this : goal.returns-clause-this
returns-clause-this g c =
    let same = c.load.ensures.2.0 in
    let is = ap (λ (m : Me (Option g.row.T.Denot) (View g.row.T-Entry.Denot g.row.T-Fixed.Denot)). m.0) (same ∙ c.join_seat.ensures.2) in
    let facts = subst (λ (m : Me (Option g.row.T.Denot) (View g.row.T-Entry.Denot g.row.T-Fixed.Denot)). Facts g.T.Stands.number m.0) (sym same) c.load.ensures.2.2 in
    subst (λ (xs : List g.row.T-Entry.Denot). IsPrefix xs c.load.new.seat.me.0.seen) (ap (λ (k : Known g.row.T-Entry.Denot g.row.T-Fixed.Denot). k.view.seen) c.pass.view_is)
    (met_left g.T.Stands.number c.load.new.seat.me.0 facts c.pass.inside.seat.me.0 c.other.inside.seat.me.0 is)

pub returns-clause-that : goal.returns-clause-that
returns-clause-that g c =
    let same = c.load.ensures.2.0 in
    let is = ap (λ (m : Me (Option g.row.T.Denot) (View g.row.T-Entry.Denot g.row.T-Fixed.Denot)). m.0) (same ∙ c.join_seat.ensures.2) in
    let facts = subst (λ (m : Me (Option g.row.T.Denot) (View g.row.T-Entry.Denot g.row.T-Fixed.Denot)). Facts g.T.Stands.number m.0) (sym same) c.load.ensures.2.2 in
    subst (λ (xs : List g.row.T-Entry.Denot). IsPrefix xs c.load.new.seat.me.0.seen) (ap (λ (k : Known g.row.T-Entry.Denot g.row.T-Fixed.Denot). k.view.seen) c.other.view_is)
    (met_right g.T.Stands.number c.load.new.seat.me.0 facts c.pass.inside.seat.me.0 c.other.inside.seat.me.0 is)
