use Rattle.std.proofs.Common.{◌≡◌, refl, ap, ◌∙◌, sym, subst, Some}
use mathlib.Core.Option.{some-injective}
use Rattle.std.specs.Option.{IsSome}
use Rattle.turn_lock.specs.Passes.{Known, Lock, IsCovered}
use Rattle.turn_lock.specs.declared.view.View.{View}
use Rattle.turn_lock.proofs.Ending.{closes}
use Rattle.turn_lock.proofs.Passed.{covered_whole}
use Rattle.turn_lock.proofs.turn.Turn.close.Given.{Over}
use Rattle.turn_lock.proofs.turn.Turn.close.Goals.{After-take}
use Rattle.turn_lock.proofs.turn.Turn.close.Goals as goal

some_inner : {A : Type 0} (a b : A) → Some a ≡ Some b → a ≡ b
some_inner a b e = cc

-- the value at home stands for what the pass has seen
module _ (g : Over) (c : After-take g) where
  at_home : (x : g.row.T.Denot) × (c.take.result ≡ Some x) × (g.T.Stands.entries x ≡ c.args.pass.view.seen) × (g.T.Stands.fixed x ≡ c.args.self.fixed)
  at_home =
      let final = c.close_with-closed.ensures.values.2 in
      let known = λ (k : Known g.row.T-Entry.Denot g.row.T-Fixed.Denot). k.view in
      let is = ap known c.pass.view_is in
      let idle = ap (λ (v : View g.row.T-Entry.Denot g.row.T-Fixed.Denot). v.found) is ∙ c.requires.ready.1 in
      let first = ap (λ (v : View g.row.T-Entry.Denot g.row.T-Fixed.Denot). v.number) is ∙ c.requires.first in
      let none_out = ap (λ (v : View g.row.T-Entry.Denot g.row.T-Fixed.Denot). v.out) is ∙ c.requires.joined in
      let e = closes _ _ _ _ final.0 _ _ final.1 c.pass.invariant.3 first none_out idle in (
        e.0,
        some-injective _ _ (sym c.take.ensures.value ∙ final.4 0 (Some e.0) e.1),
        e.2 ∙ ap (λ (v : View g.row.T-Entry.Denot g.row.T-Fixed.Denot). v.seen) is,
        e.3 ∙ ap (λ (l : Lock g.row.T-Fixed.Denot). l.fixed) c.self.view_is,
      )

pub unwrap-value-requires : goal.unwrap-value-requires
unwrap-value-requires g c = let home = at_home g c in subst IsSome (sym home.1) refl

pub returns-clause-stands : goal.returns-clause-stands
returns-clause-stands g c =
    let home = at_home g (goal.at.returns-clause-stands g c).After-take in
    ap g.T.Stands.entries (some_inner _ _ (sym c.unwrap-value.ensures ∙ home.1)) ∙ home.2

pub returns-clause-fixed : goal.returns-clause-fixed
returns-clause-fixed g c =
    let home = at_home g (goal.at.returns-clause-fixed g c).After-take in
    ap g.T.Stands.fixed (some_inner _ _ (sym c.unwrap-value.ensures ∙ home.1)) ∙ home.3

pub returns-clause-covered : goal.returns-clause-covered
returns-clause-covered g c =
    let first = ap (λ (k : Known g.row.T-Entry.Denot g.row.T-Fixed.Denot). k.view.number) c.pass.view_is ∙ c.requires.first in
    let none_out = ap (λ (k : Known g.row.T-Entry.Denot g.row.T-Fixed.Denot). k.view.out) c.pass.view_is ∙ c.requires.joined in
    subst (λ (k : Known g.row.T-Entry.Denot g.row.T-Fixed.Denot). IsCovered k.view) c.pass.view_is (covered_whole g.T.Stands.number c.pass.inside.seat.me.0 c.pass.invariant.5 first none_out)
