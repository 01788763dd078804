use Rattle.std.proofs.Common.{rules, ℕ, ◌∷◌, List, Option, Some, sym, ap, ◌∙◌}
use Rattle.atomic_table.specs.Table.{Me, rest}
use Rattle.turn_lock.specs.Passes.{Known}
use Rattle.turn_lock.specs.declared.view.View.{View}
use Rattle.turn_lock.proofs.Word.{tries, told_even}
use Rattle.turn_lock.proofs.held.take_turn.Goals as goal

pub fetch_or-word-requires : goal.fetch_or-word-requires
fetch_or-word-requires g c =
    let idle = ap (λ (k : Known g.row.T-Entry.Denot g.row.T-Fixed.Denot). k.view.found) c.pass.view_is ∙ c.requires.ready.1 in
    (search rules, search rules, tries _ _ _ _ _ _ _ c.pass.invariant.3 idle)

pub exchange-requires : goal.exchange-requires
exchange-requires g c =
    let got = told_even _ _ _ c.if-word-eq1.false c.fetch_or-word.ensures.2 in
    let out = ap (λ (m : Me (Option g.row.T.Denot) (View g.row.T-Entry.Denot g.row.T-Fixed.Denot)). m.1) got.now in
    (search rules, (Some got.value, out ∙ ap (λ (l : List (ℕ × Option g.row.T.Denot)). (0, Some got.value) ∷ l) (sym (ap rest out))))
