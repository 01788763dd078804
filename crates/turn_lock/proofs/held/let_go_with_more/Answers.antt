use Rattle.std.proofs.Common.{rules, sym, ap, ◌∙◌}
use Rattle.turn_lock.specs.Passes.{Known, Lock}
use Rattle.turn_lock.proofs.Word.{commits_at}
use Rattle.turn_lock.proofs.held.let_go_with_more.Goals as goal

pub fetch_add-requires : goal.fetch_add-requires
fetch_add-requires g c =
    let next = c.requires.next in
    let found = ap (λ (k : Known g.row.T-Entry.Denot g.row.T-Fixed.Denot). k.view.found) c.pass.view_is ∙ next.1.1 in
    let by = next.1.3 ∙ sym (ap (λ (k : Known g.row.T-Entry.Denot g.row.T-Fixed.Denot). k.view.number) c.pass.view_is) in
    let fixed = c.requires.fixed ∙ sym (ap (λ (l : Lock g.row.T-Fixed.Denot). l.fixed) c.turn.view_is) in
    (search rules, search rules, commits_at _ _ _ _ _ _ c.pass.inside.seat.me c.exchange.new.seat.me c.args.value next.1.0 next.0 c.exchange.ensures.3 c.pass.invariant.4 c.pass.invariant.3 found next.1.2 by fixed (g.T.Stands.few c.args.value))
