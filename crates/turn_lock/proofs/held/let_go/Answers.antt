use Rattle.std.proofs.Common.{rules, sym, ap, ◌∙◌}
use Rattle.turn_lock.specs.Passes.{Known, Lock}
use Rattle.turn_lock.proofs.Word.{gives_back_at}
use Rattle.turn_lock.proofs.held.let_go.Goals as goal

pub fetch_sub-requires : goal.fetch_sub-requires
fetch_sub-requires g c =
    let found = ap (λ (k : Known g.row.T-Entry.Denot g.row.T-Fixed.Denot). k.view.found) c.pass.view_is ∙ c.requires.same in
    let fixed = c.requires.fixed ∙ sym (ap (λ (l : Lock g.row.T-Fixed.Denot). l.fixed) c.turn.view_is) in
    (search rules, search rules, gives_back_at _ _ _ _ _ _ c.pass.inside.seat.me c.exchange.new.seat.me c.args.value c.exchange.ensures.3 c.pass.invariant.4 c.pass.invariant.3 found fixed)
