use Rattle.std.proofs.Common.{rules, ap, ◌∙◌}
use Rattle.turn_lock.specs.Passes.{Known}
use Rattle.turn_lock.proofs.Word.{looks}
use Rattle.turn_lock.proofs.turn.Turn.length.Goals as goal

pub load-requires : goal.load-requires
load-requires g c =
    let idle = ap (λ (k : Known g.row.T-Entry.Denot g.row.T-Fixed.Denot). k.view.found) c.pass.view_is ∙ c.requires.ready.1 in
    (search rules, search rules, looks _ _ _ _ _ _ _ c.pass.invariant.3 idle)
