use Rattle.std.proofs.Common.{◌∷◌, ◌++◌, [], List, Option, Some, ap, ◌∙◌, sym}
use Rattle.turn_lock.proofs.Ending.{opens}
use Rattle.turn_lock.proofs.turn.Turn.new.Goals as goal

pub new-requires : goal.new-requires
new-requires g c =
    let items = c.in_ok-push.ensures.items ∙ ap (λ (l : List (Option g.row.T.Denot)). l ++ Some c.args.value ∷ []) c.new-slots.ensures.items in
    rw items (opens _ _ _ _ c.args.value c.requires.empty (ap g.T.Stands.fixed (sym c.of-first.ensures)))
