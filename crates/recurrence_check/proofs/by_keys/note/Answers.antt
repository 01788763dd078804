use Rattle.recurrence_check.proofs.Noted.{key-apart}
use Rattle.recurrence_check.proofs.by_keys.note.Goals as goal

pub returns-clause-met : goal.returns-clause-met
returns-clause-met c =
    let updates = c.in_ok-earlier.ensures.updates in
    (c.in_ok-earlier.ensures.old, λ none. (updates.1, λ other apart. updates.2 other (key-apart (c.args.mark, c.args.place) other apart)))
