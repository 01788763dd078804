use Rattle.std.proofs.Common.{◌∙◌, ap, false, subst, sym}
use Rattle.master_core.specs.Cores.{CoreView, IsStateAs, with_all}
use Rattle.master_core.proofs.Legal.{sound-of_legal}
use Rattle.master_core.proofs.States.{state-all}
use Rattle.master_core.proofs.lean.whole.Goals as goal

pub into_all-requires : goal.into_all-requires
into_all-requires c =
    let sound = sound-of_legal c.args.core.rules c.args.events.now c.requires.state.legal in
    rw c.requires.all (record {
      pruned = c.requires.state.held;
      slots = sound.slots;
      nodes = sound.nodes;
    })

pub returns-clause-rules : goal.returns-clause-rules
returns-clause-rules c = ap (λ (v : CoreView). v.rules) c.into_all.ensures.core

pub returns-clause-state : goal.returns-clause-state
returns-clause-state c =
    subst (IsStateAs false c.args.events.now) (sym (c.into_all.ensures.core ∙ ap (with_all c.args.core) c.requires.all))
    (state-all c.args.events.now c.args.core c.requires.state)

pub returns-clause-forgets : goal.returns-clause-forgets
returns-clause-forgets c = ap (λ (v : CoreView). v.forgets) c.into_all.ensures.core
