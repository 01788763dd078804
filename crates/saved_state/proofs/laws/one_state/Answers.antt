use Rattle.std.proofs.Common.{◌∙◌, ap, sym}
use Rattle.master_core.specs.Cores.{core_of}
use Rattle.saved_state.proofs.Standing.{same-state}
use Rattle.saved_state.proofs.laws.one_state.Goals as goal

pub returns-clause-states : goal.returns-clause-states
returns-clause-states c one other bytes first second = same-state one other bytes first second

pub returns-clause-cores : goal.returns-clause-cores
returns-clause-cores c one other bytes is also first second =
    sym (c.saved_cores.ensures.saved one is) ∙ ap core_of (same-state _ _ bytes first second) ∙ c.saved_cores.ensures.saved other also
