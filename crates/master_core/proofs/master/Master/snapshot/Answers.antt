use Rattle.std.proofs.Common.{◌≡◌, subst}
use Rattle.master_core.specs.Apart.{snapshot_of}
use Rattle.master_core.specs.Keeping.{MasterView}
use Rattle.master_core.proofs.Whole.{whole-snapshot}
use Rattle.master_core.proofs.master.Master.snapshot.Goals as goal

pub returns-clause-snapshot : goal.returns-clause-snapshot
returns-clause-snapshot c =
    rw (c.rules.ensures.rules, c.in_ok-placed.ensures.same, c.placed.ensures.list, c.state.ensures.cycle, c.state.ensures.pending, c.accepted.ensures.accepted)
    (subst (λ (v : MasterView). record {
      rules = c.self.inside.core.rules;
      placed = c.self.inside.core.placed;
      state = record { cycle = c.self.inside.core.cycle; pending = c.self.inside.core.pending };
      accepted = c.self.inside.core.accepted;
    } ≡ snapshot_of v.rules v.history) c.self.view_is
    (whole-snapshot _ _ c.known.ensures.core c.self.invariant.0 c.self.invariant.1))

pub returns-clause-plannable : goal.returns-clause-plannable
returns-clause-plannable c =
    rw (c.rules.ensures.rules, c.in_ok-placed.ensures.same, c.placed.ensures.list, c.state.ensures.cycle, c.state.ensures.pending, c.accepted.ensures.accepted)
    (let is = c.known.ensures.core in
    record { rules = is.safe.in_range; well_placed = is.safe.safe.well_placed; valid = is.safe.safe.held; next = is.safe.near })
