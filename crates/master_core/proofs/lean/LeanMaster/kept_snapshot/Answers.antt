use Rattle.std.proofs.Common.{◌≡◌, ℕ, ap, subst, sym}
use Rattle.planner_policies.specs.Plan.{IsValid}
use Rattle.master_core.specs.Journals.{LeanView}
use Rattle.master_core.specs.Kept.{kept_snapshot}
use Rattle.master_core.proofs.lean.LeanMaster.kept_snapshot.Goals as goal

pub invariant_of-result : goal.invariant_of-result
invariant_of-result c =
    let is = c.known.ensures.core in
    let valid = subst (λ (v : LeanView). IsValid v.placed c.args.state.now.cycle c.args.state.now.pending) (sym c.self.view_is) c.requires.valid in
    rw (c.rules.ensures.rules, c.in_ok-placed.ensures.same, c.placed.ensures.list)
    (record { rules = is.safe.in_range; well_placed = is.safe.safe.well_placed; valid = valid; next = c.requires.next })

pub returns : goal.returns
returns c =
    record {
      snapshot = rw (c.rules.ensures.rules, c.in_ok-placed.ensures.same, c.placed.ensures.list, c.accepted.ensures.accepted)
          (subst (λ (v : LeanView). record {
            rules = c.self.inside.core.rules;
            placed = c.self.inside.core.placed;
            state = c.args.state.now;
            accepted = c.self.inside.core.accepted;
          } ≡ kept_snapshot v c.args.state.now) c.self.view_is
          (ap (λ (n : ℕ). record { rules = c.self.inside.core.rules; placed = c.self.inside.core.placed; state = c.args.state.now; accepted = n }) c.self.invariant.0.counted));
    }
