-- A plan from a snapshot leads to the core that it was taken of, and behind each opening to the core after it.
use Rattle.std.proofs.Common.{◌≡◌, ℕ, ◌+◌, ◌-◌, true, Bool, if◌then◌else◌, Some, sym, ap, ◌∙◌, subst, arith}
use Rattle.change_protocol.specs.declared.operations.Change.{Change}
use Rattle.change_protocol.specs.Applied.{applied}
use Rattle.planner_policies.specs.declared.state.PlanState.{PlanState}
use Rattle.planner_policies.specs.Plan.{HasNoMiss, Planning, is_missed_at, pending_at}
use Rattle.planner_policies.proofs.Shared.{on-missed}
use Rattle.admission.specs.declared.verdict.Verdict.{Verdict}
use Rattle.admission.specs.Verdict.{is_accepted, plan_from}
use Rattle.master_core.specs.declared.apart.Snapshot.{Snapshot}
use Rattle.master_core.specs.CorePlans.{IsLedTo, Leads, snapshot_of_core}
use Rattle.master_core.specs.Cores.{CoreView, IsCore, answered_by, kept_by, onward, opened, state_of}
use Rattle.master_core.proofs.CorePlans.{none-more}
use Rattle.master_core.proofs.CoreSteps.{state-here}
use Rattle.master_core.proofs.Onward.{later-pending, later_plan}

pub led-here : (core : CoreView) → IsCore core → IsLedTo core (snapshot_of_core core)
led-here core is = grind (arith, state-here)

module _ (core : CoreView) (is : IsCore core) (from : PlanState) (leads : Leads core.rules core.placed from (state_of core)) where
  abbrev plan : Planning
  plan = plan_from core.rules core.placed from.cycle from.pending

  abbrev gone : ℕ
  gone = core.cycle - from.cycle

  goes-on : later_plan plan gone ≡ onward core
  goes-on = grind arith

  one-more : (core.cycle + 1) - from.cycle ≡ gone + 1
  one-more = let early = leads.early in omega arith

  leads-opened : Leads core.rules core.placed from (state_of (opened core))
  leads-opened =
      let early = leads.early in
      let here : gone ≡ gone + 0 = omega arith in
      record {
        early = omega arith;
        held = leads.held;
        in_time =
            subst (HasNoMiss plan) (sym one-more)
            (none-more plan gone leads.in_time
            (λ slot known.
            ap (λ (k : ℕ). is_missed_at plan k slot) here
            ∙ on-missed plan gone 0 slot known
            ∙ ap (λ (p : Planning). is_missed_at p 0 slot) goes-on
            ∙ is.safe.safe.in_time 0 slot known));
        pending =
            sym (ap (λ (p : Planning). pending_at p 1) goes-on) ∙ sym (later-pending plan gone 1) ∙ ap (pending_at plan) (sym one-more);
      }

pub led-opened : (core : CoreView) (snapshot : Snapshot) → IsCore core → IsLedTo core snapshot → IsLedTo (opened core) snapshot
led-opened core snapshot is led = record {
  rules = led.rules;
  placed = led.placed;
  accepted = led.accepted;
  leads = leads-opened core is snapshot.state led.leads;
}

-- an accepted change is counted, so no earlier snapshot has the count

counted : (core : CoreView) (from : ℕ) (change : Change) (b : Bool) → b ≡ true
    → (if b then record core {
      placed = kept_by core.forgets from (applied core.placed change);
      learned = Some (kept_by core.forgets from (applied core.placed change));
      accepted = core.accepted + 1;
    } else core).accepted ≡ core.accepted + 1
counted core from change b on = grind arith

pub not-led : (core : CoreView) (snapshot : Snapshot) (from : ℕ) (change : Change) (verdict : Verdict) → is_accepted verdict ≡ true → IsLedTo core snapshot
    → IsLedTo (answered_by core from change verdict) snapshot → ⊥
not-led core snapshot from change verdict taken led again = grind (arith, counted)
