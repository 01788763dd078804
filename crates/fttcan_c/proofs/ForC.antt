-- A core that C can have a master of stays one.
use Rattle.std.proofs.Common.{◌≡◌, ℕ, Bool, true, false, if◌then◌else◌, refl, sym, ◌∙◌, subst}
use Rattle.trigger_kind.specs.Kind.{IsSlots}
use Rattle.change_protocol.specs.declared.operations.Change.{Change}
use Rattle.admission_rules.specs.declared.Rules.{Rules}
use Rattle.admission.specs.declared.verdict.Verdict.{Verdict}
use Rattle.admission.specs.Verdict.{is_accepted}
use Rattle.master_core.specs.Cores.{CoreView, answered_by}
use Rattle.fttcan_c.specs.Saving.{IsForC}

one-of-both : (accepted : Bool) (other core : CoreView) → other.rules ≡ core.rules → other.forgets ≡ core.forgets → IsForC core
    → IsForC (if accepted then other else core)
one-of-both true other core rules forgets is = record {
  forgets = forgets ∙ is.forgets;
  slots = subst (λ (r : Rules). IsSlots r.slots) (sym rules) is.slots;
}
one-of-both false other core rules forgets is = is

pub answered_for_c : (core : CoreView) (from : ℕ) (change : Change) (verdict : Verdict) → IsForC core
    → IsForC (answered_by core from change verdict)
answered_for_c core from change verdict is = one-of-both (is_accepted verdict) _ core refl refl is
