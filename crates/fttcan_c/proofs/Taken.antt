-- The text of a plan that keeps a table is taken, but for want of memory.
use Rattle.std.proofs.Common.{◌≡◌, ◌↔◌, ℕ, ◌+◌, ◌-◌, ◌≤◌, Bool, true, false, IsTrue, List, length, refl, sym, subst, true≢false, arith}
use Rattle.profile.specs.Limits.{cycles_end}
use Rattle.bit_sets.specs.Sets.{has_bit}
use Rattle.requirement_table.specs.Table.{IsWellPlaced}
use Rattle.plan_check.specs.Certificate.{CertificateView}
use Rattle.plan_check.specs.PlanKept.{HasPending, IsTaken}
use Rattle.plan_check.specs.PlanText.{IsTextFault, IsTextOfPlan, plan_text}
use Rattle.plan_check.specs.declared.text_fault.PlanTextFault.{PlanTextFault}
use Rattle.plan_check.specs.declared.text_fault.PlanTextFault.TheVariants.{Line}
use Rattle.admission.specs.Certified.{IsCertificateFrom, end_of}
use Rattle.master_core.specs.Cores.{CoreView, IsCore, state_of}
use Rattle.c_values.specs.declared.plain.FttPlaced.{FttPlaced}
use Rattle.c_values.specs.declared.refusal.ExportRefusal.{ExportRefusal}
use Rattle.c_values.specs.declared.refusal.ExportRefusal.TheVariants.{Memory, Argument, Table, State, Room, Miss, Closed, Open, Text, No}
use Rattle.requirement_table.specs.declared.entries.Placed.{Placed}
use Rattle.fttcan_c.specs.Checked.{BeginsRight}
use Rattle.c_values.specs.Plain.{table_of}
use Rattle.fttcan_c.specs.Reading.{IsPlanTextOf}
use Rattle.c_values.specs.Refused.{RefusesTable}

-- a well placed table is refused for want of memory alone
pub only_memory : (placed : List FttPlaced) (refusal : ExportRefusal) → RefusesTable placed refusal → IsWellPlaced (table_of placed)
    → refusal ≡ Memory
only_memory placed Memory why well = refl
only_memory placed Argument why well = absurd why
only_memory placed Table why well = absurd (why well)
only_memory placed State why well = absurd why
only_memory placed Room why well = absurd why
only_memory placed Miss why well = absurd why
only_memory placed Closed why well = absurd why
only_memory placed Open why well = absurd why
only_memory placed Text why well = absurd why
only_memory placed No why well = absurd why

-- the text of a plan has no wrong line
pub no_line : (text : List ℕ) (fault : PlanTextFault) (number : ℕ) (certificate : CertificateView) → fault ≡ Line number
    → IsTextFault text fault → IsTextOfPlan text certificate → ⊥
no_line text fault number certificate is line read =
    (subst (λ (f : PlanTextFault). IsTextFault text f) is line).other certificate read

-- a plan that begins rightly is not one that does not
pub not_astray : (placed : List Placed) (made taken : CertificateView) (right : Bool) → (IsTrue right ↔ BeginsRight placed made)
    → right ≡ false → made ≡ taken → BeginsRight placed taken → ⊥
not_astray placed made taken true found wrong same begins = true≢false wrong
not_astray placed made taken false found wrong same begins =
    true≢false (sym (found.1 (subst (λ (c : CertificateView). BeginsRight placed c) (sym same) begins)))

-- the end of the repeated part is that of the whole list
last-cycle : (from first count end : ℕ) → from ≤ first → 1 ≤ count - (first - from) → first + (count - (first - from)) ≤ end
    → from + count ≤ end
last-cycle from first count end after some within = omega arith

-- the text of the certificate of a core
pub text_of_core : (text : List ℕ) (core : CoreView) (certificate : CertificateView) → IsCore core
    → IsCertificateFrom core.rules core.placed (state_of core) certificate → IsTaken core.placed core.rules.window certificate
    → end_of certificate ≤ cycles_end → IsTextOfPlan (plan_text certificate) certificate → text ≡ plan_text certificate
    → IsPlanTextOf text core
text_of_core text core certificate is onward taken near read same =
    let read_so : IsTextOfPlan text certificate = subst (λ (t : List ℕ). IsTextOfPlan t certificate) (sym same) read in
    let waiting : HasPending core.placed certificate.from (has_bit core.pending) =
    subst (λ (c : ℕ). HasPending core.placed c (has_bit core.pending)) (sym onward.start) is.safe.safe.held in
    record {
      certificate = certificate;
      onward = onward;
      taken = taken;
      text_is = same;
      read = read_so;
      safe = is;
      checked = record {
        well_placed = is.safe.safe.well_placed;
        certificate = certificate;
        read = read_so;
        begins = record {
          pending = subst (λ (p : ℕ). HasPending core.placed certificate.from (has_bit p)) (sym onward.before) waiting;
          cycles = last-cycle certificate.from certificate.first (length certificate.masks) cycles_end
              read.readable.after read.readable.some near;
        };
        taken = taken;
      };
    }
