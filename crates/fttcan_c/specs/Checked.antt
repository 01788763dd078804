-- What is found of the text of a plan, beside a table and a window.
use Rattle.std.specs.Prelude.{◌≡◌, ℕ, ◌+◌, ◌<◌, ◌≤◌, List, length}
use Rattle.profile.specs.Limits.{cycles_end}
use Rattle.requirement_table.specs.declared.entries.Placed.{Placed}
use Rattle.bit_sets.specs.Sets.{has_bit}
use Rattle.requirement_table.specs.Table.{IsWellPlaced}
use Rattle.plan_check.specs.declared.breach.Breach.{Breach}
use Rattle.plan_check.specs.Breaches.{IsBreach}
use Rattle.plan_check.specs.Certificate.{CertificateView}
use Rattle.plan_check.specs.PlanKept.{HasPending, IsTaken}
use Rattle.plan_check.specs.PlanText.{IsFirstWrongLine, IsTextOfPlan}
use Rattle.fttcan_c.specs.declared.checked.Finding.{Finding}
use Rattle.fttcan_c.specs.declared.checked.Finding.TheVariants.{Kept, Broken, Unread}
use Rattle.c_values.specs.declared.plain.FttBreach.{FttBreach}
use Rattle.c_values.specs.declared.plain.FttPlaced.{FttPlaced}
use Rattle.c_values.specs.declared.refusal.ExportRefusal.{ExportRefusal}
use Rattle.c_values.specs.declared.refusal.ExportRefusal.TheVariants.{Memory, Argument, Table, State, Room, Miss, Closed, Open, Text, No}
use Rattle.c_values.specs.Plain.{table_of}
use Rattle.c_values.specs.Told.{breach_told}

-- the plan begins where slots are pending that have an instance then, and its cycles are in range
pub record BeginsRight (placed : List Placed) (certificate : CertificateView) : Type 0 where
  pub pending : HasPending placed certificate.from (has_bit certificate.pending)
  pub cycles : certificate.from + length certificate.masks ≤ cycles_end

-- the text is that of a plan which begins rightly and keeps the well placed table for ever
pub record IsPlanTaken (placed : List Placed) (window : ℕ) (text : List ℕ) : Type 0 where
  pub well_placed : IsWellPlaced placed
  pub certificate : CertificateView
  pub read : IsTextOfPlan text certificate
  pub begins : BeginsRight placed certificate
  pub taken : IsTaken placed window certificate

-- the text is that of a plan which begins rightly, and whose first breach C is told
pub record IsPlanBroken (placed : List Placed) (window : ℕ) (text : List ℕ) (told : FttBreach) : Type 0 where
  pub well_placed : IsWellPlaced placed
  pub certificate : CertificateView
  pub read : IsTextOfPlan text certificate
  pub begins : BeginsRight placed certificate
  pub breach : Breach
  pub found : IsBreach placed window certificate breach
  pub told_is : told ≡ breach_told breach

abbrev pub IsFinding : List Placed → ℕ → List ℕ → Finding → Type 0
IsFinding placed window text Kept = IsPlanTaken placed window text
IsFinding placed window text (Broken breach) = IsPlanBroken placed window text breach
IsFinding placed window text (Unread number) = IsWellPlaced placed × IsFirstWrongLine text number

-- the text is that of a plan that begins wrongly
pub record IsPlanAstray (placed : List Placed) (text : List ℕ) : Type 0 where
  pub certificate : CertificateView
  pub read : IsTextOfPlan text certificate
  pub astray : BeginsRight placed certificate → ⊥

-- why nothing is found; want of memory says nothing
abbrev pub RefusesPlanOf : List Placed → List ℕ → ExportRefusal → Type 0
RefusesPlanOf placed text Memory = Unit {0}
RefusesPlanOf placed text Argument = ⊥
RefusesPlanOf placed text Table = IsWellPlaced placed → ⊥
RefusesPlanOf placed text State = IsWellPlaced placed × IsPlanAstray placed text
RefusesPlanOf placed text Room = ⊥
RefusesPlanOf placed text Miss = ⊥
RefusesPlanOf placed text Closed = ⊥
RefusesPlanOf placed text Open = ⊥
RefusesPlanOf placed text Text = ⊥
RefusesPlanOf placed text No = ⊥

abbrev pub RefusesPlan : List FttPlaced → List ℕ → ExportRefusal → Type 0
RefusesPlan placed text refusal = RefusesPlanOf (table_of placed) text refusal
