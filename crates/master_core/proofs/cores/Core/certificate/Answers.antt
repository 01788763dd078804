use Rattle.master_core.proofs.Certificates.{core-no_fault}
use Rattle.master_core.proofs.cores.Core.certificate.Goals as goal

pub certify_from-requires-clause-well_placed : goal.certify_from-requires-clause-well_placed
certify_from-requires-clause-well_placed c = rw c.as_slice-placed.ensures.value c.self.invariant.0.safe.safe.well_placed

pub certify_from-requires-clause-valid : goal.certify_from-requires-clause-valid
certify_from-requires-clause-valid c = rw c.as_slice-placed.ensures.value c.self.invariant.0.safe.safe.held

pub unreachable-requires : goal.unreachable-requires
unreachable-requires c =
    let fault = rw c.as_slice-placed.ensures.value at c.in-Err-Miss.ensures.fault in
    let memory = core-no_fault _ c.self.invariant.0 c.in-Err-Miss.field-0 fault in
    let is = c.in-Err-Miss.field-0-is in
    cc

pub unreachable-requires-in-Err-NoRepeat : goal.unreachable-requires-in-Err-NoRepeat
unreachable-requires-in-Err-NoRepeat c =
    let fault = rw c.as_slice-placed.ensures.value at c.in-Err-NoRepeat.ensures.fault in
    let memory = core-no_fault _ c.self.invariant.0 c.in-Err-NoRepeat.field-0 fault in
    let is = c.in-Err-NoRepeat.field-0-is in
    cc
