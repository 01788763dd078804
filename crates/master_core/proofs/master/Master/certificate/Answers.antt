use Rattle.std.proofs.Common.{◌∙◌}
use Rattle.master_core.proofs.Certificates.{kept-no_fault, kept-opened, kept-told}
use Rattle.master_core.proofs.Keeping.{kept-in_time, kept-well_placed}
use Rattle.master_core.proofs.Whole.{whole-kept}
use Rattle.master_core.proofs.master.Master.certificate.Goals as goal

pub certify-requires-clause-well_placed : goal.certify-requires-clause-well_placed
certify-requires-clause-well_placed c =
    rw c.placed-placed.ensures.list (kept-well_placed _ _ _ _ _ _ _ _ (whole-kept _ _ c.known.ensures.core c.self.invariant.0 c.self.invariant.1))

pub certify-requires-clause-opened : goal.certify-requires-clause-opened
certify-requires-clause-opened c =
    let opened = kept-opened _ _ _ _ _ _ _ _ (whole-kept _ _ c.known.ensures.core c.self.invariant.0 c.self.invariant.1) in
    rw (c.placed-placed.ensures.list, c.rules-rules.ensures.rules, c.state-state.ensures.cycle)
    (c.as_slice-masks.ensures.value ∙ c.in_ok-opened.ensures.masks ∙ rw c.as_slice-events.ensures.value opened)

pub certify-requires-clause-in_time : goal.certify-requires-clause-in_time
certify-requires-clause-in_time c =
    rw (c.placed-placed.ensures.list, c.rules-rules.ensures.rules)
    (λ m slot early known. kept-in_time _ _ _ _ _ _ _ _ (whole-kept _ _ c.known.ensures.core c.self.invariant.0 c.self.invariant.1) m slot known)

pub certify_known-requires-clause-well_placed : goal.certify_known-requires-clause-well_placed
certify_known-requires-clause-well_placed c =
    rw c.placed-placed.ensures.list (kept-well_placed _ _ _ _ _ _ _ _ (whole-kept _ _ c.known.ensures.core c.self.invariant.0 c.self.invariant.1))

pub certify_known-requires-clause-opened : goal.certify_known-requires-clause-opened
certify_known-requires-clause-opened c =
    let opened = kept-opened _ _ _ _ _ _ _ _ (whole-kept _ _ c.known.ensures.core c.self.invariant.0 c.self.invariant.1) in
    rw (c.placed-placed.ensures.list, c.rules-rules.ensures.rules, c.state-state.ensures.cycle)
    (c.as_slice-masks.ensures.value ∙ c.in_ok-opened.ensures.masks ∙ rw c.as_slice-events.ensures.value opened)

pub certify_known-requires-clause-in_time : goal.certify_known-requires-clause-in_time
certify_known-requires-clause-in_time c =
    rw (c.placed-placed.ensures.list, c.rules-rules.ensures.rules)
    (λ m slot early known. kept-in_time _ _ _ _ _ _ _ _ (whole-kept _ _ c.known.ensures.core c.self.invariant.0 c.self.invariant.1) m slot known)

-- its repeat was told
pub certify_known-requires-clause-repeats : goal.certify_known-requires-clause-repeats
certify_known-requires-clause-repeats c =
    rw (c.placed-placed.ensures.list, c.rules-rules.ensures.rules, c.state-state.ensures.cycle, c.state-state.ensures.pending)
    (kept-told _ _ _ _ _ _ _ _ (whole-kept _ _ c.known.ensures.core c.self.invariant.0 c.self.invariant.1) c.told_repeat.result
    (rw (c.state-state.ensures.cycle, c.as_slice-events.ensures.value) at c.told_repeat.ensures.told) c.in-Some.again c.in-Some.is)

pub unreachable-requires : goal.unreachable-requires
unreachable-requires c =
    let fault =
    rw (c.placed-placed.ensures.list, c.rules-rules.ensures.rules, c.state-state.ensures.cycle, c.state-state.ensures.pending) at c.in-Err-Miss.ensures.fault in
    let memory =
    kept-no_fault _ _ _ _ _ _ _ _ (whole-kept _ _ c.known.ensures.core c.self.invariant.0 c.self.invariant.1) c.loops.ensures.pending c.in-Err-Miss.field-0 fault in
    let is = c.in-Err-Miss.field-0-is in
    cc

pub unreachable-requires-in-Err-NoRepeat : goal.unreachable-requires-in-Err-NoRepeat
unreachable-requires-in-Err-NoRepeat c =
    let fault =
    rw (c.placed-placed.ensures.list, c.rules-rules.ensures.rules, c.state-state.ensures.cycle, c.state-state.ensures.pending) at c.in-Err-NoRepeat.ensures.fault in
    let memory =
    kept-no_fault _ _ _ _ _ _ _ _ (whole-kept _ _ c.known.ensures.core c.self.invariant.0 c.self.invariant.1) c.loops.ensures.pending c.in-Err-NoRepeat.field-0
    fault in
    let is = c.in-Err-NoRepeat.field-0-is in
    cc
