use Rattle.std.proofs.Common.{◌∙◌, ap, inl, inr, rules}
use Rattle.fttcan_top.proofs.auditing.audit_of.Goals as goal

pub returns-in_ok-to_vec-in-Ok : goal.returns-in_ok-to_vec-in-Ok
returns-in_ok-to_vec-in-Ok c =
    let log = c.requires.log in
    let audited = rw (c.as_slice-steps.ensures.list, c.as_slice-requests.ensures.list) at (c.in-Ok.ensures.answer log.0 (rw c.as_slice-log.ensures.list log.1)) in
    record { answer = record { rows = log.0; read = log.1; says = (audited, search rules) }; done = tt }

pub returns-in_ok-format-in-Err-Row : goal.returns-in_ok-format-in-Err-Row
returns-in_ok-format-in-Err-Row c =
    let log = c.requires.log in
    let first = rw (c.in-Err-Row.field-0-is, c.as_slice-steps.ensures.list, c.as_slice-requests.ensures.list)
    at (c.in-Err-Row.ensures.answer log.0 (rw c.as_slice-log.ensures.list log.1)) in
    let written = ap (λ v. v.items) c.into_bytes.ensures.value ∙ c.in_ok-format-in-Err-Row.ensures.ok in
    record { answer = record { rows = log.0; read = log.1; says = inl (c.in-Err-Row.number, first, written) }; done = tt }

pub returns-in_ok-to_vec-in-Err-Unfinished : goal.returns-in_ok-to_vec-in-Err-Unfinished
returns-in_ok-to_vec-in-Err-Unfinished c =
    let log = c.requires.log in
    let unfinished = rw (c.in-Err-Unfinished.field-0-is, c.as_slice-steps.ensures.list, c.as_slice-requests.ensures.list)
    at (c.in-Err-Unfinished.ensures.answer log.0 (rw c.as_slice-log.ensures.list log.1)) in
    record { answer = record { rows = log.0; read = log.1; says = inr (unfinished, search rules) }; done = tt }
