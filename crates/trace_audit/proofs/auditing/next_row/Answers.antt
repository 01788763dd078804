use Rattle.trace_audit.proofs.auditing.next_row.Goals as goal

pub unreachable-requires : goal.unreachable-requires
unreachable-requires c =
    let (bytes, read, rows, behind, are) = c.requires.log in
    let fault = rw c.in-Err-Row.field-0-is at (c.in-Err-Row.ensures.faulty bytes read behind) in
    c.one_log.ensures.no_fault bytes rows _ are fault
