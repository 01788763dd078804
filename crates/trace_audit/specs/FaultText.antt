-- The text of why rows are not the log of a whole run, as a user is told it.
use Rattle.std.specs.Prelude.{ℕ, List, ◌++◌, codes}
use Rattle.std.specs.Fmt.{decimal}
use Rattle.trace_audit.specs.declared.audit_fault.AuditFault.{AuditFault}
use Rattle.trace_audit.specs.declared.audit_fault.AuditFault.TheVariants.{Row, Unfinished, Memory}

-- what is told of a fault: the least number of first rows that cannot stand, or that the rows are not those of a whole
-- run, or that memory ran out
abbrev pub audit_fault_text : AuditFault → List ℕ
audit_fault_text (Row number) = codes "row " ++ decimal number
audit_fault_text Unfinished = codes "unfinished"
audit_fault_text Memory = codes "out of memory"
