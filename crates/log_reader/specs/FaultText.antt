-- The text of why a text is no log, as a user is told it.
use Rattle.std.specs.Prelude.{ℕ, List, ◌++◌, codes}
use Rattle.std.specs.Fmt.{decimal}
use Rattle.log_reader.specs.declared.log_fault.LogFault.{LogFault}
use Rattle.log_reader.specs.declared.log_fault.LogFault.TheVariants.{Row, Memory}

-- what is told of a fault: the number of the first faulty row, or that memory ran out
abbrev pub log_fault_text : LogFault → List ℕ
log_fault_text (Row number) = codes "row " ++ decimal number
log_fault_text Memory = codes "out of memory"
