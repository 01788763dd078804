use Rattle.log_reader.proofs.Readings.{none-faulty, one-log, read-first}
use Rattle.log_reader.proofs.laws.one_log.Goals as goal

pub returns : goal.returns
returns c = record {
  one = one-log;
  no_fault = λ bytes rows number are. none-faulty bytes rows are.0 are.1 number;
  first = read-first;
}
