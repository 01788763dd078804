use Rattle.std.proofs.Common.{[]}
use Rattle.requirement_table.specs.Instance.{bytes_of}
use Rattle.command_cases.proofs.lone.run.Given as goal

abbrev pub ghost-run_live : goal.ghost-run_live
ghost-run_live g a = record { rules = a.shared.now.fixed; layout = a.nodes.layout; owners = []; requests = []; sends = bytes_of }
