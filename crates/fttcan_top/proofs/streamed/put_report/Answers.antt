use Rattle.std.proofs.Common.{Err, Ok, OnErr, Result, is_some, refl}
use Rattle.ftt_io.proofs.Shared.{PutsPrefix-nothing, Stays-same}
use Rattle.fttcan_top.specs.Output.{report_if}
use Rattle.fttcan_top.proofs.streamed.put_report.Goals as goal

-- what holds anyway, holds at a fault
at-fault : {T E P : Type 0} (result : Result T E) → P → OnErr result P
at-fault (Ok value) holds = tt
at-fault (Err fault) holds = holds

pub returns-in_err-text-clause-prefix : goal.returns-in_err-text-clause-prefix
returns-in_err-text-clause-prefix g c =
    let told = g.O.Sink.told_bytes c.args.out.now in
    let run = c.args.run in
    at-fault c.from_residual.result
    (λ trace kept. PutsPrefix-nothing told told
    (report_if (is_some run.trace) run.master.history trace c.args.owners.now c.args.requests.now) (Stays-same told told refl))
