use Rattle.std.proofs.Common.{◌<◌, All}
use Rattle.bus_cases.proofs.senders.contend.Given as goal

-- the identifiers so far have eleven bits
abbrev pub invariant-loop-id : goal.invariant-loop-id
invariant-loop-id l = All (λ id. id < 0x800) l.contenders
