use Rattle.requirement_table.proofs.Bytes.{drop-bytes_high_first}
use Rattle.requirement_table.proofs.instances.Payload.of.Goals as goal

pub returns-clause-bytes : goal.returns-clause-bytes
returns-clause-bytes c = rw c.to_be_bytes.ensures (drop-bytes_high_first 8 c.args.size c.args.number c.requires)
