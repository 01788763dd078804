use Rattle.std.proofs.Common.{arith}
use Rattle.text_fields.proofs.Shared.{pow-small}
use Rattle.requests_file.proofs.requests.read_short.Goals as goal

pub overflow_cast-result : goal.overflow_cast-result
overflow_cast-result c =
    let small = pow-small 3 _ c.in_ok-number.number c.in_ok-number.ensures.small (omega arith) in
    omega arith
