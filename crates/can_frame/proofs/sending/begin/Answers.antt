-- The fields before the data are three parts, and the data bytes stand behind them.
use Rattle.std.proofs.Common.{◌≡◌, ◌-◌, ◌/◌, ◌%◌, [], ◌++◌, length, take, sym, ◌∙◌, arith}
use Rattle.stuff_bound.specs.Fields.{bits}
use Rattle.can_frame.specs.Wire.{header}
use Rattle.can_frame.proofs.Begun.{begun_number, begun-none}
use Rattle.can_frame.proofs.ByteSums.{so_far, so_far-none}
use Rattle.can_frame.proofs.PlainFields.{header-parts}
use Rattle.can_frame.proofs.sending.begin.Goals as goal

pub loop-byte-init : goal.loop-byte-init
loop-byte-init c =
    let frame = c.args.frame.now in
    let n = length frame.bytes in
    let value = c.header_number-header.result in
    let high = bits 3 (value / 0x10000) in
    let middle = bits 8 (value / 0x100 % 0x100) in
    let low = bits 8 (value % 0x100) in
    let first = c.then.ensures.given [] c.new.ensures.given in
    let second = c.then-2.ensures.given high first in
    let third = c.then-3.ensures.given (high ++ middle) second in
    let parts : (high ++ middle) ++ low ≡ header frame.identifier n = header-parts frame.identifier n value (omega arith) (omega arith) c.header_number-header.ensures.value in
    let start : value ≡ so_far frame.identifier n (take 0 frame.bytes) = c.header_number-header.ensures.value ∙ sym (so_far-none frame.identifier n (omega arith) (omega arith)) in
    let behind : c.from-behind.result ≡ n - 0 = omega arith in
    record {
      all = omega arith;
      begun = grind (arith, begun_number, so_far, begun-none);
    }
