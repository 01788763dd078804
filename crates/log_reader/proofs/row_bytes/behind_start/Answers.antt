use Rattle.std.proofs.Common.{◌+◌, ◌-◌, ◌++◌, ◌∙◌, ◌<◌, codes, get_or, ap, sym, arith}
use Rattle.std.proofs.lemmas.Bool.Decides.{nat_tests}
use Rattle.std.proofs.lemmas.List.{get_or-drop}
use Rattle.std.specs.Char.{is_ascii_digit}
use Rattle.log_reader.proofs.FieldBytes.{number-behind, some-by}
use Rattle.log_reader.proofs.row_bytes.behind_start.Goals as goal

pub returns-then-are_number : goal.returns-then-are_number
returns-then-are_number c =
    let bytes = c.args.bytes.now in
    let run = c.frame_run-run.result in
    let is = c.frame_run-run.ensures in
    let few = is.few in
    let within = is.within in
    let more : 6 < run = grind (arith, nat_tests) in
    let digits = c.bytes_from-digits.result.now in
    let rest_is = c.bytes_from-digits.ensures.rest in
    let size = c.bytes_from-digits.ensures.size in
    record {
      start = some-by c.behind_at.result c.behind_at.ensures.rest (λ rest found.
          let (n, small, written) = number-behind digits (run - 6) (omega (arith, within, size, more)) (omega (arith, few)) 16 44 rest.now
          (omega arith) (omega (arith, few)) (omega (arith, more)) (c.are_number.ensures.no_zero c.if-are_number.true)
          (λ i before. ap is_ascii_digit (ap (λ l. get_or l i 0) rest_is ∙ get_or-drop 6 bytes i 0)
          ∙ is.digits (6 + i) (omega arith) (omega (arith, before))) found in
          (n, small, is.word (omega (arith, more)) ∙ ap (λ l. codes "frame," ++ l) (sym rest_is ∙ written)));
    }
