use Rattle.std.proofs.Common.{◌≡◌, ℕ, ◌*◌, ◌≤◌, List, length, take, arith}
use Rattle.std.proofs.lemmas.List.{length-take-le}
use Rattle.stuff_bound.specs.Fields.{bits_of}
use Rattle.stuff_bound.proofs.Fields.{length-bits_of}
use Rattle.std.proofs.lemmas.List.{length-reverse}
use Rattle.stuff_bound.proofs.stuffing.stuffed_len_bytes.Goals as goal

-- the bits are there
length-first : (bytes : List ℕ) (count : ℕ) → count ≤ 8 * length bytes → length (take count (bits_of bytes)) ≡ count
length-first bytes count within = length-take-le count (bits_of bytes) (omega (arith, length-bits_of bytes))

pub overflow_add-result : goal.overflow_add-result
overflow_add-result c = grind (arith, length-reverse, length-first)

pub returns-clause-len : goal.returns-clause-len
returns-clause-len c = grind (arith, length-first)

pub returns-clause-at_most : goal.returns-clause-at_most
returns-clause-at_most c some = grind (arith, length-first)
