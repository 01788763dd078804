-- Numbers on the wire, the most significant bit first: a dominant bit (`false`) is 0, a recessive one (`true`) is 1.
use Rattle.std.specs.Prelude.{ℕ, ◌+◌, ◌*◌, Bool, List, fold, if◌then◌else◌}

-- the number with these bits
abbrev pub number : List Bool → ℕ
number field = fold (λ value bit. 2 * value + (if bit then 1 else 0)) 0 field
