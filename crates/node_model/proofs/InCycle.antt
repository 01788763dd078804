-- Whether a time lies in a cycle, without a division.
use Rattle.std.proofs.Common.{◌≡◌, ℕ, ◌-◌, ◌*◌, ◌/◌, ◌<◌, ◌≤◌, false, nat_eq, nat_lt, arith}
use Rattle.std.proofs.Math.Nat.{div-lt_iff_lt-mul}
use Rattle.std.proofs.lemmas.Bool.{cases_lt, lt-ltb, le-ltb, ne_eqb}

pub in_cycle-before : (at cycle length : ℕ) → 0 < length → at < cycle * length → nat_eq (at / length) cycle ≡ false
in_cycle-before at cycle length some early = grind (arith, div-lt_iff_lt-mul, ne_eqb)

pub in_cycle-begun : (at cycle length : ℕ) → 0 < length → cycle * length ≤ at → nat_lt (at - cycle * length) length ≡ nat_eq (at / length) cycle
in_cycle-begun at cycle length some begun = grind (arith, cases_lt, lt-ltb, le-ltb)
