-- A certificate whose loop is good goes on for ever as it does in its listed cycles.
use Rattle.std.proofs.Common.{◌≡◌, ℕ, zero, suc, ◌+◌, ◌-◌, ◌*◌, ◌%◌, ◌<◌, ◌≤◌, not, ◌&&◌, ◌||◌, nat_lt, List, All, length, get_or, refl, sym, ap, ◌∙◌, ⊎_elim, arith}
use Rattle.std.proofs.Math.Nat.{add-mul-mod_self_right, mod-eq_of_lt}
use Rattle.std.proofs.lemmas.Bool.{cases_lt, cond-true, cond-false}
use Rattle.std.proofs.lemmas.Bool.Decides.{nat_tests}
use Rattle.requirement_table.specs.declared.entries.Placed.{Placed}
use Rattle.requirement_table.specs.Flags.{IsGoodCycle}
use Rattle.bit_sets.specs.Sets.{has_bit, most_slots}
use Rattle.requirement_table.specs.Table.{IsWellPlaced, releases_in, worst_in}
use Rattle.requirement_table.proofs.Shared.{GoesRound, SameAgain, same-again}
use Rattle.bit_sets.proofs.Shared.{sum_where-same, sum_where-costs}
use Rattle.plan_check.specs.Certificate.{CertificateView, IsCertificate, flags_of, length_of, place_of}
use Rattle.plan_check.specs.PlanKept.{NoSlot, is_bad, is_held, is_open}
use Rattle.plan_check.specs.Breaches.{IsGoodAt, is_flagged, is_waiting, width_at}
use Rattle.plan_check.proofs.Rounds.{rounds-of}
use Rattle.plan_check.proofs.Held.{before-suc}

-- The mask of a cycle

module _ (certificate : CertificateView) (is : IsCertificate certificate.from certificate.first certificate.masks) where
  place-before : (c : ℕ) → c < certificate.first → place_of certificate c ≡ c - certificate.from
  place-before c before = grind (arith, nat_lt, nat_tests, cond-true)

  place-after : (c : ℕ) → certificate.first ≤ c → place_of certificate c ≡ certificate.first - certificate.from + (c - certificate.first) % length_of certificate
  place-after c after = grind (arith, nat_lt, nat_tests, cond-false)

  place-listed : (n : ℕ) → n < length certificate.masks → place_of certificate (certificate.from + n) ≡ n
  place-listed n listed = grind (arith, place-before, mod-eq_of_lt, place-after, cases_lt)

  -- in a listed cycle the mask is the listed one
  pub flags-listed : (n slot : ℕ) → n < length certificate.masks
      → flags_of certificate (certificate.from + n) slot ≡ has_bit (get_or certificate.masks n 0) slot
  unfolding flags_of
  flags-listed n slot listed = ap (λ place. has_bit (get_or certificate.masks place 0) slot) (place-listed n listed)

  -- from `first` on the masks are repeated
  pub flags-again : (c slot : ℕ) → certificate.first ≤ c → flags_of certificate (c + length_of certificate) slot ≡ flags_of certificate c slot
  unfolding flags_of
  flags-again c slot after =
      let d = length_of certificate in
      let rest = c - certificate.first in
      let moved : c + d - certificate.first ≡ rest + 1 * d = omega arith in
      grind (arith, place-after, add-mul-mod_self_right)

-- A good loop

-- a good cycle of a certificate is one of a kept table
pub good_cycle-of : (placed : List Placed) (window : ℕ) (certificate : CertificateView) (n : ℕ) → IsGoodAt placed window certificate n
    → IsGoodCycle placed (flags_of certificate) certificate.from (has_bit certificate.pending) n
good_cycle-of placed window certificate n good = grind arith

module _ (placed : List Placed) (window : ℕ) (certificate : CertificateView) (is : IsCertificate certificate.from certificate.first certificate.masks)
    (well : IsWellPlaced placed) (rounds : NoSlot (is_bad placed certificate)) (closed : NoSlot (is_open placed certificate)) where
  all-round : All (GoesRound certificate.first (length_of certificate)) placed
  all-round = rounds-of placed certificate.first (length_of certificate) well rounds

  again-at : (n slot : ℕ) → certificate.first - certificate.from ≤ n → SameAgain placed (length_of certificate) (certificate.from + n) slot
  again-at n slot late =
      same-again placed certificate.first (length_of certificate) (certificate.from + n) slot well all-round (omega arith)

  flagged-again : (n slot : ℕ) → certificate.first - certificate.from ≤ n → is_flagged certificate (n + length_of certificate) slot ≡ is_flagged certificate n slot
  flagged-again n slot late =
      let at : certificate.from + (n + length_of certificate) ≡ certificate.from + n + length_of certificate = omega arith in
      ap (λ c. flags_of certificate c slot) at ∙ flags-again certificate is (certificate.from + n) slot (omega arith)

  releases-again : (n slot : ℕ) → certificate.first - certificate.from ≤ n
      → releases_in placed (certificate.from + (n + length_of certificate)) slot ≡ releases_in placed (certificate.from + n) slot
  releases-again n slot late =
      let at : certificate.from + (n + length_of certificate) ≡ certificate.from + n + length_of certificate = omega arith in
      ap (λ c. releases_in placed c slot) at ∙ (again-at n slot late).releases

  held-on : (j n slot : ℕ) → certificate.first - certificate.from + j ≡ n → slot < most_slots
      → is_held placed certificate (n + length_of certificate) slot ≡ is_held placed certificate n slot
  held-on zero n slot at known =
      let before = certificate.first - certificate.from in
      let same : n ≡ before = omega arith in
      grind arith
  held-on (suc j) n slot at known =
      let m = certificate.first - certificate.from + j in
      let d = length_of certificate in
      let next : n ≡ suc m = omega arith in
      let far : suc m + d ≡ suc (m + d) = omega arith in
      let flags = flags_of certificate in
      let pending = has_bit certificate.pending in
      rw (next, far)
      (before-suc placed flags certificate.from pending (m + d) slot
      ∙ ap (λ b. (b || releases_in placed (certificate.from + (m + d)) slot) && not (flags (certificate.from + (m + d)) slot)) (held-on j m slot refl known)
      ∙ ap (λ b. (is_held placed certificate m slot || b) && not (flags (certificate.from + (m + d)) slot)) (releases-again m slot (omega arith))
      ∙ ap (λ b. (is_held placed certificate m slot || releases_in placed (certificate.from + m) slot) && not b) (flagged-again m slot (omega arith))
      ∙ sym (before-suc placed flags certificate.from pending m slot))

  waiting-again : (n slot : ℕ) → certificate.first - certificate.from ≤ n → slot < most_slots
      → is_waiting placed certificate (n + length_of certificate) slot ≡ is_waiting placed certificate n slot
  waiting-again n slot late known =
      ap (λ b. b || releases_in placed (certificate.from + (n + length_of certificate)) slot)
      (held-on (n - (certificate.first - certificate.from)) n slot (omega arith) known)
      ∙ ap (λ b. is_held placed certificate n slot || b) (releases-again n slot late)

  width-again : (n : ℕ) → certificate.first - certificate.from ≤ n → width_at placed certificate (n + length_of certificate) ≡ width_at placed certificate n
  width-again n late =
      let c = certificate.from + n in
      let far = certificate.from + (n + length_of certificate) in
      let at : far ≡ c + length_of certificate = omega arith in
      sum_where-same most_slots (is_flagged certificate (n + length_of certificate)) (is_flagged certificate n) (worst_in placed far)
      (λ slot known. flagged-again n slot late)
      ∙ sum_where-costs most_slots (is_flagged certificate n) (worst_in placed far) (worst_in placed c)
      (λ slot known _. ap (λ x. worst_in placed x slot) at ∙ (again-at n slot late).cost)

  good-again : (n : ℕ) → certificate.first - certificate.from ≤ n → IsGoodAt placed window certificate n → IsGoodAt placed window certificate (n + length_of certificate)
  good-again n late good =
      let d = length_of certificate in
      let at : certificate.from + (n + d) ≡ certificate.from + n + d = omega arith in
      grind (arith, flagged-again, waiting-again, width-again, again-at)

  good-below : ((n : ℕ) → n < length certificate.masks → IsGoodAt placed window certificate n)
      → (more n : ℕ) → n < length certificate.masks + more → IsGoodAt placed window certificate n
  good-below good zero n below = good n (omega arith)
  good-below good (suc more) n below =
      ⊎_elim
      (λ (listed : n < length certificate.masks). good n listed)
      (λ (behind : length certificate.masks ≤ n).
      let d = length_of certificate in
      let m = n - d in
      let at : n ≡ m + d = omega arith in
      rw at (good-again m (omega arith) (good-below good more m (omega arith))))
      (cases_lt n (length certificate.masks))

  -- where all listed cycles are good, all cycles are
  pub good-ever : ((n : ℕ) → n < length certificate.masks → IsGoodAt placed window certificate n) → (n : ℕ) → IsGoodAt placed window certificate n
  good-ever good n = good-below good (suc n) n (omega arith)
