-- A certificate is taken exactly where it has no breach.
use Rattle.std.proofs.Common.{◌≡◌, ℕ, zero, suc, ◌+◌, ◌-◌, ◌<◌, ◌≤◌, true, false, not, ◌&&◌, nat_eq, Some, List, length, sym, ap, ◌∙◌, arith}
use Rattle.std.specs.Option.{option_map_or}
use Rattle.std.proofs.Math.Nat.{le-max_left, le-max_right}
use Rattle.std.proofs.lemmas.Bool.{cases_lt, eqb-true, and_parts, false_from_ne_true, not-true}
use Rattle.requirement_table.specs.declared.entries.Placed.{Placed}
use Rattle.requirement_table.specs.Instance.{IsLastCycle, MaySend, deadline_of, release_of}
use Rattle.bit_sets.specs.Sets.{has_bit, most_slots}
use Rattle.requirement_table.specs.Table.{IsWellPlaced, instance_in, is_last_in}
use Rattle.plan_check.specs.declared.breach.Breach.{Breach}
use Rattle.plan_check.specs.Certificate.{CertificateView, IsCertificate, flags_of}
use Rattle.plan_check.specs.PlanKept.{HasPending, IsOwed, IsOwedIn, IsTaken, NoSlot, is_bad, is_open}
use Rattle.plan_check.specs.Breaches.{IsBreach, IsGoodAt, is_flagged, is_missed, is_unreleased, is_waiting}
use Rattle.requirement_table.proofs.Shared.{found-of}
use Rattle.plan_check.proofs.Held.{flagged-once, holder-of, max-below, waits-of}
use Rattle.plan_check.proofs.Repeated.{good_cycle-of, good-ever}
use Rattle.plan_check.proofs.SlotSets.{no-least}

module _ (placed : List Placed) (window : ℕ) (certificate : CertificateView) (well : IsWellPlaced placed)
    (valid : HasPending placed certificate.from (has_bit certificate.pending)) where
  only-owed : ((n : ℕ) → IsGoodAt placed window certificate n) → (c n slot : ℕ) → c ≡ certificate.from + n → slot < most_slots
      → flags_of certificate c slot ≡ true → IsOwedIn placed certificate.from (has_bit certificate.pending) c slot
  only-owed good c n slot at known flagged =
      let here : is_flagged certificate n slot ≡ true = rw at at flagged in
      let cycle = good_cycle-of placed window certificate n (good n) in
      let holder = holder-of placed (flags_of certificate) certificate.from (has_bit certificate.pending) well n slot known valid
      (λ m below. good_cycle-of placed window certificate m (good m)) (cycle.holding slot known here) in
      rw at holder.owing

  -- without a breach it is taken
  pub taken-of : IsCertificate certificate.from certificate.first certificate.masks → NoSlot (is_bad placed certificate)
      → ((n : ℕ) → n < length certificate.masks → IsGoodAt placed window certificate n) → NoSlot (is_open placed certificate)
      → IsTaken placed window certificate
  taken-of is rounds listed closed =
      let good = good-ever placed window certificate is well rounds closed listed in
      record {
        loop = record { rounds = rounds; closed = closed };
        kept = record {
          each = λ p k last owed is_last.
              flagged-once placed (flags_of certificate) certificate.from (has_bit certificate.pending) well p k last valid
              (λ m. good_cycle-of placed window certificate m (good m)) owed is_last;
          only = λ c slot after known flagged. only-owed good c (c - certificate.from) slot (omega arith) known flagged;
          fits = λ c after.
              let n = c - certificate.from in
              let at : c ≡ certificate.from + n = omega arith in
              rw at (good n).fits;
        };
      }

  module _ (taken : IsTaken placed window certificate) where
    -- an instance that is to be sent is not flagged before a cycle in which it is flagged
    once-before : (p : Placed) (k n c : ℕ) → IsOwed placed certificate.from (has_bit certificate.pending) p k → MaySend p k (certificate.from + n)
        → is_flagged certificate n p.entry.slot ≡ true → certificate.from ≤ c → release_of p k ≤ c → c < certificate.from + n
        → flags_of certificate c p.entry.slot ≡ true → ⊥
    once-before p k n c owed sends now after released before flagged =
        let released_now = sends.released in
        let last = deadline_of p k - 1 in
        let is_last : IsLastCycle p k last = omega arith in
        let once = taken.kept.each p k last owed is_last in
        grind (arith, max-below)

    released-at : (n slot : ℕ) → slot < most_slots → is_unreleased placed certificate n slot ≡ true → ⊥
    released-at n slot known test = grind (arith, and_parts, waits-of, once-before, not-true)

    missed-at : (n slot : ℕ) → slot < most_slots → ((m : ℕ) → m < n → IsGoodAt placed window certificate m) → is_missed placed certificate n slot ≡ true → ⊥
    missed-at n slot known good test =
        let parts = and_parts (is_waiting placed certificate n slot && is_last_in placed (certificate.from + n) slot) (not (is_flagged certificate n slot)) test in
        let front = and_parts (is_waiting placed certificate n slot) (is_last_in placed (certificate.from + n) slot) parts.0 in
        let holder = holder-of placed (flags_of certificate) certificate.from (has_bit certificate.pending) well n slot known valid
        (λ m below. good_cycle-of placed window certificate m (good m below)) front.0 in
        let p = holder.owing.entry in
        let k = holder.owing.number in
        let c = certificate.from + n in
        let found : instance_in placed slot c ≡ Some (record { placed = p; number = k })
        = ap (λ s. instance_in placed s c) (sym holder.owing.of_slot) ∙ found-of placed p k c well holder.owing.owed.stands holder.owing.sends in
        let due : nat_eq (deadline_of p k) (c + 1) ≡ true
        = sym (ap (λ o. option_map_or (λ i. nat_eq (deadline_of i.placed i.number) (c + 1)) o false) found) ∙ front.1 in
        let last : deadline_of p k ≡ c + 1 = eqb-true (deadline_of p k) (c + 1) due in
        let once = taken.kept.each p k c holder.owing.owed (sym last) in
        grind (arith, le-max_left, le-max_right, not-true, cases_lt)

    good-at : (n : ℕ) → ((m : ℕ) → m < n → IsGoodAt placed window certificate m) → IsGoodAt placed window certificate n
    good-at n good = grind (arith, false_from_ne_true, released-at, missed-at)

    good-up_to : (bound n : ℕ) → n < bound → IsGoodAt placed window certificate n
    good-up_to zero n below = absurd (omega arith)
    good-up_to (suc bound) n below = good-at n (λ m early. good-up_to bound m (omega arith))

    -- each cycle is good, also those in which the list is gone through again
    pub goods : (n : ℕ) → IsGoodAt placed window certificate n
    goods n = good-up_to (suc n) n (omega arith)

    -- where it is taken there is no breach
    pub breach-wrong : (breach : Breach) → IsBreach placed window certificate breach → ⊥
    breach-wrong breach is = grind (arith, no-least, goods)
