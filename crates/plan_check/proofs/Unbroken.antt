-- A certificate without a breach is taken.
use Rattle.std.proofs.Common.{◌≡◌, ℕ, zero, suc, ◌+◌, ◌<◌, ◌≤◌, Bool, true, false, not, ◌&&◌, Option, Some, List, length, refl, ⊎_elim, arith}
use Rattle.std.specs.Option.{option_map_or}
use Rattle.std.proofs.lemmas.Bool.{and_parts, cases_lt}
use Rattle.requirement_table.specs.declared.entries.Placed.{Placed}
use Rattle.requirement_table.specs.Instance.{Instance, release_of}
use Rattle.bit_sets.specs.Sets.{has_bit, most_slots}
use Rattle.requirement_table.specs.Table.{IsWellPlaced, instance_in, is_last_in}
use Rattle.bit_sets.specs.Least.{least_where}
use Rattle.bit_sets.proofs.Shared.{IsLeastBelow, least_where-least}
use Rattle.plan_check.specs.declared.breach.Breach.{Breach}
use Rattle.plan_check.specs.declared.breach.Breach.TheVariants.{BadLoop, NotReleased, TooWide, Missed, NotClosed}
use Rattle.plan_check.specs.Breaches.{IsBreach, IsGoodAt, IsLeastSlot, IsReached, is_flagged, is_missed, is_unreleased, is_waiting, width_at}
use Rattle.plan_check.specs.Certificate.{CertificateView, IsCertificate}
use Rattle.plan_check.specs.PlanKept.{HasPending, IsTaken, NoSlot, is_bad, is_open}
use Rattle.plan_check.proofs.Taken.{taken-of}

none-found : (test : ℕ → Bool) (found : Option ℕ) → IsLeastBelow most_slots test found → ((slot : ℕ) → IsLeastSlot test slot → ⊥) → NoSlot test
none-found test found is none = grind arith

-- a test that has no least slot passes none
no-slot : (test : ℕ → Bool) → ((slot : ℕ) → IsLeastSlot test slot → ⊥) → NoSlot test
no-slot test none = none-found test (least_where most_slots test) (least_where-least most_slots test) none

-- the instance whose last cycle it is
record HasInstance (found : Option Instance) : Type 0 where
  instance : Instance
  is : found ≡ Some instance

last-found : (found : Option Instance) (test : Instance → Bool) → option_map_or test found false ≡ true → HasInstance found
last-found found test last = grind arith

module _ (placed : List Placed) (window : ℕ) (certificate : CertificateView) (none : (breach : Breach) → IsBreach placed window certificate breach → ⊥) where
  rounds-none : NoSlot (is_bad placed certificate)
  rounds-none = no-slot (is_bad placed certificate) (λ slot least. none (BadLoop slot) least)

  module _ (n : ℕ) (listed : n < length certificate.masks) (good : (m : ℕ) → m < n → IsGoodAt placed window certificate m) where
    reached : IsReached placed window certificate n (certificate.from + n)
    reached = record { rounds = rounds-none; listed = listed; at = refl; good = good }

    released-here : NoSlot (is_unreleased placed certificate n)
    released-here =
        no-slot (is_unreleased placed certificate n)
        (λ slot least. none (NotReleased (certificate.from + n) slot) (record { number = n; reached = reached; slot_is = least }))

    fits-here : width_at placed certificate n ≤ window
    fits-here =
        ⊎_elim
        (λ (wide : window < width_at placed certificate n).
        absurd
        (none (TooWide (certificate.from + n) (width_at placed certificate n))
        (record { number = n; reached = reached; released = released-here; sum_is = refl; wide = wide })))
        (λ (fits : width_at placed certificate n ≤ window). fits)
        (cases_lt window (width_at placed certificate n))

    missed-none : (slot : ℕ) → IsLeastSlot (is_missed placed certificate n) slot → ⊥
    missed-none slot least =
        let c = certificate.from + n in
        let parts = and_parts (is_waiting placed certificate n slot && is_last_in placed c slot) (not (is_flagged certificate n slot)) least.passes in
        let front = and_parts (is_waiting placed certificate n slot) (is_last_in placed c slot) parts.0 in
        let has = last-found (instance_in placed slot c) _ front.1 in
        none (Missed slot (release_of has.instance.placed has.instance.number) c)
        (grind (arith, reached, released-here, fits-here))

    good-here : IsGoodAt placed window certificate n
    good-here = record {
      released = released-here;
      fits = fits-here;
      in_time = no-slot (is_missed placed certificate n) missed-none;
    }

  good-below : (bound n : ℕ) → n < bound → n < length certificate.masks → IsGoodAt placed window certificate n
  good-below zero n below listed = absurd (omega arith)
  good-below (suc bound) n below listed = good-here n listed (λ m early. good-below bound m (omega arith) (omega arith))

  goods-listed : (n : ℕ) → n < length certificate.masks → IsGoodAt placed window certificate n
  goods-listed n listed = good-below (suc n) n (omega arith) listed

  closed-none : NoSlot (is_open placed certificate)
  closed-none =
      no-slot (is_open placed certificate)
      (λ slot least. none (NotClosed slot) (record { rounds = rounds-none; good = goods-listed; slot_is = least }))

  pub unbroken-taken : IsWellPlaced placed → HasPending placed certificate.from (has_bit certificate.pending)
      → IsCertificate certificate.from certificate.first certificate.masks → IsTaken placed window certificate
  unbroken-taken well valid is = taken-of placed window certificate well valid is rounds-none goods-listed closed-none
