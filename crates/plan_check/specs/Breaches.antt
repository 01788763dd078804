-- Why a certificate is not taken: the first of several breaches, with the values that show it.
use Rattle.std.specs.Prelude.{◌≡◌, ℕ, ◌+◌, ◌<◌, ◌≤◌, Bool, true, false, not, ◌&&◌, List, length, Some}
use Rattle.requirement_table.specs.declared.entries.Placed.{Placed}
use Rattle.requirement_table.specs.Flags.{waits}
use Rattle.requirement_table.specs.Instance.{Instance, release_of}
use Rattle.bit_sets.specs.Sets.{has_bit, most_slots}
use Rattle.requirement_table.specs.Table.{instance_in, is_last_in, width_in}
use Rattle.plan_check.specs.declared.breach.Breach.{Breach}
use Rattle.plan_check.specs.declared.breach.Breach.TheVariants.{BadLoop, NotReleased, TooWide, Missed, NotClosed}
use Rattle.plan_check.specs.Certificate.{CertificateView, flags_of}
use Rattle.plan_check.specs.PlanKept.{NoSlot, is_bad, is_open}

-- One cycle of the certificate, the n-th one, counted from 0

-- whether the slot has an unplanned instance that may be sent in the cycle: one that was released before it and not
-- flagged before it, or one that is released in it
abbrev pub is_waiting : List Placed → CertificateView → ℕ → ℕ → Bool
is_waiting placed certificate n slot =
    waits placed (flags_of certificate) certificate.from (has_bit certificate.pending) n slot

-- whether the cycle flags the slot
abbrev pub is_flagged : CertificateView → ℕ → ℕ → Bool
is_flagged certificate n slot = flags_of certificate (certificate.from + n) slot

-- whether the cycle flags the slot, and it has no such instance
abbrev pub is_unreleased : List Placed → CertificateView → ℕ → ℕ → Bool
is_unreleased placed certificate n slot = is_flagged certificate n slot && not (is_waiting placed certificate n slot)

-- whether the slot has such an instance, whose last cycle this is, and the cycle doesn't flag it
abbrev pub is_missed : List Placed → CertificateView → ℕ → ℕ → Bool
is_missed placed certificate n slot =
    is_waiting placed certificate n slot && is_last_in placed (certificate.from + n) slot
    && not (is_flagged certificate n slot)

-- what the flagged slots cost together, in bit times
abbrev pub width_at : List Placed → CertificateView → ℕ → ℕ
width_at placed certificate n = width_in placed (certificate.from + n) (is_flagged certificate n)

-- the cycle is good: no slot is flagged without an instance, the flagged ones fit the window, and no instance is missed
pub record IsGoodAt (placed : List Placed) (window : ℕ) (certificate : CertificateView) (n : ℕ) : Type 0 where
  pub released : NoSlot (is_unreleased placed certificate n)
  pub fits : width_at placed certificate n ≤ window
  pub in_time : NoSlot (is_missed placed certificate n)

-- The first breach

-- the slot is the least one that passes the test
pub record IsLeastSlot (test : ℕ → Bool) (slot : ℕ) : Type 0 where
  pub known : slot < most_slots
  pub passes : test slot ≡ true
  pub least : (other : ℕ) → other < slot → test other ≡ false

-- a listed cycle is reached: all entries go round with the loop, and all cycles before it are good
pub record IsReached (placed : List Placed) (window : ℕ) (certificate : CertificateView) (n cycle : ℕ) : Type 0 where
  pub rounds : NoSlot (is_bad placed certificate)
  pub listed : n < length certificate.masks
  pub at : cycle ≡ certificate.from + n
  pub good : (m : ℕ) → m < n → IsGoodAt placed window certificate m

-- the first breach is in a cycle: it flags a slot without an instance, the least such one is this
pub record IsNotReleased (placed : List Placed) (window : ℕ) (certificate : CertificateView) (cycle slot : ℕ)
    : Type 0 where
  pub number : ℕ
  pub reached : IsReached placed window certificate number cycle
  pub slot_is : IsLeastSlot (is_unreleased placed certificate number) slot

-- the first breach is in a cycle: the slots that it flags are too wide together
pub record IsTooWide (placed : List Placed) (window : ℕ) (certificate : CertificateView) (cycle sum : ℕ) : Type 0 where
  pub number : ℕ
  pub reached : IsReached placed window certificate number cycle
  pub released : NoSlot (is_unreleased placed certificate number)
  pub sum_is : sum ≡ width_at placed certificate number
  pub wide : window < sum

-- the first breach is in a cycle: an instance is missed in it, of the least such slot
pub record IsMissed (placed : List Placed) (window : ℕ) (certificate : CertificateView) (slot release cycle : ℕ)
    : Type 0 where
  pub number : ℕ
  pub reached : IsReached placed window certificate number cycle
  pub released : NoSlot (is_unreleased placed certificate number)
  pub fits : width_at placed certificate number ≤ window
  pub slot_is : IsLeastSlot (is_missed placed certificate number) slot
  pub instance : Instance
  pub found : instance_in placed slot cycle ≡ Some instance
  pub release_is : release ≡ release_of instance.placed instance.number

-- all listed cycles are good, and the loop is not closed at the slot, the least such one
pub record IsNotClosed (placed : List Placed) (window : ℕ) (certificate : CertificateView) (slot : ℕ) : Type 0 where
  pub rounds : NoSlot (is_bad placed certificate)
  pub good : (n : ℕ) → n < length certificate.masks → IsGoodAt placed window certificate n
  pub slot_is : IsLeastSlot (is_open placed certificate) slot

-- the breach is the first one, in the order of the variants, where those of a cycle are looked for in each cycle before
-- those of the next
abbrev pub IsBreach : List Placed → ℕ → CertificateView → Breach → Type 0
IsBreach placed window certificate (BadLoop slot) = IsLeastSlot (is_bad placed certificate) slot
IsBreach placed window certificate (NotReleased cycle slot) = IsNotReleased placed window certificate cycle slot
IsBreach placed window certificate (TooWide cycle sum) = IsTooWide placed window certificate cycle sum
IsBreach placed window certificate (Missed slot release cycle) = IsMissed placed window certificate slot release cycle
IsBreach placed window certificate (NotClosed slot) = IsNotClosed placed window certificate slot
