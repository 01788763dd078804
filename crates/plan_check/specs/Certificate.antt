-- Certificates of a plan: the masks of some cycles, of which the last part is repeated for ever. Cycles are elementary
-- cycles.
use Rattle.std.specs.Prelude.{ℕ, ◌+◌, ◌-◌, ◌%◌, ◌<◌, ◌≤◌, Bool, nat_lt, if◌then◌else◌, List, length, get_or}
use Rattle.bit_sets.specs.Sets.{has_bit}

-- what contracts see of a certificate: the cycle of its first mask, the set of the slots that are pending before that
-- cycle, the first cycle of the part that is repeated, and the masks, one for each cycle
pub record CertificateView : Type 0 where
  pub from : ℕ
  pub pending : ℕ
  pub first : ℕ
  pub masks : List ℕ

-- the repeated part begins in one of the listed cycles
pub record IsCertificate (from first : ℕ) (masks : List ℕ) : Type 0 where
  pub after : from ≤ first
  pub within : first < from + length masks

-- how many cycles the repeated part has
abbrev pub length_of : CertificateView → ℕ
length_of certificate = length certificate.masks - (certificate.first - certificate.from)

-- the place of a cycle's mask in the list: each cycle before `first` has its own, and those from `first` on go round in
-- the others
abbrev pub place_of : CertificateView → ℕ → ℕ
place_of certificate c =
    if nat_lt c certificate.first then c - certificate.from
    else certificate.first - certificate.from + (c - certificate.first) % length_of certificate

-- the mask of a cycle
abbrev pub mask_in : CertificateView → ℕ → ℕ
mask_in certificate c = get_or certificate.masks (place_of certificate c) 0

-- whether a cycle flags a slot
unfoldable pub flags_of : CertificateView → ℕ → ℕ → Bool
flags_of certificate c slot = has_bit (mask_in certificate c) slot
