-- One listed cycle of a certificate: what the checker finds by its sets of slots is what the certificate's words say.
use Rattle.std.proofs.Common.{◌≡◌, ℕ, zero, suc, ◌+◌, ◌<◌, ◌≤◌, Bool, true, false, not, ◌&&◌, nat_eq, Option, Some, None, IfSome, IsSome, option_map, List, [], ◌∷◌, length, get_or, slice_get, refl, sym, ap, ◌∙◌, arith}
use Rattle.std.specs.Option.{option_and_then, option_map_or}
use Rattle.std.specs.List.{list_all}
use Rattle.std.proofs.lemmas.Bool.{and_parts, cases_lt, eqb-true}
use Rattle.std.proofs.lemmas.List.{get_or_default}
use Rattle.std.proofs.lemmas.Option.{same_Some}
use Rattle.requirement_table.specs.declared.entries.Placed.{Placed}
use Rattle.requirement_table.specs.Instance.{Instance, deadline_of, release_of}
use Rattle.bit_sets.specs.Sets.{has_bit, most_slots}
use Rattle.requirement_table.specs.Table.{IsWellPlaced, instance_in, is_last_in, releases_in, worst_in}
use Rattle.requirement_table.proofs.Shared.{found-of}
use Rattle.bit_sets.proofs.Shared.{sum_where-same, sum_where-costs}
use Rattle.plan_check.specs.declared.blocks.Block.{Block}
use Rattle.plan_check.specs.declared.breach.Breach.{Breach}
use Rattle.plan_check.specs.declared.breach.Breach.TheVariants.{BadLoop, NotReleased, TooWide, Missed, NotClosed}
use Rattle.plan_check.specs.Blocks.{IsFilled}
use Rattle.plan_check.specs.Breaches.{IsBreach, IsGoodAt, IsLeastSlot, is_flagged, is_waiting, width_at}
use Rattle.plan_check.specs.Certificate.{CertificateView, IsCertificate, flags_of}
use Rattle.plan_check.specs.Cycles.{AreCosts, IsBreachIn, IsGoodIn, missed_in, unreleased_in, waits_in, width_of}
use Rattle.plan_check.specs.Places.{ArePassed, IsCurrent, release_by, released_at}
use Rattle.plan_check.specs.PlanKept.{HasPending, NoSlot, is_bad, is_held}
use Rattle.plan_check.proofs.Current.{current-release}
use Rattle.plan_check.proofs.Held.{before-suc, before-zero, holder-of}
use Rattle.plan_check.proofs.Repeated.{flags-listed, good_cycle-of}

-- Tests that agree on the slots

pub none-same : (p q : ℕ → Bool) → ((s : ℕ) → s < most_slots → p s ≡ q s) → NoSlot p → NoSlot q
none-same p q same none = λ slot known. sym (same slot known) ∙ none slot known

pub least-same : (p q : ℕ → Bool) (slot : ℕ) → ((s : ℕ) → s < most_slots → p s ≡ q s) → IsLeastSlot p slot → IsLeastSlot q slot
least-same p q slot same least = grind arith

-- A cycle of a block

-- what the sets of a cycle say, and what the slots cost that have an instance in it
pub record IsCycle (placed : List Placed) (c released ends : ℕ) (costs : List ℕ) : Type 0 where
  pub releases : (s : ℕ) → s < most_slots → has_bit released s ≡ releases_in placed c s
  pub last : (s : ℕ) → s < most_slots → has_bit ends s ≡ is_last_in placed c s
  pub cost : (s : ℕ) → s < most_slots → IsSome (instance_in placed s c) → get_or costs s 0 ≡ worst_in placed c s

pub cycle-of : (placed : List Placed) (from count i released ends : ℕ) (block : Block) → IsFilled placed from count block → i < count
    → released ≡ get_or block.released i 0 → ends ≡ get_or block.ends i 0 → IsCycle placed (from + i) released ends block.costs
cycle-of placed from count i released ends block filled below same_released same_ends = record {
  releases = λ s known. ap (λ m. has_bit m s) same_released ∙ (filled s known).released i below;
  last = λ s known. ap (λ m. has_bit m s) same_ends ∙ (filled s known).ends i below;
  cost = λ s known some. (filled s known).cost i below some;
}

module _ (placed : List Placed) (window : ℕ) (certificate : CertificateView) (n c released ends held mask : ℕ) (costs : List ℕ)
    (well : IsWellPlaced placed) (valid : HasPending placed certificate.from (has_bit certificate.pending)) (at : c ≡ certificate.from + n)
    (is : IsCycle placed c released ends costs) (holds : (s : ℕ) → s < most_slots → has_bit held s ≡ is_held placed certificate n s)
    (flags : (s : ℕ) → s < most_slots → has_bit mask s ≡ is_flagged certificate n s)
    (good : (m : ℕ) → m < n → IsGoodAt placed window certificate m) where
  waits-is : (s : ℕ) → s < most_slots → waits_in released held s ≡ is_waiting placed certificate n s
  waits-is s known = grind arith

  -- after good cycles a slot that waits has an instance
  waiting-some : (s : ℕ) → s < most_slots → is_waiting placed certificate n s ≡ true → IsSome (instance_in placed s c)
  waiting-some s known waiting =
      let holder = holder-of placed (flags_of certificate) certificate.from (has_bit certificate.pending) well n s known valid
      (λ m below. good_cycle-of placed window certificate m (good m below)) waiting in
      grind (arith, found-of)

  width-is : NoSlot (unreleased_in released held mask) → width_of costs mask ≡ width_at placed certificate n
  width-is holding =
      sum_where-costs most_slots (has_bit mask) (λ s. get_or costs s 0) (worst_in placed (certificate.from + n))
      (λ s known flagged. grind (arith, waiting-some, waits-is))
      ∙ sum_where-same most_slots (has_bit mask) (is_flagged certificate n) (worst_in placed (certificate.from + n)) flags

  -- a cycle that is good by its sets is a good one
  pub step-good : IsGoodIn costs window released ends held mask → IsGoodAt placed window certificate n
  step-good fine = grind (arith, none-same, width-is)

  -- what is left of the slots that wait is held in the next cycle
  pub step-held : (left : ℕ) → ((s : ℕ) → s < most_slots → has_bit left s ≡ (waits_in released held s && not (has_bit mask s)))
      → (s : ℕ) → s < most_slots → has_bit left s ≡ is_held placed certificate (suc n) s
  step-held left made s known = grind (arith, waits-is, before-suc)

  -- a breach that its sets show is the first one of the certificate
  pub step-breach : (breach : Breach) → NoSlot (is_bad placed certificate) → n < length certificate.masks
      → IsBreachIn placed costs window c released ends held mask breach → IsBreach placed window certificate breach
  step-breach (BadLoop slot) rounds listed wrong = absurd wrong
  step-breach (NotReleased cycle slot) rounds listed found = grind (arith, least-same)
  step-breach (TooWide cycle sum) rounds listed found = grind (arith, none-same, width-is)
  step-breach (Missed slot release cycle) rounds listed found = grind (arith, none-same, width-is, least-same)
  step-breach (NotClosed slot) rounds listed wrong = absurd wrong

-- the mask of a listed cycle flags what the cycle flags
pub mask-flags : (certificate : CertificateView) (n mask : ℕ) → IsCertificate certificate.from certificate.first certificate.masks
    → n < length certificate.masks → mask ≡ get_or certificate.masks n 0 → (s : ℕ) → s < most_slots → has_bit mask s ≡ is_flagged certificate n s
mask-flags certificate n mask is listed same s known = ap (λ m. has_bit m s) same ∙ sym (flags-listed certificate is n s listed)

swapped : (waits flagged last : Bool) → ((waits && not flagged) && last) ≡ (waits && last && not flagged)
swapped waits flagged last = grind arith

-- what ends of the slots that are left is missed
pub ends-missed : (released ends held mask waiting left both : ℕ) → ((s : ℕ) → has_bit waiting s ≡ waits_in released held s)
    → ((s : ℕ) → s < most_slots → has_bit left s ≡ (has_bit waiting s && not (has_bit mask s)))
    → ((s : ℕ) → has_bit both s ≡ (has_bit left s && has_bit ends s))
    → (s : ℕ) → s < most_slots → has_bit both s ≡ missed_in released ends held mask s
ends-missed released ends held mask waiting left both waits lefts boths s known = grind (arith, swapped)

some-instance : (o : Option Instance) (c : ℕ) → option_map_or (λ i. nat_eq (deadline_of i.placed i.number) (c + 1)) o false ≡ true
    → (i : Instance) × (o ≡ Some i)
some-instance o c test = grind arith

-- a slot with an instance that has its last cycle has an instance
pub last-some : (placed : List Placed) (c slot : ℕ) → is_last_in placed c slot ≡ true → (i : Instance) × (instance_in placed slot c ≡ Some i)
last-some placed c slot last = some-instance (instance_in placed slot c) c last

missed-some : (placed : List Placed) (c slot place : ℕ) (release : Option ℕ) → IsWellPlaced placed → IsCurrent placed c slot place
    → is_last_in placed c slot ≡ true → release ≡ option_and_then (release_by c) (slice_get placed place)
    → (i : Instance) × (instance_in placed slot c ≡ Some i) × (release ≡ Some (release_of i.placed i.number))
missed-some placed c slot place release well current last is =
    let some = last-some placed c slot last in
    (some.0, some.1, is ∙ current-release placed c slot place well current ∙ ap (option_map released_at) some.1)

pub missed-none : (placed : List Placed) (c slot place : ℕ) (release : Option ℕ) → IsWellPlaced placed → IsCurrent placed c slot place
    → is_last_in placed c slot ≡ true → release ≡ option_and_then (release_by c) (slice_get placed place) → release ≡ None → ⊥
missed-none placed c slot place release well current last is none =
    let some = missed-some placed c slot place release well current last is in
    grind arith

pub missed-release : (placed : List Placed) (c slot place release : ℕ) (found : Option ℕ) → IsWellPlaced placed → IsCurrent placed c slot place
    → is_last_in placed c slot ≡ true → found ≡ option_and_then (release_by c) (slice_get placed place) → found ≡ Some release
    → IfSome (instance_in placed slot c) (λ i. Missed slot release c ≡ Missed slot (release_of i.placed i.number) c)
missed-release placed c slot place release found well current last is some =
    let one = missed-some placed c slot place found well current last is in
    grind (arith, same_Some)

-- the breach of an instance that is left in its last cycle
pub cycle-missed : (placed : List Placed) (costs : List ℕ) (window c released ends held mask slot : ℕ) (breach : Breach)
    → ((s : ℕ) → s < most_slots → has_bit ends s ≡ is_last_in placed c s) → NoSlot (unreleased_in released held mask) → width_of costs mask ≤ window
    → IsLeastSlot (missed_in released ends held mask) slot
    → IfSome (instance_in placed slot c) (λ i. breach ≡ Missed slot (release_of i.placed i.number) c)
    → IsBreachIn placed costs window c released ends held mask breach
cycle-missed placed costs window c released ends held mask slot breach last holding fits least is = grind (arith, and_parts, last-some)

-- The walk over the listed cycles

zeros : (xs : List ℕ) → list_all (λ x. nat_eq x 0) xs ≡ true → (s : ℕ) → get_or xs s 0 ≡ 0
zeros [] all s = refl
zeros (x ∷ xs) all zero = eqb-true x 0 (and_parts (nat_eq x 0) (list_all (λ y. nat_eq y 0) xs) all).0
zeros (x ∷ xs) all (suc s) = zeros xs (and_parts (nat_eq x 0) (list_all (λ y. nat_eq y 0) xs) all).1 s

-- before the first place nothing stands
pub passed-start : (placed : List Placed) (c slots : ℕ) (places : List ℕ) → length places ≡ most_slots → list_all (λ x. nat_eq x 0) places ≡ true
    → ArePassed placed c slots places
passed-start placed c slots places count all = grind (arith, zeros)

pub held-start : (placed : List Placed) (certificate : CertificateView) (pending : ℕ) → pending ≡ certificate.pending
    → (s : ℕ) → has_bit pending s ≡ is_held placed certificate 0 s
held-start placed certificate pending same s = grind (arith, before-zero)

pub good-more : (placed : List Placed) (window : ℕ) (certificate : CertificateView) (n : ℕ)
    → ((m : ℕ) → m < n → IsGoodAt placed window certificate m) → IsGoodAt placed window certificate n
    → (m : ℕ) → m < suc n → IsGoodAt placed window certificate m
good-more placed window certificate n before here m low = grind (arith, cases_lt)

pub mask-at : (items masks : List ℕ) (k n d : ℕ) → items ≡ masks → k ≡ n → n < length masks → get_or items k d ≡ get_or masks n 0
mask-at items masks k n d same at within = grind (arith, get_or_default)

-- before the first block no slot costs anything
pub no-costs : (xs : List ℕ) → length xs ≡ 128 → list_all (λ x. nat_eq x 0) xs ≡ true → AreCosts xs
no-costs xs count all = record { count = count; small = λ slot. let none = zeros xs all slot in omega arith }
