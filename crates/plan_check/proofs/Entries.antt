-- What the current entry of a slot does is what the slot does.
use Rattle.std.proofs.Common.{◌≡◌, ℕ, ◌+◌, ◌-◌, ◌*◌, ◌/◌, ◌%◌, ◌<◌, ◌≤◌, ◌&&◌, Bool, true, false, nat_eq, nat_le, Option, Some, None, IfSome, IsSome, is_some, option_map, List, Contains, slice_get, if◌then◌else◌, refl, sym, ap, ◌∙◌, arith}
use Rattle.std.specs.Option.{option_map_or}
use Rattle.std.proofs.Math.Nat.{mul-mod_left}
use Rattle.std.proofs.lemmas.Bool.{and_from, and_parts, cases_lt, eq-eqb, eqb-true, le-leb, leb-true}
use Rattle.std.proofs.lemmas.Option.{get_or_from_slice_get, same_Some, slice_get_within}
use Rattle.requirement_table.specs.declared.entries.Placed.{Placed}
use Rattle.requirement_table.specs.Instance.{Exists, Instance, MaySend, deadline_of, instance_of, release_of, released_by, worst, worst_of}
use Rattle.requirement_table.specs.Table.{IsInRange, IsWellPlaced, instance_in, is_last_in, is_over, releases_in, worst_in}
use Rattle.requirement_table.proofs.Shared.{IsReleasedIn-from_released_by, MaySend-from_instance, instance_of-sent, released_by-released}
use Rattle.plan_check.specs.Blocks.{ends_by, meets}
use Rattle.plan_check.specs.Places.{IsCurrent}
use Rattle.plan_check.proofs.Current.{current-instance}
use Rattle.plan_check.proofs.Held.{released-one, releases-own}

same-test : (b c : Bool) → (b ≡ true → c ≡ true) → (c ≡ true → b ≡ true) → b ≡ c
same-test b c there back = grind arith

-- An entry

some-if : (b : Bool) (k : ℕ) → is_some (if b then Some k else None) ≡ b
some-if b k = grind arith

swapped : (a b : Bool) → (a && b) ≡ (b && a)
swapped a b = grind arith

not-over : (end : Option ℕ) (release deadline c : ℕ) → 1 ≤ deadline → release + deadline ≡ c + 1
    → option_map_or (λ from. nat_le from c) (option_map (λ e. e + deadline - 1) end) false ≡ false → IfSome end (λ e. release < e)
not-over end release deadline c some last over = grind (arith, le-leb, cases_lt)

ends-one : (p : Placed) (k c : ℕ) → instance_of p c ≡ Some k → ends_by p c ≡ nat_eq (deadline_of p k) (c + 1)
ends-one p k c found = ap (λ o. option_map_or (λ n. nat_eq (deadline_of p n) (c + 1)) o false) found

ends-some : (p : Placed) (c : ℕ) (o : Option ℕ) → instance_of p c ≡ o → ends_by p c ≡ true → (k : ℕ) × (instance_of p c ≡ Some k) × (deadline_of p k ≡ c + 1)
ends-some p c o found test = grind (arith, eqb-true, ends-one)

-- the last cycles of the instances of an entry that is not over are that of its first instance, and some whole periods
-- after it
pub ends-meets : (p : Placed) (c : ℕ) → IsInRange p → is_over c p ≡ false
    → meets (p.origin + p.entry.phase + p.entry.deadline - 1) p.entry.period c ≡ ends_by p c
ends-meets p c range open' =
    let first = p.origin + p.entry.phase + p.entry.deadline - 1 in
    let some = range.entry.some_time in
    let short = range.entry.deadline in
    same-test (meets first p.entry.period c) (ends_by p c)
    (λ test.
    let tests = and_parts (nat_le first c) (nat_eq ((c - first) % p.entry.period) 0) test in
    let after = leb-true first c tests.0 in
    let rest = eqb-true ((c - first) % p.entry.period) 0 tests.1 in
    let k = (c - first) / p.entry.period in
    let last : release_of p k + p.entry.deadline ≡ c + 1 = omega arith in
    let exists' : Exists p (release_of p k) = not-over p.end (release_of p k) p.entry.deadline c some last open' in
    let sends : MaySend p k c = record { exists = exists'; released = omega arith; in_time = omega arith } in
    ends-one p k c (instance_of-sent p k c short sends) ∙ eq-eqb (deadline_of p k) (c + 1) last)
    (λ test.
    let found = ends-some p c (instance_of p c) refl test in
    let k = found.0 in
    let since : c - first ≡ k * p.entry.period = omega arith in
    let rest : (c - first) % p.entry.period ≡ 0 = ap (λ n. n % p.entry.period) since ∙ mul-mod_left k p.entry.period in
    and_from (nat_le first c) (nat_eq ((c - first) % p.entry.period) 0) (le-leb first c (omega arith)) (eq-eqb ((c - first) % p.entry.period) 0 rest))

-- A slot

last-mapped : (p : Placed) (c : ℕ) (o : Option ℕ)
    → option_map_or {T = Instance} (λ i. nat_eq (deadline_of i.placed i.number) (c + 1)) (option_map (λ k. record { placed = p; number = k }) o) false
    ≡ option_map_or (λ k. nat_eq (deadline_of p k) (c + 1)) o false
last-mapped p c o = grind arith

cost-mapped : (p : Placed) (o : Option ℕ) → IsSome {T = Instance} (option_map (λ k. record { placed = p; number = k }) o)
    → option_map_or worst_of (option_map (λ k. record { placed = p; number = k }) o) 0 ≡ worst p.entry.length
cost-mapped p o some = grind arith

mapped-some : (p : Placed) (o : Option ℕ) (i : Instance) → option_map (λ k. record { placed = p; number = k }) o ≡ Some i
    → (k : ℕ) × (o ≡ Some k) × (i ≡ record { placed = p; number = k })
mapped-some p o i is = grind (arith, same_Some)

number-in : (o : Option ℕ) → is_some o ≡ true → (k : ℕ) × (o ≡ Some k)
number-in o is = grind arith

module _ (placed : List Placed) (c slot place : ℕ) (well : IsWellPlaced placed) (current : IsCurrent placed c slot place) where
  module _ (p : Placed) (at : slice_get placed place ≡ Some p) where
    in-range : IsInRange p
    in-range = rw (get_or_from_slice_get placed place p p at) at (well.in_range place p (slice_get_within placed place p at))

    pub last-current : is_last_in placed c slot ≡ ends_by p c
    last-current =
        ap (λ o. option_map_or (λ i. nat_eq (deadline_of i.placed i.number) (c + 1)) o false) (current-instance placed c slot place well current p at)
        ∙ last-mapped p c (instance_of p c)

    pub cost-current : IsSome (instance_in placed slot c) → worst_in placed c slot ≡ worst p.entry.length
    cost-current some =
        let is = current-instance placed c slot place well current p at in
        ap (λ o. option_map_or worst_of o 0) is ∙ cost-mapped p (instance_of p c) (rw is at some)

    pub releases-current : releases_in placed c slot ≡ is_some (released_by p c)
    releases-current =
        let range = in-range in
        same-test (releases_in placed c slot) (is_some (released_by p c))
        (λ test.
        let one = released-one placed slot c well test in
        let mine = mapped-some p (instance_of p c) one.0 (sym (current-instance placed c slot place well current p at) ∙ one.1) in
        let k = mine.0 in
        let sends = MaySend-from_instance p k c mine.1 in
        let release : release_of p k ≡ c = sym (ap (λ i. release_of i.placed i.number) mine.2) ∙ one.2 in
        ap is_some (released_by-released p k c (omega arith) (record { release = release; exists = rw release at sends.exists })))
        (λ test.
        let number = number-in (released_by p c) test in
        let k = number.0 in
        let released = IsReleasedIn-from_released_by p k c number.1 in
        let release = released.release in
        let stands : Contains placed p = (place, slice_get_within placed place p at, get_or_from_slice_get placed place p p at) in
        let own = releases-own placed p k well stands (rw (sym release) at released.exists) in
        sym (ap (releases_in placed c) (current.of_slot p at)) ∙ sym (ap (λ x. releases_in placed x p.entry.slot) release) ∙ own)

-- a slot without an instance in a cycle does nothing in it
pub releases-none : (placed : List Placed) (c slot : ℕ) → IsWellPlaced placed → instance_in placed slot c ≡ None → releases_in placed c slot ≡ false
releases-none placed c slot well none = grind (arith, same-test, released-one)

pub last-none : (placed : List Placed) (c slot : ℕ) → instance_in placed slot c ≡ None → is_last_in placed c slot ≡ false
last-none placed c slot none = ap (λ o. option_map_or (λ i. nat_eq (deadline_of i.placed i.number) (c + 1)) o false) none
