-- Entries that have settled do the same again after a common period.
use Rattle.std.proofs.Common.{◌≡◌, ℕ, ◌+◌, ◌-◌, ◌*◌, ◌/◌, ◌%◌, ◌<◌, ◌≤◌, Bool, true, false, ◌&&◌, ◌||◌, nat_eq, nat_lt, if◌then◌else◌, Option, Some, None, is_some, List, [], ◌∷◌, slice_get, All, refl, sym, ap, ◌∙◌, subst, arith}
use Rattle.std.specs.List.{cons_option, filter_map}
use Rattle.std.specs.Option.{option_map, option_map_or, option_or}
use Rattle.std.proofs.Math.Nat.{add-mul-div_right}
use Rattle.std.proofs.lemmas.Bool.Decides.{nat_tests}
use Rattle.std.proofs.lemmas.List.Elements.{All-head, All-tail}
use Rattle.requirement_table.specs.declared.entries.Placed.{Placed}
use Rattle.requirement_table.specs.Instance.{Instance, deadline_of, exists, instance_of, latest, may_send, release_of, released_by, worst_of}
use Rattle.requirement_table.specs.Table.{instance_in, releases_in, sendable}
use Rattle.requirement_table.proofs.Shared.{exists-true}
use Rattle.planner_policies.specs.declared.Policy.{Policy}
use Rattle.planner_policies.specs.declared.Policy.TheVariants.{Edf}
use Rattle.planner_policies.specs.Loop.{settled_at}
use Rattle.planner_policies.specs.Plan.{by_number, key_of}
use Rattle.admission.proofs.Cycles.{IsLike}
use Rattle.admission.proofs.Divided.{parts-of}

-- the instance `j` of an entry is released `more` cycles behind the instance `i`
pub record IsBehind (more : ℕ) (i j : Instance) : Type 0 where
  pub placed : j.placed ≡ i.placed
  pub release : release_of j.placed j.number ≡ release_of i.placed i.number + more
  pub some_time : 1 ≤ i.placed.entry.deadline

abbrev pub AreBehind : ℕ → Option Instance → Option Instance → Type 0
AreBehind more None None = Unit {0}
AreBehind more None (Some j) = ⊥
AreBehind more (Some i) None = ⊥
AreBehind more (Some i) (Some j) = IsBehind more i j

-- one entry that is live

latest-later : (first period q c more : ℕ) → 0 < period → first ≤ c → more ≡ q * period
    → (c + more - first) / period ≡ (c - first) / period + q
latest-later first period q c more positive begun parts =
    let apart : c + more - first ≡ c - first + q * period = omega arith in
    ap (λ n. n / period) apart ∙ add-mul-div_right (c - first) q positive

release-later : (first period k q more : ℕ) → more ≡ q * period → first + (k + q) * period ≡ first + k * period + more
release-later first period k q more parts = grind arith

eq-later : (a b more : ℕ) → nat_eq (a + more) (b + more) ≡ nat_eq a b
eq-later a b more = grind (arith, nat_tests)

live-exists : (end : Option ℕ) (release : ℕ) → end ≡ None → option_map_or (λ e. nat_lt release e) end true ≡ true
live-exists end release live = grind arith

module _ (p : Placed) (q c more : ℕ) (live : p.end ≡ None) (positive : 0 < p.entry.period) (begun : p.origin + p.entry.phase ≤ c)
    (parts : more ≡ q * p.entry.period) where
  again : latest p (c + more) ≡ latest p c + q
  again = latest-later (p.origin + p.entry.phase) p.entry.period q c more positive begun parts

  pub released-again : (k : ℕ) → release_of p (k + q) ≡ release_of p k + more
  released-again k = release-later (p.origin + p.entry.phase) p.entry.period k q more parts

  sends-again : (k : ℕ) → may_send p (k + q) (c + more) ≡ may_send p k c
  sends-again k = grind (arith, nat_lt, live-exists, released-again)

  pub instance-again : instance_of p (c + more) ≡ option_map (λ k. k + q) (instance_of p c)
  instance-again =
      ap (λ k. if may_send p k (c + more) then Some k else None) again
      ∙ ap (λ b. if b then Some (latest p c + q) else None) (sends-again (latest p c))
      ∙ mapped (may_send p (latest p c) c) where
        mapped : (b : Bool) → (if b then Some (latest p c + q) else None) ≡ option_map (λ k. k + q) (if b then Some (latest p c) else None)
        mapped b = grind arith

  pub release-again : is_some (released_by p (c + more)) ≡ is_some (released_by p c)
  release-again =
      ap (λ k. is_some (if nat_eq (release_of p k) (c + more) && exists p (c + more) then Some k else None)) again
      ∙ ap (λ r. is_some (if nat_eq r (c + more) && exists p (c + more) then Some (latest p c + q) else None)) (released-again (latest p c))
      ∙ ap (λ b. is_some (if b && exists p (c + more) then Some (latest p c + q) else None)) (eq-later (release_of p (latest p c)) c more)
      ∙ ap (λ b. is_some (if nat_eq (release_of p (latest p c)) c && b then Some (latest p c + q) else None))
      (live-exists p.end (c + more) live ∙ sym (live-exists p.end c live))
      ∙ some (nat_eq (release_of p (latest p c)) c && exists p c) where
        some : (b : Bool) → is_some (if b then Some (latest p c + q) else None) ≡ is_some (if b then Some (latest p c) else None)
        some b = grind arith

-- one entry that is over

over-sends : (end : Option ℕ) (e deadline bound release c : ℕ) → end ≡ Some e → e + deadline - 1 ≤ bound → bound ≤ c
    → option_map_or (λ e. nat_lt release e) end true ≡ true → c < release + deadline → ⊥
over-sends end e deadline bound release c is over later exists in_time = grind (arith, nat_lt, nat_tests)

none_of : {X : Type 0} (o : Option X) → ((x : X) → o ≡ Some x → ⊥) → o ≡ None
none_of o wrong = grind arith

over-releases : (end : Option ℕ) (e deadline bound c : ℕ) → end ≡ Some e → e + deadline - 1 ≤ bound → bound ≤ c → 1 ≤ deadline
    → option_map_or (λ e. nat_lt c e) end true ≡ true → ⊥
over-releases end e deadline bound c is over later some exists = grind (arith, some, nat_lt, nat_tests)

module _ (p : Placed) (e bound c : ℕ) (ended : p.end ≡ Some e) (over : e + p.entry.deadline - 1 ≤ bound) (later : bound ≤ c)
    (some_time : 1 ≤ p.entry.deadline) where
  pub releases-none : released_by p c ≡ None
  releases-none = grind (arith, none_of, over-releases, exists-true)

-- an entry in its slot

behind-slot : (b : Bool) (p : Placed) (q more : ℕ) (found : Option ℕ) → 1 ≤ p.entry.deadline → ((k : ℕ) → release_of p (k + q) ≡ release_of p k + more)
    → AreBehind more (if b then option_map (λ k. record { placed = p; number = k }) found else None)
    (if b then option_map (λ k. record { placed = p; number = k }) (option_map (λ k. k + q) found) else None)
behind-slot b p q more found some_time releases = grind arith

-- what holds of an entry by cycle `c`, where it is live or over
pub record IsSettled (more c : ℕ) (p : Placed) : Type 0 where
  pub begun : settled_at p ≤ c
  pub divided : p.end ≡ None → more % p.entry.period ≡ 0
  pub positive : p.end ≡ None → 0 < p.entry.period
  pub some_time : 1 ≤ p.entry.deadline

by-end : (p : Placed) (c : ℕ) (X : Type 0) → settled_at p ≤ c → (p.end ≡ None → p.origin + p.entry.phase ≤ c → X)
    → ((e : ℕ) → p.end ≡ Some e → e + p.entry.deadline - 1 ≤ c → X) → X
by-end p c X begun live over = cases p.end refl begun where
  cases : (end : Option ℕ) → p.end ≡ end
      → option_map_or (λ free. free) (option_map (λ end. end + p.entry.deadline - 1) end) (p.origin + p.entry.phase) ≤ c → X
  cases end is begun = grind arith

sendable-behind : (slot c more : ℕ) (p : Placed) → IsSettled more c p → AreBehind more (sendable slot c p) (sendable slot (c + more) p)
sendable-behind slot c more p settled =
    by-end p c (AreBehind more (sendable slot c p) (sendable slot (c + more) p)) settled.begun
    (λ live begun.
    let q : ℕ = more / p.entry.period in
    let parts : more ≡ q * p.entry.period = sym (parts-of more p.entry.period (settled.divided live)) in
    let again = instance-again p q c more live (settled.positive live) begun parts in
    subst
    (λ (found : Option ℕ). AreBehind more (sendable slot c p)
    (if nat_eq p.entry.slot slot then option_map (λ k. record { placed = p; number = k }) found else None))
    (sym again)
    (behind-slot (nat_eq p.entry.slot slot) p q more (instance_of p c) settled.some_time
    (released-again p q c more live (settled.positive live) begun parts)))
    (λ e ended over. grind arith)

release-behind : (slot c more : ℕ) (p : Placed) → IsSettled more c p
    → (nat_eq p.entry.slot slot && is_some (released_by p c)) ≡ (nat_eq p.entry.slot slot && is_some (released_by p (c + more)))
release-behind slot c more p settled =
    ap (λ b. nat_eq p.entry.slot slot && b)
    (by-end p c (is_some (released_by p c) ≡ is_some (released_by p (c + more))) settled.begun
    (λ live begun.
    let q : ℕ = more / p.entry.period in
    let parts : more ≡ q * p.entry.period = sym (parts-of more p.entry.period (settled.divided live)) in
    sym (release-again p q c more live (settled.positive live) begun parts))
    (λ e ended over. grind (arith, is_some, releases-none)))

-- lists

first-cons : {A : Type 0} (o : Option A) (xs : List A) → slice_get (cons_option o xs) 0 ≡ option_or o (slice_get xs 0)
first-cons o xs = grind arith

behind-or : (more : ℕ) (a b r s : Option Instance) → AreBehind more a b → AreBehind more r s → AreBehind more (option_or a r) (option_or b s)
behind-or more a b r s this rest = grind arith

pub instances-behind : (slot c more : ℕ) (placed : List Placed) → All (IsSettled more c) placed
    → AreBehind more (instance_in placed slot c) (instance_in placed slot (c + more))
instances-behind slot c more [] settled = tt
instances-behind slot c more (p ∷ placed) settled =
    rw (
      first-cons (sendable slot c p) (filter_map (sendable slot c) placed),
      first-cons (sendable slot (c + more) p) (filter_map (sendable slot (c + more)) placed),
    )
    (behind-or more (sendable slot c p) (sendable slot (c + more) p) (instance_in placed slot c) (instance_in placed slot (c + more))
    (sendable-behind slot c more p (All-head (IsSettled more c) p placed settled))
    (instances-behind slot c more placed (All-tail (IsSettled more c) p placed settled)))

releases-behind : (slot c more : ℕ) (placed : List Placed) → All (IsSettled more c) placed → releases_in placed c slot ≡ releases_in placed (c + more) slot
releases-behind slot c more [] settled = refl
releases-behind slot c more (p ∷ placed) settled =
    ap (λ b. b || releases_in placed c slot) (release-behind slot c more p (All-head (IsSettled more c) p placed settled))
    ∙ ap (λ b. (nat_eq p.entry.slot slot && is_some (released_by p (c + more))) || b)
    (releases-behind slot c more placed (All-tail (IsSettled more c) p placed settled))

-- what is known of instances that are behind others

worst-behind : (more : ℕ) (o r : Option Instance) → AreBehind more o r → option_map_or worst_of o 0 ≡ option_map_or worst_of r 0
worst-behind more o r behind = grind arith

last-behind : (more c : ℕ) (o r : Option Instance) → AreBehind more o r
    → option_map_or (λ i. nat_eq (deadline_of i.placed i.number) (c + 1)) o false
    ≡ option_map_or (λ i. nat_eq (deadline_of i.placed i.number) (c + more + 1)) r false
last-behind more c o r behind = grind (arith, nat_tests)

-- the keys of two slots, each with an instance or none
abbrev first_of : Policy → Option Instance → ℕ
first_of policy o = option_map_or (key_of policy) o 0

by-same : (a b a' b' : ℕ) (rest : Bool) → a ≡ a' → b ≡ b' → by_number a b rest ≡ by_number a' b' rest
by-same a b a' b' rest first second = cc

by-left : (a b : ℕ) (rest : Bool) → 0 < a → 0 < b → by_number a 0 rest ≡ by_number b 0 rest
by-left a b rest one other = grind (arith, nat_tests)

by-right : (a b : ℕ) (rest : Bool) → 0 < a → 0 < b → by_number 0 a rest ≡ by_number 0 b rest
by-right a b rest one other = grind (arith, nat_tests)

edf-by : (more : ℕ) (o r u v : Option Instance) (rest : Bool) → AreBehind more o r → AreBehind more u v
    → by_number (first_of Edf o) (first_of Edf u) rest ≡ by_number (first_of Edf r) (first_of Edf v) rest
edf-by more None None None None rest one other = refl
edf-by more (Some i) (Some j) (Some k) (Some l) rest one other = grind (arith, by-same)
edf-by more (Some i) (Some j) None None rest one other =
    grind (arith, by-left)
edf-by more None None (Some k) (Some l) rest one other =
    grind (arith, by-right)
edf-by more None (Some j) u v rest one other = absurd one
edf-by more (Some i) None u v rest one other = absurd one
edf-by more None None None (Some l) rest one other = absurd other
edf-by more None None (Some k) None rest one other = absurd other
edf-by more (Some i) (Some j) None (Some l) rest one other = absurd other
edf-by more (Some i) (Some j) (Some k) None rest one other = absurd other

keys-by : (policy : Policy) (more : ℕ) (o r u v : Option Instance) (rest : Bool) → AreBehind more o r → AreBehind more u v
    → by_number (first_of policy o) (first_of policy u) rest ≡ by_number (first_of policy r) (first_of policy v) rest
keys-by policy more o r u v rest one other = grind (arith, by-same, edf-by)

pub like-behind : (policy : Policy) (placed : List Placed) (c more : ℕ) → All (IsSettled more c) placed → IsLike policy placed placed c (c + more)
like-behind policy placed c more settled =
    let behind : (slot : ℕ) → AreBehind more (instance_in placed slot c) (instance_in placed slot (c + more)) =
    λ slot. instances-behind slot c more placed settled in
    record {
      releases = λ slot. releases-behind slot c more placed settled;
      worst = λ slot. worst-behind more (instance_in placed slot c) (instance_in placed slot (c + more)) (behind slot);
      order = grind (arith, keys-by, by-same);
      last = λ slot. last-behind more c (instance_in placed slot c) (instance_in placed slot (c + more)) (behind slot);
    }
