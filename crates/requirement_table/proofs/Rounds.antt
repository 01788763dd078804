-- Some cycles later a table does the same again, where all its entries go round.
use Rattle.std.proofs.Common.{◌≡◌, ℕ, ◌+◌, ◌-◌, ◌*◌, ◌/◌, ◌%◌, ◌<◌, ◌≤◌, ◌&&◌, ◌||◌, Bool, true, false, nat_eq, nat_lt, if◌then◌else◌}
use Rattle.std.proofs.Common.{Option, Some, None, IfSome, is_some, option_map, List, [], ◌∷◌, All, slice_get, get_or, refl, ap, ◌∙◌, arith}
use Rattle.std.specs.List.{cons_option, filter_map}
use Rattle.std.specs.Option.{option_map_or}
use Rattle.std.proofs.lemmas.Bool.Decides.{nat_tests}
use Rattle.std.proofs.lemmas.List.Elements.{All-contains, All-head, All-tail}
use Rattle.std.proofs.lemmas.Nat.{div-add-mod'}
use Rattle.std.proofs.Math.Nat.{add-mul-div_right}
use Rattle.requirement_table.specs.declared.entries.Placed.{Placed}
use Rattle.requirement_table.specs.Instance.{Instance, deadline_of, exists, instance_of, latest, may_send, release_of, released_by, worst_of}
use Rattle.requirement_table.specs.Table.{IsInRange, IsWellPlaced, instance_in, is_last_in, releases_in, sendable, worst_in}
use Rattle.requirement_table.proofs.Found.{found-in}

-- an instance of a live entry, `length` cycles later
abbrev pub later : ℕ → Instance → Instance
later length i = record { placed = i.placed; number = i.number + length / i.placed.entry.period }

-- An entry

-- from cycle `b` on the entry does the same again after `d` cycles: it is live, has had its first release, and its
-- period divides them, or it is over
pub record GoesRound (b d : ℕ) (p : Placed) : Type 0 where
  pub begun : p.end ≡ None → p.origin + p.entry.phase ≤ b
  pub divided : p.end ≡ None → d % p.entry.period ≡ 0
  pub over : (e : ℕ) → p.end ≡ Some e → e + p.entry.deadline - 1 ≤ b

record IsLive (p : Placed) (b d : ℕ) : Type 0 where
  none : p.end ≡ None
  begun : p.origin + p.entry.phase ≤ b
  whole : d / p.entry.period * p.entry.period ≡ d

live-of : (p : Placed) (b d : ℕ) → GoesRound b d p → p.end ≡ None → IsLive p b d
live-of p b d rounds none = grind (arith, div-add-mod')

eq-shifted : (a b d : ℕ) → nat_eq (a + d) (b + d) ≡ nat_eq a b
eq-shifted a b d = grind (arith, nat_tests)

latest-later : (p : Placed) (b d c : ℕ) → 1 ≤ p.entry.period → IsLive p b d → b ≤ c → latest p (c + d) ≡ latest p c + d / p.entry.period
latest-later p b d c period live after =
    let m = d / p.entry.period in
    let since : c + d - (p.origin + p.entry.phase) ≡ (c - (p.origin + p.entry.phase)) + m * p.entry.period = omega arith in
    ap (λ x. x / p.entry.period) since ∙ add-mul-div_right (c - (p.origin + p.entry.phase)) m period

release-later : (p : Placed) (b d k : ℕ) → IsLive p b d → release_of p (k + d / p.entry.period) ≡ release_of p k + d
release-later p b d k live = let whole = live.whole in omega arith

exists-live : (p : Placed) (r : ℕ) → p.end ≡ None → exists p r ≡ true
exists-live p r none = ap (λ e. option_map_or (λ end. nat_lt r end) e true) none

may_send-later : (p : Placed) (b d k c : ℕ) → IsLive p b d → may_send p (k + d / p.entry.period) (c + d) ≡ may_send p k c
may_send-later p b d k c live = grind (arith, release-later, exists-live, nat_lt)

number-later : (t : Bool) (k m : ℕ) → (if t then Some (k + m) else None) ≡ option_map (λ x. x + m) (if t then Some k else None)
number-later t k m = grind arith

instance-live : (p : Placed) (b d c : ℕ) → 1 ≤ p.entry.period → IsLive p b d → b ≤ c
    → instance_of p (c + d) ≡ option_map (λ k. k + d / p.entry.period) (instance_of p c)
instance-live p b d c period live after =
    let m = d / p.entry.period in
    let k = latest p c in
    ap (λ x. if may_send p x (c + d) then Some x else None) (latest-later p b d c period live after)
    ∙ ap (λ t. if t then Some (k + m) else None) (may_send-later p b d k c live)
    ∙ number-later (may_send p k c) k m

released-live : (p : Placed) (b d c : ℕ) → 1 ≤ p.entry.period → IsLive p b d → b ≤ c → is_some (released_by p (c + d)) ≡ is_some (released_by p c)
released-live p b d c period live after =
    let m = d / p.entry.period in
    let k = latest p c in
    let at : nat_eq (release_of p (k + m)) (c + d) ≡ nat_eq (release_of p k) c
    = ap (λ r. nat_eq r (c + d)) (release-later p b d k live) ∙ eq-shifted (release_of p k) c d in
    grind (arith, exists-live, is_some, latest-later)

none-of : (o : Option ℕ) → ((k : ℕ) → o ≡ Some k → ⊥) → o ≡ None
none-of o never = grind arith

instance-over : (p : Placed) (b e c : ℕ) → p.end ≡ Some e → 1 ≤ p.entry.deadline → e + p.entry.deadline - 1 ≤ b → b ≤ c → instance_of p c ≡ None
instance-over p b e c is some over after = grind (arith, none-of)

-- what an entry does in a cycle it does again
record DoesAgain (d c : ℕ) (p : Placed) : Type 0 where
  instance : instance_of p (c + d) ≡ option_map (λ k. k + d / p.entry.period) (instance_of p c)
  released : is_some (released_by p (c + d)) ≡ is_some (released_by p c)

again-with : (p : Placed) (b d c : ℕ) (end : Option ℕ) → p.end ≡ end → IsInRange p → GoesRound b d p → b ≤ c → DoesAgain d c p
again-with p b d c None is range rounds after = grind (arith, live-of, instance-live, released-live)
again-with p b d c (Some e) is range rounds after =
    let over = rounds.over e is in
    grind (arith, instance-over, option_map, is_some)

-- A table

first-later : (f : Instance → Instance) (o : Option Instance) (xs ys : List Instance) → slice_get ys 0 ≡ option_map f (slice_get xs 0)
    → slice_get (cons_option (option_map f o) ys) 0 ≡ option_map f (slice_get (cons_option o xs) 0)
first-later f o xs ys same = grind arith

instance-later : (placed : List Placed) (slot d c : ℕ) → All (DoesAgain d c) placed
    → instance_in placed slot (c + d) ≡ option_map (later d) (instance_in placed slot c)
instance-later [] slot d c again = refl
instance-later (p ∷ rest) slot d c again =
    let here = All-head (DoesAgain d c) p rest again in
    let sent : sendable slot (c + d) p ≡ option_map (later d) (sendable slot c p)
    = grind (arith, option_map) in
    ap (λ o. slice_get (cons_option o (filter_map (sendable slot (c + d)) rest)) 0) sent
    ∙ first-later (later d) (sendable slot c p) (filter_map (sendable slot c) rest) (filter_map (sendable slot (c + d)) rest)
    (instance-later rest slot d c (All-tail (DoesAgain d c) p rest again))

releases-later : (placed : List Placed) (slot d c : ℕ) → All (DoesAgain d c) placed → releases_in placed (c + d) slot ≡ releases_in placed c slot
releases-later [] slot d c again = refl
releases-later (p ∷ rest) slot d c again =
    let here = All-head (DoesAgain d c) p rest again in
    ap (λ t. (nat_eq p.entry.slot slot && t) || releases_in rest (c + d) slot) here.released
    ∙ ap (λ t. (nat_eq p.entry.slot slot && is_some (released_by p c)) || t) (releases-later rest slot d c (All-tail (DoesAgain d c) p rest again))

all-again : (placed : List Placed) (b d c : ℕ) → IsWellPlaced placed → All (GoesRound b d) placed → b ≤ c → All (DoesAgain d c) placed
all-again placed b d c well rounds after = λ k e within.
    again-with (get_or placed k e) b d c (get_or placed k e).end refl (well.in_range k e within) (rounds k e within) after

-- from cycle `b` on an instance that is found is found again after `d` cycles
pub instance-again : (placed : List Placed) (b d c slot : ℕ) → IsWellPlaced placed → All (GoesRound b d) placed → b ≤ c
    → instance_in placed slot (c + d) ≡ option_map (later d) (instance_in placed slot c)
instance-again placed b d c slot well rounds after = instance-later placed slot d c (all-again placed b d c well rounds after)

-- the deadline of an instance that is found moves by as many cycles, and is not 0
abbrev pub IsMoved : ℕ → Option Instance → Type 0
IsMoved d o = IfSome o (λ i. (deadline_of i.placed (i.number + d / i.placed.entry.period) ≡ deadline_of i.placed i.number + d)
    × (0 < deadline_of i.placed i.number))

moved-with : (placed : List Placed) (b d c slot : ℕ) (o : Option Instance) → instance_in placed slot c ≡ o → IsWellPlaced placed
    → All (GoesRound b d) placed → b ≤ c → IsMoved d o
moved-with placed b d c slot None is well rounds after = tt
moved-with placed b d c slot (Some i) is well rounds after =
    let found = found-in placed slot c i well is in
    let round = All-contains (GoesRound b d) placed i.placed rounds found.stands in
    let live = live-of i.placed b d round (no-end i.placed.end refl round found.in_range found.number) in
    (omega arith, omega arith)
  where
    no-end : (end : Option ℕ) → i.placed.end ≡ end → GoesRound b d i.placed → IsInRange i.placed → instance_of i.placed c ≡ Some i.number → i.placed.end ≡ None
    no-end None none round range found = none
    no-end (Some e) some round range found =
        let none = instance-over i.placed b e c some range.entry.some_time (round.over e some) after in
        absurd (cc)

pub moved-again : (placed : List Placed) (b d c slot : ℕ) → IsWellPlaced placed → All (GoesRound b d) placed → b ≤ c
    → IsMoved d (instance_in placed slot c)
moved-again placed b d c slot well rounds after = moved-with placed b d c slot (instance_in placed slot c) refl well rounds after

cost-later : (d : ℕ) (o : Option Instance) → option_map_or worst_of (option_map (later d) o) 0 ≡ option_map_or worst_of o 0
cost-later d o = grind arith

last-later : (d c : ℕ) (o : Option Instance) → IsMoved d o
    → option_map_or (λ i. nat_eq (deadline_of i.placed i.number) (c + d + 1)) (option_map (later d) o) false
    ≡ option_map_or (λ i. nat_eq (deadline_of i.placed i.number) (c + 1)) o false
last-later d c o moved = grind (arith, eq-shifted)

-- from cycle `b` on the slot does the same again after `d` cycles
pub record SameAgain (placed : List Placed) (d c slot : ℕ) : Type 0 where
  pub releases : releases_in placed (c + d) slot ≡ releases_in placed c slot
  pub last : is_last_in placed (c + d) slot ≡ is_last_in placed c slot
  pub cost : worst_in placed (c + d) slot ≡ worst_in placed c slot

pub same-again : (placed : List Placed) (b d c slot : ℕ) → IsWellPlaced placed → All (GoesRound b d) placed → b ≤ c → SameAgain placed d c slot
same-again placed b d c slot well rounds after =
    let found = instance-again placed b d c slot well rounds after in
    record {
      releases = releases-later placed slot d c (all-again placed b d c well rounds after);
      last = grind (arith, last-later, moved-again);
      cost = ap (λ o. option_map_or worst_of o 0) found ∙ cost-later d (instance_in placed slot c);
    }
