-- The instances that are pending in a cycle, found among the rows of a table.
use Rattle.std.proofs.Common.{◌≡◌, ◌≢◌, ℕ, ◌+◌, ◌<◌, ◌≤◌, ◌&&◌, ◌||◌, Bool, true, false, nat_eq, if◌then◌else◌, Option, Some, None, is_some, List, [], ◌∷◌, All, AllPairs, Contains, IsPermutation, length, get_or, map, take, slice_get, length-take, length-append, refl, sym, ap, ◌∙◌, ⊎_elim, arith}
use Rattle.std.proofs.lemmas.Grind.{common_steps}
use Rattle.std.specs.List.{count_by, list_any}
use Rattle.std.proofs.lemmas.Bool.{both_ways, cases_lt, eq-eqb, eqb-true, and_parts, and_from, or_cases, or_from, or_left, or_parts, or_right}
use Rattle.std.proofs.lemmas.Option.{slice_get-get_or, same_Some}
use Rattle.std.proofs.lemmas.List.{length-map}
use Rattle.std.proofs.lemmas.List.Elements.{All-contains, All-contains_itself, All-cons, All-head, All-map, All-tail, All-weaker}
use Rattle.std.proofs.lemmas.List.Folds.{Any-from_list_any, list_any-append, list_any-from_Any, list_any_kept, list_any_more}
use Rattle.std.proofs.lemmas.List.Sorted.{All-permutation, length_permutation, list_any-IsPermutation, sum_by-IsPermutation}
use Rattle.std.proofs.lemmas.List.Sums.{get_or-le-sum_by, sum_by-cons, sum_by_more_le}
use Rattle.requirement_table.specs.declared.entries.Placed.{Placed}
use Rattle.requirement_table.specs.Instance.{IsReleasedIn, MaySend, instance_of, release_of, released_by}
use Rattle.bit_sets.specs.Sets.{has_bit, most_slots}
use Rattle.requirement_table.specs.Table.{IsInRange, IsWellPlaced, releases_in}
use Rattle.requirement_table.proofs.Shared.{found-in, found-of, instance_of-sent, one_instance, released_by-released}
use Rattle.planner_policies.specs.declared.due.Due.{Due}
use Rattle.planner_policies.specs.Due.{IsDueIn, IsDueOf, IsLined, IsPending, IsPutIn, IsWholeLine, is_due_by}
use Rattle.planner_policies.specs.Plan.{IsValid, Planning, pending_in}
use Rattle.planner_policies.proofs.KeyOrder.{due_by-total}
use Rattle.planner_policies.proofs.Pairs.{all-join, all-parts, pairs-cons, count-distinct, pairs-head, pairs-join, pairs-map, pairs-tail}

-- whether an entry of the slot has an instance that may be sent in the cycle
abbrev pub sends_of : ℕ → ℕ → Placed → Bool
sends_of c slot p = nat_eq p.entry.slot slot && is_some (instance_of p c)

some-number : (o : Option ℕ) → is_some o ≡ true → (k : ℕ) × (o ≡ Some k)
some-number o is = grind arith

record IsSender (c slot : ℕ) (p : Placed) : Type 0 where
  of_slot : p.entry.slot ≡ slot
  number : ℕ
  sends : MaySend p number c

sender-of : (c slot : ℕ) (p : Placed) → sends_of c slot p ≡ true → IsSender c slot p
sender-of c slot p test = grind (arith, and_parts, is_some, some-number, eqb-true)

pub sends-test : (c slot : ℕ) (p : Placed) (k : ℕ) → IsInRange p → p.entry.slot ≡ slot → MaySend p k c → sends_of c slot p ≡ true
sends-test c slot p k range of_slot sends = grind (arith, and_from, is_some, eq-eqb, instance_of-sent)

place-in : (placed : List Placed) (i : ℕ) (d : Placed) → i < length placed → slice_get placed i ≡ Some (get_or placed i d)
place-in placed i d within = slice_get-get_or placed i d within

only_false : (b : Bool) → (b ≡ true → ⊥) → b ≡ false
only_false b wrong = grind arith

count-cons : {X : Type 0} (p : X → Bool) (x : X) (xs : List X) (b : Bool) → p x ≡ b → count_by p (x ∷ xs) ≡ (if b then 1 else 0) + count_by p xs
count-cons p x xs b is = grind (arith, common_steps, sum_by-cons)

count-none : {X : Type 0} (p : X → Bool) (xs : List X) → All (λ x. p x ≡ false) xs → count_by p xs ≡ 0
count-none p [] none = refl
count-none p (x ∷ xs) none =
    count-cons p x xs false (All-head (λ y. p y ≡ false) x xs none) ∙ ap (λ n. 0 + n) (count-none p xs (All-tail (λ y. p y ≡ false) x xs none))

none-behind : {X : Type 0} (p : X → Bool) (x : X) (xs : List X) → AllPairs (λ v w. p v ≡ true → p w ≡ true → ⊥) (x ∷ xs) → p x ≡ true
    → All (λ y. p y ≡ false) xs
none-behind p x xs apart here k d within =
    only_false (p (get_or xs k d)) (pairs-head (λ v w. p v ≡ true → p w ≡ true → ⊥) x xs apart k d within here)

count-step : {X : Type 0} (p : X → Bool) (x : X) (xs : List X) (b : Bool) → p x ≡ b → AllPairs (λ v w. p v ≡ true → p w ≡ true → ⊥) (x ∷ xs)
    → count_by p xs ≤ 1 → count_by p (x ∷ xs) ≤ 1
count-step p x xs true is apart rest =
    let none = count-none p xs (none-behind p x xs apart is) in
    grind (arith, count-cons)
count-step p x xs false is apart rest = grind (arith, count-cons)

-- a test that no two elements pass is passed at most once
count-le-one : {X : Type 0} (p : X → Bool) (xs : List X) → AllPairs (λ v w. p v ≡ true → p w ≡ true → ⊥) xs → count_by p xs ≤ 1
count-le-one p [] apart = omega arith
count-le-one p (x ∷ xs) apart =
    count-step p x xs (p x) refl apart (count-le-one p xs (pairs-tail (λ v w. p v ≡ true → p w ≡ true → ⊥) x xs apart))

pub one-sender : (placed : List Placed) (c slot : ℕ) → IsWellPlaced placed → AllPairs (λ p q. sends_of c slot p ≡ true → sends_of c slot q ≡ true → ⊥) placed
one-sender placed c slot well i j d before within = λ first second.
    let p = get_or placed i d in
    let q = get_or placed j d in
    let one = sender-of c slot p first in
    let other = sender-of c slot q second in
    let same = one_instance placed well i j one.number other.number c p q (place-in placed i d (omega arith)) (place-in placed j d within)
    (one.of_slot ∙ sym other.of_slot) one.sends other.sends in
    grind arith

-- before a row with an instance of a slot no other row has one
pub fresh : (placed rows : List Placed) (c slot k : ℕ) (d : Placed) → IsWellPlaced placed → IsPermutation placed rows → k < length rows
    → sends_of c slot (get_or rows k d) ≡ true → list_any (sends_of c slot) (take k rows) ≡ false
fresh placed rows c slot k d well same within sends =
    only_false (list_any (sends_of c slot) (take k rows)) (λ test.
    let f : Placed → ℕ = λ p. if sends_of c slot p then 1 else 0 in
    let any = Any-from_list_any (sends_of c slot) (take k rows) test in
    let one : f any.1 ≡ 1 = ap (λ b. if b then 1 else 0) any.4 in
    let here : f (get_or rows k d) ≡ 1 = ap (λ b. if b then 1 else 0) sends in
    let read : f (get_or (take k rows) any.0 any.1) ≡ 1 = ap f any.3 ∙ one in
    let whole = sum_by-IsPermutation f placed rows same in
    let most = count-le-one (sends_of c slot) placed (one-sender placed c slot well) in
    let sum = sum_by_more_le f rows k d within in
    let part = get_or-le-sum_by f (take k rows) any.0 any.1 any.2 in
    omega arith)

-- an instance that is released in a cycle is one that its slot releases in it
releases-test : (placed : List Placed) (p : Placed) (k c : ℕ) → IsInRange p → Contains placed p → MaySend p k c → release_of p k ≡ c
    → releases_in placed c p.entry.slot ≡ true
releases-test placed p k c range stands sends release = grind (arith, released_by-released, list_any-from_Any, is_some, and_from, eq-eqb)

pub record IsReleaser (placed : List Placed) (slot c : ℕ) : Type 0 where
  pub entry : Placed
  pub stands : Contains placed entry
  pub of_slot : entry.entry.slot ≡ slot
  pub number : ℕ
  pub released : IsReleasedIn entry number c
  pub sends : MaySend entry number c

pub releaser-of : (placed : List Placed) (slot c : ℕ) → IsWellPlaced placed → releases_in placed c slot ≡ true → IsReleaser placed slot c
releaser-of placed slot c well test =
    let any = Any-from_list_any (λ q. nat_eq q.entry.slot slot && is_some (released_by q c)) placed test in
    grind (arith, and_parts, is_some, some-number, eqb-true)

-- what an entry has to send is what its slot has to send
pub due_in-of : (plan : Planning) (c : ℕ) (before : ℕ → Bool) (p : Placed) (due : Due) → IsWellPlaced plan.placed → Contains plan.placed p
    → IsPending plan.policy before c p due → IsDueIn plan c before due
due_in-of plan c before p due well stands pending = grind (arith, or_left, or_right, releases-test, eqb-true, or_cases, found-of)

-- an entry whose instance is not pending is of a slot that has none pending
pub none_pending : (plan : Planning) (c : ℕ) (before : ℕ → Bool) (p : Placed) (slot : ℕ) → IsWellPlaced plan.placed → Contains plan.placed p
    → IsDueOf plan.policy before c p None → sends_of c slot p ≡ true → pending_in plan.placed c before slot ≡ false
none_pending plan c before p slot well stands none sends =
    let sender = sender-of c slot p sends in
    let k = sender.number in
    let parts = or_parts (before p.entry.slot) (nat_eq (release_of p k) c) (none k sender.sends) in
    ap (pending_in plan.placed c before) (sym sender.of_slot)
    ∙ or_from (before p.entry.slot) (releases_in plan.placed c p.entry.slot) parts.0
    (only_false (releases_in plan.placed c p.entry.slot) (λ test.
    let other = releaser-of plan.placed p.entry.slot c well test in
    let same = one_instance plan.placed well stands.0 other.stands.0 k other.number c p other.entry
    (place-of plan.placed p stands) (place-of plan.placed other.entry other.stands) (sym other.of_slot) sender.sends other.sends in
    let equal : p ≡ other.entry = same_Some p other.entry (sym (place-of plan.placed p stands) ∙ ap (slice_get plan.placed) same.0 ∙ place-of plan.placed other.entry other.stands) in
    let release : release_of p k ≡ c = ap (λ q. release_of q k) equal ∙ ap (release_of other.entry) same.1 ∙ other.released.release in
    both_ways (nat_eq (release_of p k) c) parts.1 (eq-eqb (release_of p k) c release)))
  where
    place-of : (placed : List Placed) (q : Placed) (at : Contains placed q) → slice_get placed at.0 ≡ Some q
    place-of placed q at = slice_get-get_or placed at.0 q at.1 ∙ ap (λ x. Some x) at.2

-- the instances of the first `k` rows that are pending in the cycle, in key order
pub record IsLineOf (plan : Planning) (c : ℕ) (before : ℕ → Bool) (rows : List Placed) (line : List Due) : Type 0 where
  pub each : All (IsDueIn plan c before) line
  pub distinct : AllPairs (λ one other. one.slot ≢ other.slot) line
  pub lined : IsLined line
  pub sources : All (λ due. list_any (sends_of c due.slot) rows ≡ true) line
  pub few : length line ≤ length rows
  pub all : (slot : ℕ) → slot < most_slots → pending_in plan.placed c before slot ≡ true → list_any (sends_of c slot) rows ≡ true
      → list_any (λ due. nat_eq due.slot slot) line ≡ true

pub line_of-start : (plan : Planning) (c : ℕ) (before : ℕ → Bool) → IsLineOf plan c before [] []
line_of-start plan c before = grind arith

-- a row with nothing to send
pub line_of-none : (plan : Planning) (c : ℕ) (before : ℕ → Bool) (rows : List Placed) (k : ℕ) (d : Placed) (line : List Due) → IsWellPlaced plan.placed
    → k < length rows → Contains plan.placed (get_or rows k d) → IsLineOf plan c before (take k rows) line
    → IsDueOf plan.policy before c (get_or rows k d) None → IsLineOf plan c before (take (k + 1) rows) line
line_of-none plan c before rows k d line well within stands so_far none =
    grind (arith, common_steps, list_any_kept, length-take, both_ways, none_pending, or_cases, list_any_more)

-- a slot that the line has not got
slots-apart : (c slot : ℕ) (rows : List Placed) (line : List Due) → list_any (sends_of c slot) rows ≡ false
    → All (λ due. list_any (sends_of c due.slot) rows ≡ true) line → All (λ due. slot ≢ due.slot) line
slots-apart c slot rows line none sources = grind (arith, both_ways)

pub room-for : (plan : Planning) (c : ℕ) (before : ℕ → Bool) (slot : ℕ) (line : List Due) → slot < most_slots → All (IsDueIn plan c before) line
    → AllPairs (λ one other. one.slot ≢ other.slot) line → All (λ due. slot ≢ due.slot) line → length line < most_slots
room-for plan c before slot line known each distinct apart =
    let f : Due → ℕ = λ due. due.slot in
    let below = All-cons (λ x. x < most_slots) slot (map f line) known
    (All-map (λ x. x < most_slots) f line (All-weaker (IsDueIn plan c before) (λ due. due.slot < most_slots) (λ due is. is.known) line each)) in
    let different = pairs-cons (λ v w. v ≢ w) slot (map f line) (All-map (λ x. slot ≢ x) f line apart) (pairs-map (λ v w. v ≢ w) f line distinct) in
    let count = count-distinct (slot ∷ map f line) most_slots below different in
    grind (arith, length-map)

-- what a row with something to send adds to the line
pub record IsMore (plan : Planning) (c : ℕ) (before : ℕ → Bool) (rows : List Placed) (k : ℕ) (d : Placed) (line : List Due) (due : Due) : Type 0 where
  pub in' : IsDueIn plan c before due
  pub slot : due.slot ≡ (get_or rows k d).entry.slot
  pub sends : sends_of c due.slot (get_or rows k d) ≡ true
  pub apart : All (λ other. due.slot ≢ other.slot) line

pub more-of : (plan : Planning) (c : ℕ) (before : ℕ → Bool) (rows : List Placed) (k : ℕ) (d : Placed) (line : List Due) (due : Due)
    → IsWellPlaced plan.placed → IsPermutation plan.placed rows → k < length rows → Contains plan.placed (get_or rows k d)
    → IsLineOf plan c before (take k rows) line → IsPending plan.policy before c (get_or rows k d) due → IsMore plan c before rows k d line due
more-of plan c before rows k d line due well same within stands so_far pending =
    let p = get_or rows k d in
    let range = All-contains IsInRange plan.placed p well.in_range stands in
    let sends = sends-test c due.slot p pending.number range (sym pending.is.slot) pending.sends in
    record {
      in' = due_in-of plan c before p due well stands pending;
      slot = pending.is.slot;
      sends = sends;
      apart = slots-apart c due.slot (take k rows) line (fresh plan.placed rows c due.slot k d well same within sends) so_far.sources;
    }

-- a line with room for each slot, or for each row, has room for one more
pub room-of : (plan : Planning) (c : ℕ) (before : ℕ → Bool) (rows : List Placed) (k : ℕ) (d : Placed) (line : List Due) (due : Due) (room : ℕ)
    → IsLineOf plan c before (take k rows) line → IsMore plan c before rows k d line due → k < length rows → IsPermutation plan.placed rows
    → (room < most_slots → length plan.placed ≤ room) → length line < room
room-of plan c before rows k d line due room so_far more within same enough =
    ⊎_elim
    (λ (less : room < most_slots). grind (arith, length_permutation, length-take))
    (λ (all : most_slots ≤ room).
    let slots_fit = room-for plan c before due.slot line more.in'.known so_far.each so_far.distinct more.apart in
    omega arith)
    (cases_lt room most_slots)

-- a row with something to send, which was put in its place
pub line_of-more : (plan : Planning) (c : ℕ) (before : ℕ → Bool) (rows : List Placed) (k : ℕ) (d : Placed) (line after : List Due) (due : Due)
    → k < length rows → IsLineOf plan c before (take k rows) line → IsMore plan c before rows k d line due → IsPutIn due line after
    → IsLineOf plan c before (take (k + 1) rows) after
line_of-more plan c before rows k d line after due within so_far more put =
    let front = put.front in
    let back = put.back in
    let next : (slot : ℕ) → list_any (sends_of c slot) (take (k + 1) rows) ≡ (list_any (sends_of c slot) (take k rows) || sends_of c slot (get_or rows k d))
    = λ slot. list_any_more (sends_of c slot) rows k d within in
    let each = rw put.was at so_far.each in
    let distinct = rw put.was at so_far.distinct in
    let lined = rw put.was at so_far.lined in
    let apart = all-parts (λ other. due.slot ≢ other.slot) front back (rw put.was at more.apart) in
    let sources = All-weaker (λ other. list_any (sends_of c other.slot) (take k rows) ≡ true) (λ other. list_any (sends_of c other.slot) (take (k + 1) rows) ≡ true)
    (λ other found. list_any_kept (sends_of c other.slot) rows k found) line so_far.sources in
    record {
      each = rw put.is (all-join (IsDueIn plan c before) front due back each more.in');
      distinct = rw put.is
          (pairs-join (λ one other. one.slot ≢ other.slot) front due back distinct
          (All-weaker (λ other. due.slot ≢ other.slot) (λ other. other.slot ≢ due.slot) (λ other differ same. differ (sym same)) front apart.0) apart.1);
      lined = rw put.is
          (pairs-join (λ one other. is_due_by one other ≡ true) front due back lined put.before
          (All-weaker (λ other. is_due_by other due ≡ false) (λ other. is_due_by due other ≡ true) (λ other wrong. due_by-total other due wrong) back put.behind));
      sources = rw put.is
          (all-join (λ other. list_any (sends_of c other.slot) (take (k + 1) rows) ≡ true) front due back (rw put.was at sources)
          (next due.slot ∙ or_right (list_any (sends_of c due.slot) (take k rows)) (sends_of c due.slot (get_or rows k d)) more.sends));
      few = grind (arith, common_steps, length-take, length-append);
      all = grind (arith, list_any-append, or_left, or_right, or_cases, eqb-true, and_parts, is_some, eq-eqb);
    }

-- each slot that is pending has an instance that may be sent
pub sends-pending : (plan : Planning) (c slot : ℕ) (pending : ℕ) → IsWellPlaced plan.placed → IsValid plan.placed c pending
    → pending_in plan.placed c (has_bit pending) slot ≡ true → list_any (sends_of c slot) plan.placed ≡ true
sends-pending plan c slot pending well valid waiting =
    let placed = plan.placed in
    ⊎_elim
    (λ (before : has_bit pending slot ≡ true).
    let held = valid slot before in
    let i = held.instance in
    let found = found-in placed slot c i well held.found in
    list_any-from_Any (sends_of c slot) placed
    (found.stands.0, i.placed, found.stands.1, found.stands.2, sends-test c slot i.placed i.number found.in_range found.of_slot found.sends))
    (λ (now : releases_in placed c slot ≡ true).
    let other = releaser-of placed slot c well now in
    list_any-from_Any (sends_of c slot) placed (grind (arith, sends-test)))
    (or_cases (has_bit pending slot) (releases_in placed c slot) waiting)

pub whole_line-of : (plan : Planning) (c : ℕ) (pending : ℕ) (rows : List Placed) (line : List Due) → IsWellPlaced plan.placed → IsPermutation plan.placed rows
    → IsValid plan.placed c pending → IsLineOf plan c (has_bit pending) rows line → IsWholeLine plan c (has_bit pending) line
whole_line-of plan c pending rows line well same valid done = grind (arith, list_any-IsPermutation, sends-pending)

pub stands-in : (placed rows : List Placed) (k : ℕ) (d : Placed) → IsPermutation placed rows → k < length rows → Contains placed (get_or rows k d)
stands-in placed rows k d same within = All-permutation (Contains placed) placed rows same (All-contains_itself placed) k d within
