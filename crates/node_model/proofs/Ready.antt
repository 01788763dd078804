-- What is known of the instances of slots: of none, of one more, and of those that an entry releases next.
use Rattle.std.proofs.Common.{◌≡◌, ◌≢◌, ℕ, zero, suc, ◌+◌, ◌*◌, ◌%◌, ◌^◌, ◌<◌, ◌≤◌, ◌&&◌, ◌==◌, true, false, not, is_some, Option, Some, option_map, List, [], ◌∷◌, slice_get, get_or, set, length, replicate, refl, ap, ◌∙◌, arith}
use Rattle.std.specs.Prelude.{IfSome, IsSomeAnd}
use Rattle.std.proofs.lemmas.Bool.{cases_lt, ne_eqb}
use Rattle.std.proofs.lemmas.Option.{none-some, IfSome_then}
use Rattle.requirement_table.specs.declared.entries.Placed.{Placed}
use Rattle.bit_sets.specs.Sets.{has_bit}
use Rattle.requirement_table.specs.Instance.{Instance, MaySend, bytes_of, payload}
use Rattle.requirement_table.specs.Table.{IsInRange, IsWellPlaced, instance_in}
use Rattle.requirement_table.proofs.Shared.{instance_in-found}
use Rattle.node_model.specs.declared.entries.Ready.{Ready}
use Rattle.node_model.specs.Kept.{AreReady, IsSendableIn, IsSlotReady, carried_after, ready_of}

module _ {X : Type 0} where
  each-of : (P : ℕ → X → Type 0) (n : ℕ) (x : X) → ((k : ℕ) → P k x) → (j : ℕ) → IfSome (slice_get (replicate n x) j) (P j)
  each-of P zero x holds j = tt
  each-of P (suc n) x holds zero = holds 0
  each-of P (suc n) x holds (suc j) = each-of (λ k. P (suc k)) n x (λ k. holds (suc k)) j

  each-set : (P : ℕ → X → Type 0) (xs : List X) (i : ℕ) (x : X) → P i x → ((j : ℕ) → IfSome (slice_get xs j) (P j))
      → (j : ℕ) → IfSome (slice_get (set xs i x) j) (P j)
  each-set P [] i x new old j = tt
  each-set P (y ∷ xs) zero x new old zero = new
  each-set P (y ∷ xs) zero x new old (suc j) = old (suc j)
  each-set P (y ∷ xs) (suc i) x new old zero = old 0
  each-set P (y ∷ xs) (suc i) x new old (suc j) = each-set (λ k. P (suc k)) xs i x new (λ k. old (suc k)) j

  -- one element changes, and what holds of the others follows
  each-step : (P Q : ℕ → X → Type 0) (xs : List X) (i : ℕ) (x : X) → Q i x
      → ((j : ℕ) (y : X) → j ≢ i → P j y → Q j y) → ((j : ℕ) → IfSome (slice_get xs j) (P j))
      → (j : ℕ) → IfSome (slice_get (set xs i x) j) (Q j)
  each-step P Q [] i x new on old j = tt
  each-step P Q (y ∷ xs) zero x new on old zero = new
  each-step P Q (y ∷ xs) zero x new on old (suc j) = IfSome_then (slice_get xs j) (old (suc j)) (λ z. on (suc j) z (λ same. absurd (omega (arith, same))))
  each-step P Q (y ∷ xs) (suc i) x new on old zero = on 0 y (λ same. absurd (omega (arith, same))) (old 0)
  each-step P Q (y ∷ xs) (suc i) x new on old (suc j) =
      each-step (λ k. P (suc k)) (λ k. Q (suc k)) xs i x new (λ k z apart. on (suc k) z (λ same. apart (omega (arith, same)))) (λ k. old (suc k)) j

  -- what holds of the element at a place
  pub at-place : (P : X → Type 0) (xs : List X) (i : ℕ) (d : X) → i < length xs → IfSome (slice_get xs i) P → P (get_or xs i d)
  at-place P [] i d within holds = absurd (omega arith)
  at-place P (x ∷ xs) zero d within holds = holds
  at-place P (x ∷ xs) (suc i) d within holds = at-place P xs i d (omega (arith, within)) holds

  at-end : (P : X → Type 0) (xs : List X) (i : ℕ) → length xs ≤ i → IfSome (slice_get xs i) P
  at-end P [] i past = tt
  at-end P (x ∷ xs) zero past = absurd (omega (arith, past))
  at-end P (x ∷ xs) (suc i) past = at-end P xs i (omega (arith, past))

  at-or : (P : X → Type 0) (xs : List X) (i : ℕ) (d : X) → P d → IfSome (slice_get xs i) P → P (get_or xs i d)
  at-or P [] i d none holds = none
  at-or P (x ∷ xs) zero d none holds = holds
  at-or P (x ∷ xs) (suc i) d none holds = at-or P xs i d none holds

  pub at-both : (P Q : X → Type 0) (xs : List X) (i : ℕ) (d : X) → IsSomeAnd (slice_get xs i) P → IfSome (slice_get xs i) Q
      → P (get_or xs i d) × Q (get_or xs i d)
  at-both P Q [] i d one other = absurd one
  at-both P Q (x ∷ xs) zero d one other = (one, other)
  at-both P Q (x ∷ xs) (suc i) d one other = at-both P Q xs i d one other

-- nothing is known
abbrev pub unknown : Ready
unknown = record { release = 0; end = 0; number = 0; period = 0; deadline = 0; length = 0 }

pub nothing-ready : (entries : List Placed) (n : ℕ) → AreReady entries (replicate n unknown)
nothing-ready entries n = each-of (IsSlotReady entries) n unknown (λ slot. grind arith)

-- what is kept of a slot when nothing is known of the first `k` slots
pub record IsForgotten (k slot : ℕ) (ready : Ready) : Type 0 where
  pub number : ready.number ≤ ready.release
  pub deadline : ready.deadline ≤ ready.period
  pub length : ready.length ≤ 8
  pub over : slot < k → ready.end ≡ 0

pub none-forgotten : (entries : List Placed) (slots : List Ready) → AreReady entries slots → (slot : ℕ) → IfSome (slice_get slots slot) (IsForgotten 0 slot)
none-forgotten entries slots ready slot = grind (arith, slice_get)

pub one-forgotten : (k : ℕ) (slots : List Ready) → ((slot : ℕ) → IfSome (slice_get slots slot) (IsForgotten k slot))
    → (slot : ℕ) → IfSome (slice_get (set slots k (record (get_or slots k unknown) { end = 0 })) slot) (IsForgotten (k + 1) slot)
one-forgotten k slots before =
    let none : IsForgotten k k unknown = record { number = omega arith; deadline = omega arith; length = omega arith; over = λ _. refl } in
    let known = at-or (IsForgotten k k) slots k unknown none (before k) in
    each-step (IsForgotten k) (IsForgotten (k + 1)) slots k (record (get_or slots k unknown) { end = 0 })
    (record { number = known.number; deadline = known.deadline; length = known.length; over = λ _. refl })
    (λ j y apart was. grind (arith, cases_lt)) before

pub all-forgotten : (entries : List Placed) (n : ℕ) (slots : List Ready) → length slots ≤ n
    → ((slot : ℕ) → IfSome (slice_get slots slot) (IsForgotten n slot)) → AreReady entries slots
all-forgotten entries n slots h0 h1 = grind (arith, cases_lt, slice_get, at-end)

-- more is known of one slot
pub one-ready : (entries : List Placed) (slots : List Ready) (slot : ℕ) (found : Ready) → IsSlotReady entries slot found → AreReady entries slots
    → AreReady entries (set slots slot found)
one-ready entries slots slot found known before = each-set (IsSlotReady entries) slots slot found known before

-- The instances of an entry

times-some : (k n : ℕ) → 1 ≤ n → k ≤ k * n
times-some k n some = grind arith

-- what is known once an instance of an entry was found
pub entry-ready : (entries : List Placed) (place k : ℕ) (p : Placed) → IsWellPlaced entries → slice_get entries place ≡ Some p → IsInRange p
    → IsSlotReady entries p.entry.slot (ready_of p k)
entry-ready entries place k p well at range = record {
  number = omega (arith, times-some k p.entry.period (omega (arith, range.entry.some_time, range.entry.deadline)));
  deadline = range.entry.deadline;
  length = range.entry.length;
  each = λ more c before from in_time.
      let sends : MaySend p (k + more) c = grind arith in
      ap (option_map bytes_of) (instance_in-found entries well place (k + more) c p at sends);
}

-- what is known of the instance that the entry releases next
pub next-ready : (entries : List Placed) (slot : ℕ) (found : Ready) (release number c : ℕ) → IsSlotReady entries slot found
    → release ≡ found.release + found.period → number ≡ (found.number + 1) % 2 ^ 64 → c < 2 ^ 64
    → IsSendableIn c (record found { release = release; number = number }) → IsSlotReady entries slot (record found { release = release; number = number })
next-ready entries slot found release number c known later wraps small now =
    let some : 1 ≤ found.period = omega (arith, now.released, now.in_time, known.deadline) in
    let next : number ≡ found.number + 1 = omega (arith, wraps, later, known.number, now.released, small, some) in
    record {
      number = omega (arith, next, later, known.number, some);
      deadline = known.deadline;
      length = known.length;
      each = λ k at before from in_time.
          let same : release + k * found.period ≡ found.release + (k + 1) * found.period = omega (arith, later) in
          let count : found.number + (k + 1) ≡ number + k = omega (arith, next) in
          known.each (k + 1) at (rw (← same) before) (rw (← same) from) (rw (← same) in_time) ∙ ap (λ n. Some (payload found.length n)) count;
    }

-- an instance that is known and may be sent is the slot's
pub known-instance : (entries : List Placed) (slot c : ℕ) (found : Ready) → IsSlotReady entries slot found → IsSendableIn c found
    → option_map bytes_of (instance_in entries slot c) ≡ Some (carried_after found 0)
known-instance entries slot c found known now = grind arith

some-mapped : (o : Option Instance) (bytes : List ℕ) → option_map bytes_of o ≡ Some bytes → is_some o ≡ true
some-mapped o bytes is = grind (arith, none-some)

pub known-slot : (entries : List Placed) (slots : List Ready) (slot c : ℕ) (d : Ready) → AreReady entries slots → IsSomeAnd (slice_get slots slot) (IsSendableIn c)
    → (option_map bytes_of (instance_in entries slot c) ≡ Some (carried_after (get_or slots slot d) 0)) × ((get_or slots slot d).length ≤ 8)
known-slot entries slots slot c d ready now = grind (arith, at-both, known-instance)

pub is_some-known : (entries : List Placed) (slots : List Ready) (slot c : ℕ) → AreReady entries slots → IsSomeAnd (slice_get slots slot) (IsSendableIn c)
    → is_some (instance_in entries slot c) ≡ true
is_some-known entries slots slot c ready now =
    let known = known-slot entries slots slot c unknown ready now in
    some-mapped (instance_in entries slot c) (carried_after (get_or slots slot unknown) 0) known.0

-- Sets of slots whose instances are known

pub sendable-next : (c set_of left rest slot : ℕ) (old new : List Ready) → ((s : ℕ) → has_bit rest s ≡ (not (s == slot) && has_bit left s))
    → IsSomeAnd (slice_get new slot) (IsSendableIn c) → ((s : ℕ) → s ≢ slot → slice_get new s ≡ slice_get old s)
    → ((s : ℕ) → has_bit set_of s ≡ true → has_bit left s ≡ false → IsSomeAnd (slice_get old s) (IsSendableIn c))
    → (s : ℕ) → has_bit set_of s ≡ true → has_bit rest s ≡ false → IsSomeAnd (slice_get new s) (IsSendableIn c)
sendable-next c set_of left rest slot old new without now others before s has gone = grind (arith, slice_get, ne_eqb)
