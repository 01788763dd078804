-- What a row has to send in a cycle, and where it stands in the next one.
use Rattle.std.proofs.Common.{◌≡◌, ◌≢◌, ℕ, ◌+◌, ◌-◌, ◌*◌, ◌/◌, ◌%◌, ◌<◌, ◌≤◌, ◌&&◌, Bool, true, false, nat_eq, nat_lt, Option, None, IfSome, is_none, refl, ◌∙◌, ⊎_elim, arith}
use Rattle.std.proofs.lemmas.Bool.{and_parts, cases_lt, eq-eqb, eqb-true, lt-ltb, ltb-true, ne_eqb, or_from, or_left, or_right}
use Rattle.std.proofs.Math.Nat.{add-mul}
use Rattle.std.proofs.lemmas.Nat.{mul-le}
use Rattle.requirement_table.specs.declared.entries.Placed.{Placed}
use Rattle.requirement_table.specs.Instance.{Exists, MaySend, release_of}
use Rattle.requirement_table.specs.Table.{IsInRange}
use Rattle.requirement_table.proofs.Shared.{instance_of-sent}
use Rattle.planner_policies.specs.Due.{is_held_in}
use Rattle.release_wheel.specs.Wheel.{IsAlways, IsDueAt, IsNextRelease, IsPlacedAt, IsWaitingAt}
use Rattle.planner_policies.proofs.Shared.{held-parts}

end-below : (end : Option ℕ) (a b : ℕ) → a ≤ b → IfSome end (λ e. b < e) → IfSome end (λ e. a < e)
end-below end a b below exists = grind arith

pub exists-live : (p : Placed) (release : ℕ) → p.end ≡ None → Exists p release
exists-live p release live = grind arith

not-released : (p : Placed) (c next : ℕ) → IsNextRelease p c next → (Exists p next → next ≢ c) → (k : ℕ) → Exists p (release_of p k) → release_of p k ≢ c
not-released p c next h0 h1 k h2 = grind arith

pub stands-later : (c : ℕ) (p : Placed) (always : Bool) (next : ℕ) (found : Bool) → IsPlacedAt c p always next found
    → (always ≡ false → Exists p next → next ≢ c) → IsPlacedAt (c + 1) p always next found
stands-later c p always next found at apart = grind arith

-- one period more
one-more : (n m : ℕ) → (n + 1) * m ≡ n * m + m
one-more n m = let parts = add-mul n 1 m in omega arith

multiple-after : (n k m : ℕ) → n * m < k * m → n * m + m ≤ k * m
multiple-after n k m more =
    ⊎_elim
    (λ (less : n < k). let step = mul-le (n + 1) m k m (omega arith) (omega arith) in let parts = one-more n m in omega arith)
    (λ (not : k ≤ n). absurd (let back = mul-le k m n m not (omega arith) in omega arith))
    (cases_lt n k)

-- the release after one
pub next-after : (p : Placed) (c next : ℕ) → IsInRange p → IsNextRelease p c next → next ≡ c → IsNextRelease p (c + 1) (c + p.entry.period)
next-after p c next range is same =
    let number : next ≡ release_of p is.number = is.is in
    record {
      number = is.number + 1;
      is = let parts = one-more is.number p.entry.period in omega arith;
      reached = λ exists. omega arith;
      least = λ k from. let later = multiple-after is.number k p.entry.period (omega arith) in omega arith;
    }

pub held-is : (p : Placed) (c k : ℕ) → IsInRange p → MaySend p k c → is_held_in c p ≡ nat_lt (release_of p k) c
held-is p c k range sends = grind (arith, nat_lt, instance_of-sent)

not-true : (b : Bool) → (b ≡ true → ⊥) → b ≡ false
not-true b wrong = grind arith

pub sends-released : (p : Placed) (c k : ℕ) → IsInRange p → c ≡ release_of p k → Exists p c → MaySend p k c
sends-released p c k range same exists = grind arith

-- what is released in a cycle was not released before it
pub not-held : (p : Placed) (c k : ℕ) → IsInRange p → c ≡ release_of p k → Exists p c → is_held_in c p ≡ false
not-held p c k range same exists =
    held-is p c k range (sends-released p c k range same exists)
    ∙ not-true (nat_lt (release_of p k) c) (λ less. let below = ltb-true (release_of p k) c less in omega arith)

and-first : (a b : Bool) → false ≡ (a && b) → b ≡ true → a ≡ false
and-first a b none is = grind arith

pub due-stay : (before : ℕ → Bool) (c : ℕ) (p : Placed) (waits always : Bool) (next last soonest : ℕ) (found : Bool)
    → IsInRange p → IsPlacedAt c p always next found → IsWaitingAt before c p waits last soonest → (always ≡ false → Exists p next → next ≢ c)
    → IsDueAt before c p waits always last soonest
due-stay before c p true always next last soonest found range at w apart = grind (arith, and_parts, held-parts, or_left)
due-stay before c p false true next last soonest found range at w apart =
    grind (arith, sends-released, exists-live, or_right, eq-eqb)
due-stay before c p false false next last soonest found range at w apart = record {
  due = λ policy k sends.
      let other = not-released p c next (at.next_is refl) (apart refl) k sends.exists in
      let held = held-is p c k range sends ∙ lt-ltb (release_of p k) c (omega arith) in
      or_from (before p.entry.slot) (nat_eq (release_of p k) c) (and-first (before p.entry.slot) (is_held_in c p) w.waits_is held)
      (ne_eqb (release_of p k) c other);
  apart = λ wrong. absurd (cc);
  soonest_is = λ wrong. absurd (cc);
}

pub first-release : (p : Placed) (k : ℕ) → release_of p 0 ≤ release_of p k
first-release p k = omega arith

-- the least release after a cycle that is not one
pub after-over : (p : Placed) (c : ℕ) → IsInRange p → p.origin + p.entry.phase ≤ c
    → ((c - (p.origin + p.entry.phase)) % p.entry.period ≡ 0 → ⊥)
    → IsNextRelease p c (c - (c - (p.origin + p.entry.phase)) % p.entry.period + p.entry.period)
after-over p c range late over =
    let m = p.entry.period in
    let start = p.origin + p.entry.phase in
    let q = (c - start) / m in
    record {
      number = q + 1;
      is = let next = one-more q m in omega arith;
      reached = λ _. omega arith;
      least = λ k from. let later = multiple-after q k m (omega arith) in omega arith;
    }

no-end : (o : Option ℕ) → is_none o ≡ true → o ≡ None
no-end o is = grind arith

-- an entry with an instance in each cycle from this one on
pub begins-always : (p : Placed) (c next : ℕ) → IsNextRelease p c next → ((nat_eq p.entry.period 1 && is_none p.end) && nat_eq next c) ≡ true → IsAlways p c
begins-always p c next is test = grind (arith, and_parts, is_none, eqb-true, first-release, no-end)
