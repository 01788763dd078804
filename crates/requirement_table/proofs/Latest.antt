-- The instances of a placed entry: the functions that find them against the relations.
use Rattle.std.proofs.Common.{◌≡◌, ℕ, ◌+◌, ◌-◌, ◌*◌, ◌/◌, ◌%◌, ◌<◌, ◌≤◌, true, Option, Some, None, IfSome, sym, ap, ◌∙◌, arith, nat_lt}
use Rattle.std.specs.Option.{option_map_or}
use Rattle.std.proofs.lemmas.Nat.{div-mul-add, div-add-mod'}
use Rattle.std.proofs.lemmas.Bool.{lt-ltb, ltb-true, le-leb, eq-eqb, eqb-true, and_from, and_parts, cond-true}
use Rattle.std.proofs.lemmas.Option.{cond_some}
use Rattle.requirement_table.specs.declared.entries.Placed.{Placed}
use Rattle.requirement_table.specs.Instance.{release_of, Exists, exists, IsReleasedIn, MaySend, latest, may_send, released_by, instance_of}

-- a cycle within one period of release `k` has `k` whole periods behind it
pub div-since : (first period k c : ℕ) → first + k * period ≤ c → c < first + k * period + period → (c - first) / period ≡ k
div-since first period k c released before = grind (arith, div-mul-add)

-- the whole periods and the rest make up the number
pub period-parts : (since period k : ℕ) → since / period ≡ k → k * period + since % period ≡ since
period-parts since period k whole = ap (λ n. n * period + since % period) (sym whole) ∙ div-add-mod' since period

within-test : (end : Option ℕ) (release : ℕ) → IfSome end (λ r. release < r) → option_map_or (λ r. nat_lt release r) end true ≡ true
within-test end release h = grind (arith, lt-ltb)

test-within : (end : Option ℕ) (release : ℕ) → option_map_or (λ r. nat_lt release r) end true ≡ true → IfSome end (λ r. release < r)
test-within end release h = grind (arith, ltb-true)

pub exists-true : (p : Placed) (release : ℕ) → Exists p release → exists p release ≡ true
exists-true p release h = within-test p.end release h

pub Exists-from_test : (p : Placed) (release : ℕ) → exists p release ≡ true → Exists p release
Exists-from_test p release h = test-within p.end release h

may_send-true : (p : Placed) (k c : ℕ) → MaySend p k c → may_send p k c ≡ true
may_send-true p k c sends = and_from _ _ (and_from _ _ (exists-true p (release_of p k) sends.exists) (le-leb _ _ sends.released)) (lt-ltb _ _ sends.in_time)

-- the instance that may be sent is the latest one
pub latest-of_sent : (p : Placed) (k c : ℕ) → p.entry.deadline ≤ p.entry.period → MaySend p k c → latest p c ≡ k
latest-of_sent p k c period sends = let released = sends.released in let in_time = sends.in_time in div-since (p.origin + p.entry.phase) p.entry.period k c released (omega arith)

pub latest-of_released : (p : Placed) (k c : ℕ) → 1 ≤ p.entry.period → IsReleasedIn p k c → latest p c ≡ k
latest-of_released p k c period released = let release = released.release in div-since (p.origin + p.entry.phase) p.entry.period k c (omega arith) (omega arith)

pub instance_of-sent : (p : Placed) (k c : ℕ) → p.entry.deadline ≤ p.entry.period → MaySend p k c → instance_of p c ≡ Some k
instance_of-sent p k c period sends = rw (latest-of_sent p k c period sends) (cond-true (may_send p k c) (Some k) None (may_send-true p k c sends))

pub MaySend-from_instance : (p : Placed) (k c : ℕ) → instance_of p c ≡ Some k → MaySend p k c
MaySend-from_instance p k c found = grind (arith, cond_some)

pub released_by-released : (p : Placed) (k c : ℕ) → 1 ≤ p.entry.period → IsReleasedIn p k c → released_by p c ≡ Some k
released_by-released p k c period released = grind (arith, latest-of_released, cond-true, and_from, eq-eqb, exists-true)

pub IsReleasedIn-from_released_by : (p : Placed) (k c : ℕ) → released_by p c ≡ Some k → IsReleasedIn p k c
IsReleasedIn-from_released_by p k c found = grind (arith, cond_some, and_parts, eqb-true, Exists-from_test)
