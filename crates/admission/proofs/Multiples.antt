-- Least multiples, and the least common period of the first entries of a list.
use Rattle.std.proofs.Common.{◌≡◌, ◌≢◌, ℕ, ◌+◌, ◌*◌, ◌/◌, ◌%◌, ◌<◌, ◌≤◌, Some, None, List, [], ◌∷◌, ◌++◌, All, length, get_or, map, max, take, drop, sym, ap, ◌∙◌, subst, arith, ⊎_elim}
use Rattle.std.specs.List.{fold}
use Rattle.std.proofs.Math.Nat.{div-add-mod', dvd-mul_left_of_dvd, dvd-sub, lt-div-mul-add, mod-eq-sub-div-mul, mul-le-mul_right, mul-mod_left}
use Rattle.std.proofs.lemmas.Bool.{cases_lt}
use Rattle.std.proofs.Math.ListN.{get_or-append}
use Rattle.std.proofs.Math.Seq.{get_or-append_seam}
use Rattle.std.proofs.lemmas.List.{length-append, map-append, take-append-drop, take_all, take_more}
use Rattle.std.proofs.lemmas.List.Elements.{All-push}
use Rattle.std.proofs.lemmas.List.Sums.{fold_push}
use Rattle.std.proofs.lemmas.Nat.Gcd.{dvd_of_mod-eq-zero, le_of_dvd, mod-eq-zero_of_dvd}
use Rattle.requirement_table.specs.declared.entries.Placed.{Placed}
use Rattle.planner_policies.specs.Loop.{settled_at}
use Rattle.admission.specs.Period.{IsLeastMultiple, IsLeastMultipleWith, IsMultipleOfBoth, IsMultipleWith, IsPeriodUpTo}
use Rattle.admission.specs.Recurrence.{IsCommonPeriod}
use Rattle.admission.proofs.Divided.{divided-along}

all-parts : {X : Type 0} (P : X → Type 0) (xs : List X) (x : X) → All P (xs ++ x ∷ []) → All P xs × P x
all-parts P xs x all = (
  λ i d within. let here = all i d (simp length-append (omega arith)) in rw (get_or-append xs (x ∷ []) d i within) at here,
  let here = all (length xs) x (simp length-append (omega arith)) in rw (get_or-append_seam xs x [] x) at here,
)

-- none of the first multiples of `step` is one of `other`
abbrev pub NoneTried : ℕ → ℕ → ℕ → Type 0
NoneTried step other count = (k : ℕ) → k < count → (k + 1) * step % other ≢ 0

tried-least : (step other count m : ℕ) → 0 < step → NoneTried step other count → IsMultipleOfBoth step other m → (count + 1) * step ≤ m
tried-least step other count m positive tried both =
    let some = both.positive in
    let above : 0 < m / step = grind (arith, cases_lt) in
    grind (arith, mul-le-mul_right, cases_lt)

pub found-multiple : (step other count limit multiple : ℕ) → 0 < step → NoneTried step other count → count < limit / step
    → multiple ≡ (count + 1) * step → multiple % other ≡ 0 → IsLeastMultiple step other limit (Some multiple)
found-multiple step other count limit multiple positive tried within is divided =
    grind (arith, mul-le-mul_right, div-add-mod', mul-mod_left, tried-least)

pub no-multiple : (step other limit : ℕ) → 0 < step → NoneTried step other (limit / step) → IsLeastMultiple step other limit None
no-multiple step other limit positive tried m both =
    let least = tried-least step other (limit / step) m positive tried both in
    grind (arith, lt-div-mul-add)

swap : (one other m : ℕ) → IsMultipleOfBoth one other m → IsMultipleOfBoth other one m
swap one other m both = record { positive = both.positive; of_one = both.of_other; of_other = both.of_one }

-- what is known of the least common period of the first entries: each common period is a multiple of it
pub record IsPeriodSoFar (limit : ℕ) (placed : List Placed) (common : ℕ) : Type 0 where
  pub shared : IsCommonPeriod placed common
  pub within : common ≤ limit
  pub divides : (m : ℕ) → IsCommonPeriod placed m → m % common ≡ 0

rest-divided : (m n d : ℕ) → m % d ≡ 0 → n % d ≡ 0 → m % n % d ≡ 0
rest-divided m n d first second =
    ap (λ r. r % d) (mod-eq-sub-div-mul m n)
    ∙ mod-eq-zero_of_dvd d
    (dvd-sub d (dvd_of_mod-eq-zero d first) (dvd-mul_left_of_dvd d (dvd_of_mod-eq-zero d second) (m / n)))

module _ (limit : ℕ) (placed : List Placed) (p : Placed) (common : ℕ) (so_far : IsPeriodSoFar limit placed common) where
  front : (m : ℕ) → IsCommonPeriod (placed ++ p ∷ []) m → IsCommonPeriod placed m × (p.end ≡ None → m % p.entry.period ≡ 0)
  front m shared = grind (arith, all-parts)

  with-all : (m : ℕ) → IsCommonPeriod (placed ++ p ∷ []) m → IsMultipleWith common p m
  with-all m shared =
      let parts = front m shared in
      record { positive = shared.positive; of_common = so_far.divides m parts.0; of_period = parts.1 }

  pub so_far-none : IsLeastMultipleWith common p limit None → (m : ℕ) → IsCommonPeriod (placed ++ p ∷ []) m → limit < m
  so_far-none least m shared = least m (with-all m shared)

  rest-least : (n m : ℕ) → IsLeastMultipleWith common p limit (Some n) → IsMultipleWith common p m → m % n ≡ 0
  rest-least n m least with' =
      ⊎_elim
      (λ (none : m % n < 1). omega arith)
      (λ (some : 1 ≤ m % n).
      let rest : IsMultipleWith common p (m % n) = grind (arith, rest-divided) in
      let above = least.2 (m % n) rest in
      absurd (omega arith))
      (cases_lt (m % n) 1)

  pub so_far-next : (n : ℕ) → IsLeastMultipleWith common p limit (Some n) → IsPeriodSoFar limit (placed ++ p ∷ []) n
  so_far-next n least = record {
    shared = record {
      positive = least.0.positive;
      divided = All-push (λ q. q.end ≡ None → n % q.entry.period ≡ 0) placed p
          (λ i d within live. divided-along (get_or placed i d).entry.period common n (so_far.shared.divided i d within live) least.0.of_common)
          least.0.of_period;
    };
    within = least.1;
    divides = λ m shared. rest-least n m least (with-all m shared);
  }

-- no common period of more entries is within the limit, where none is of fewer
pub none-longer : (limit : ℕ) (placed more : List Placed) → ((m : ℕ) → IsCommonPeriod placed m → limit < m) → (m : ℕ)
    → IsCommonPeriod (placed ++ more) m → limit < m
none-longer limit placed more none m shared =
    none m (grind (arith, length-append, get_or-append))

pub period-found : (limit common : ℕ) (placed : List Placed) → IsPeriodSoFar limit placed common → IsPeriodUpTo limit placed (Some common)
period-found limit common placed so_far = (
  record {
    common = so_far.shared;
    least = λ m shared. le_of_dvd shared.positive (dvd_of_mod-eq-zero common (so_far.divides m shared));
  },
  so_far.within,
)

-- one more entry for the bound
pub bound-more : (from : ℕ) (placed : List Placed) (p : Placed)
    → fold max from (map settled_at (placed ++ p ∷ [])) ≡ max (fold max from (map settled_at placed)) (settled_at p)
bound-more from placed p = grind (arith, map-append, fold_push)

pub so_far-more : (limit i : ℕ) (placed : List Placed) (d : Placed) (common next : ℕ) → i < length placed
    → IsPeriodSoFar limit (take i placed) common → IsLeastMultipleWith common (get_or placed i d) limit (Some next)
    → IsPeriodSoFar limit (take (i + 1) placed) next
so_far-more limit i placed d common next within so_far least =
    subst (λ list. IsPeriodSoFar limit list next) (sym (take_more placed i d within))
    (so_far-next limit (take i placed) (get_or placed i d) common so_far next least)

pub none-more : (limit i : ℕ) (placed : List Placed) (d : Placed) (common : ℕ) → i < length placed
    → IsPeriodSoFar limit (take i placed) common → IsLeastMultipleWith common (get_or placed i d) limit None → IsPeriodUpTo limit placed None
none-more limit i placed d common within so_far least m shared =
    let none : (n : ℕ) → IsCommonPeriod (take (i + 1) placed) n → limit < n =
    subst (λ list. (n : ℕ) → IsCommonPeriod list n → limit < n) (sym (take_more placed i d within))
    (so_far-none limit (take i placed) (get_or placed i d) common so_far least) in
    none-longer limit (take (i + 1) placed) (drop (i + 1) placed) none m
    (subst (λ list. IsCommonPeriod list m) (sym (take-append-drop (i + 1) placed)) shared)

pub so_far-all : (limit i : ℕ) (placed : List Placed) (common : ℕ) → length placed ≤ i → IsPeriodSoFar limit (take i placed) common
    → IsPeriodUpTo limit placed (Some common)
so_far-all limit i placed common past so_far =
    period-found limit common placed (subst (λ list. IsPeriodSoFar limit list common) (take_all i placed past) so_far)

pub bound-next : (from i : ℕ) (placed : List Placed) (d : Placed) → i < length placed
    → fold max from (map settled_at (take (i + 1) placed)) ≡ max (fold max from (map settled_at (take i placed))) (settled_at (get_or placed i d))
bound-next from i placed d within =
    ap (λ (list : List Placed). fold max from (map settled_at list)) (take_more placed i d within)
    ∙ bound-more from (take i placed) (get_or placed i d)

pub bound-step : (from i : ℕ) (placed : List Placed) (d : Placed) (bound settled new : ℕ) → i < length placed → new ≡ max bound settled
    → bound ≡ fold max from (map settled_at (take i placed)) → settled ≡ settled_at (get_or placed i d)
    → new ≡ fold max from (map settled_at (take (i + 1) placed))
bound-step from i placed d bound settled new within is so_far own = grind (arith, bound-next)

pub bound-all : (from i : ℕ) (placed : List Placed) (bound : ℕ) → length placed ≤ i → bound ≡ fold max from (map settled_at (take i placed))
    → bound ≡ fold max from (map settled_at placed)
bound-all from i placed bound past so_far = so_far ∙ ap (λ (list : List Placed). fold max from (map settled_at list)) (take_all i placed past)
