-- What holds of each two elements of a list, one before the other.
use Rattle.std.proofs.Common.{◌≡◌, ◌≢◌, ℕ, suc, ◌<◌, ◌≤◌, List, [], ◌∷◌, ◌++◌, Bool, true, false, cond, filter, All, AllPairs, length, map, take, length-take, eqb, arith}
use Rattle.std.proofs.lemmas.List.{get_or-take}
use Rattle.std.proofs.lemmas.List.Elements.{All-cons, All-head, All-map, All-nil, All-tail}
use Rattle.std.proofs.lemmas.List.Folds.{Any-from_list_any}
use Rattle.std.proofs.lemmas.Bool.{eqb-true}
use Rattle.std.proofs.lemmas.Bool.Decides.{Decides-eqb}
use Rattle.std.proofs.lemmas.Map.Made.{IsDistinct-from_AllPairs}
use Rattle.std.proofs.lemmas.Map.Steps.{length-le_from_distinct_below}

pub pairs-cons : {X : Type 0} (R : X → X → Type 0) (x : X) (xs : List X) → All (R x) xs → AllPairs R xs → AllPairs R (x ∷ xs)
pairs-cons R x xs h0 h1 = grind arith

pub pairs-head : {X : Type 0} (R : X → X → Type 0) (x : X) (xs : List X) → AllPairs R (x ∷ xs) → All (R x) xs
pairs-head R x xs pairs k d within = pairs 0 (suc k) d (omega arith) (omega arith)

pub pairs-tail : {X : Type 0} (R : X → X → Type 0) (x : X) (xs : List X) → AllPairs R (x ∷ xs) → AllPairs R xs
pairs-tail R x xs pairs i j d before within = pairs (suc i) (suc j) d (omega arith) (omega arith)

pub all-parts : {X : Type 0} (P : X → Type 0) (xs ys : List X) → All P (xs ++ ys) → All P xs × All P ys
all-parts P [] ys all = (All-nil P, all)
all-parts P (x ∷ xs) ys all =
    let rest = all-parts P xs ys (All-tail P x (xs ++ ys) all) in
    (All-cons P x xs (All-head P x (xs ++ ys) all) rest.0, rest.1)

pub all-join : {X : Type 0} (P : X → Type 0) (xs : List X) (x : X) (ys : List X) → All P (xs ++ ys) → P x → All P (xs ++ (x ∷ ys))
all-join P [] x ys all here = All-cons P x ys here all
all-join P (w ∷ xs) x ys all here =
    All-cons P w (xs ++ (x ∷ ys)) (All-head P w (xs ++ ys) all) (all-join P xs x ys (All-tail P w (xs ++ ys) all) here)

-- one more element between the others
pub pairs-join : {X : Type 0} (R : X → X → Type 0) (xs : List X) (x : X) (ys : List X) → AllPairs R (xs ++ ys) → All (λ w. R w x) xs
    → All (λ w. R x w) ys → AllPairs R (xs ++ (x ∷ ys))
pairs-join R [] x ys pairs before behind = pairs-cons R x ys behind pairs
pairs-join R (w ∷ xs) x ys pairs before behind =
    pairs-cons R w (xs ++ (x ∷ ys))
    (all-join (R w) xs x ys (pairs-head R w (xs ++ ys) pairs) (All-head (λ v. R v x) w xs before))
    (pairs-join R xs x ys (pairs-tail R w (xs ++ ys) pairs) (All-tail (λ v. R v x) w xs before) behind)

pub pairs-map : {X Y : Type 0} (R : Y → Y → Type 0) (f : X → Y) (xs : List X) → AllPairs (λ v w. R (f v) (f w)) xs → AllPairs R (map f xs)
pairs-map R f [] pairs = λ i j d before within. absurd (omega arith)
pairs-map R f (x ∷ xs) pairs =
    pairs-cons R (f x) (map f xs) (All-map (R (f x)) f xs (pairs-head (λ v w. R (f v) (f w)) x xs pairs))
    (pairs-map R f xs (pairs-tail (λ v w. R (f v) (f w)) x xs pairs))

-- what holds of each two elements of a list, of its parts
pub pairs-before : {X : Type 0} (R : X → X → Type 0) (xs : List X) (x : X) (ys : List X) → AllPairs R (xs ++ (x ∷ ys)) → All (λ w. R w x) xs
pairs-before R [] x ys pairs = All-nil (λ w. R w x)
pairs-before R (w ∷ xs) x ys pairs =
    All-cons (λ v. R v x) w xs (All-head (R w) x ys (all-parts (R w) xs (x ∷ ys) (pairs-head R w (xs ++ (x ∷ ys)) pairs)).1)
    (pairs-before R xs x ys (pairs-tail R w (xs ++ (x ∷ ys)) pairs))

pub pairs-behind : {X : Type 0} (R : X → X → Type 0) (xs : List X) (x : X) (ys : List X) → AllPairs R (xs ++ (x ∷ ys)) → All (R x) ys
pairs-behind R [] x ys pairs = pairs-head R x ys pairs
pairs-behind R (w ∷ xs) x ys pairs = pairs-behind R xs x ys (pairs-tail R w (xs ++ (x ∷ ys)) pairs)

pub pairs-front : {X : Type 0} (R : X → X → Type 0) (xs ys : List X) → AllPairs R (xs ++ ys) → AllPairs R xs
pairs-front R [] ys pairs = λ i j d before within. absurd (omega arith)
pairs-front R (x ∷ xs) ys pairs =
    pairs-cons R x xs (all-parts (R x) xs ys (pairs-head R x (xs ++ ys) pairs)).0 (pairs-front R xs ys (pairs-tail R x (xs ++ ys) pairs))

pub pairs-take : {X : Type 0} (R : X → X → Type 0) (n : ℕ) (xs : List X) → AllPairs R xs → AllPairs R (take n xs)
pairs-take R n xs h0 = grind (arith, length-take, get_or-take)

-- distinct numbers below n are at most n
pub count-distinct : (xs : List ℕ) (n : ℕ) → All (λ x. x < n) xs → AllPairs (λ v w. v ≢ w) xs → length xs ≤ n
count-distinct xs n below distinct =
    length-le_from_distinct_below xs n (IsDistinct-from_AllPairs Decides-eqb xs distinct)
    (λ q found.
    let any = Any-from_list_any (eqb q) xs found in
    let same : q ≡ any.1 = eqb-true q any.1 any.4 in
    omega arith)

-- what a test keeps of a list
pub all-filter : {X : Type 0} (P : X → Type 0) (test : X → Bool) (xs : List X) → All P xs → All P (filter test xs)
all-filter P test [] all = All-nil P
all-filter P test (x ∷ xs) all = pick (test x) (all-filter P test xs (All-tail P x xs all))
  where
    pick : (b : Bool) → All P (filter test xs) → All P (cond b (x ∷ filter test xs) (filter test xs))
    pick b rest = grind arith

pub pairs-filter : {X : Type 0} (R : X → X → Type 0) (test : X → Bool) (xs : List X) → AllPairs R xs → AllPairs R (filter test xs)
pairs-filter R test [] pairs = λ i j d before within. absurd (omega arith)
pairs-filter R test (x ∷ xs) pairs = pick (test x) (pairs-filter R test xs (pairs-tail R x xs pairs))
  where
    pick : (b : Bool) → AllPairs R (filter test xs) → AllPairs R (cond b (x ∷ filter test xs) (filter test xs))
    pick true rest = pairs-cons R x (filter test xs) (all-filter (R x) test xs (pairs-head R x xs pairs)) rest
    pick false rest = rest
