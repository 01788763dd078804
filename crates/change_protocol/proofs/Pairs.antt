-- What holds of all pairs of a list.
use Rattle.std.proofs.Common.{zero, suc, Option, Some, None, IfSome, List, [], ◌∷◌, ◌++◌, map, All, AllPairs, arith}
use Rattle.std.specs.List.{cons_option, filter_map}
use Rattle.std.proofs.lemmas.List.Elements.{All-nil, All-head, All-tail, All-append, All-map, All-weaker}

pub pairs-head : {X : Type 0} (R : X → X → Type 0) (x : X) (xs : List X) → AllPairs R (x ∷ xs) → All (R x) xs
pairs-head R x xs pairs k d within = pairs zero (suc k) d (omega arith) (omega arith)

pub pairs-tail : {X : Type 0} (R : X → X → Type 0) (x : X) (xs : List X) → AllPairs R (x ∷ xs) → AllPairs R xs
pairs-tail R x xs pairs i j d before within = pairs (suc i) (suc j) d (omega arith) (omega arith)

pub pairs-nil : {X : Type 0} (R : X → X → Type 0) → AllPairs R []
pairs-nil R i j d before within = absurd (omega arith)

pub pairs-cons : {X : Type 0} (R : X → X → Type 0) (x : X) (xs : List X) → All (R x) xs → AllPairs R xs → AllPairs R (x ∷ xs)
pairs-cons R x xs h0 h1 = grind arith

-- of two lists, where what holds within each also holds across
pub pairs-append : {X : Type 0} (R : X → X → Type 0) (xs ys : List X) → AllPairs R xs → AllPairs R ys → All (λ x. All (R x) ys) xs → AllPairs R (xs ++ ys)
pairs-append R [] ys first second across = second
pairs-append R (x ∷ xs) ys first second across =
    pairs-cons R x (xs ++ ys)
    (All-append (R x) xs ys (pairs-head R x xs first) (All-head (λ x. All (R x) ys) x xs across))
    (pairs-append R xs ys (pairs-tail R x xs first) second (All-tail (λ x. All (R x) ys) x xs across))

pub pairs-map : {X Y : Type 0} (R : X → X → Type 0) (S : Y → Y → Type 0) (f : X → Y) → ((x y : X) → R x y → S (f x) (f y)) → (xs : List X) → AllPairs R xs → AllPairs S (map f xs)
pairs-map R S f keeps [] pairs = pairs-nil S
pairs-map R S f keeps (x ∷ xs) pairs =
    pairs-cons S (f x) (map f xs)
    (All-map (S (f x)) f xs (All-weaker (R x) (λ y. S (f x) (f y)) (keeps x) xs (pairs-head R x xs pairs)))
    (pairs-map R S f keeps xs (pairs-tail R x xs pairs))

all-cons_option : {Y : Type 0} (P : Y → Type 0) (o : Option Y) (ys : List Y) → IfSome o P → All P ys → All P (cons_option o ys)
all-cons_option P o ys one rest = grind arith

pub all-filter_map : {X Y : Type 0} (P : Y → Type 0) (h : X → Option Y) (xs : List X) → All (λ x. IfSome (h x) P) xs → All P (filter_map h xs)
all-filter_map P h [] all = All-nil P
all-filter_map P h (x ∷ xs) all =
    all-cons_option P (h x) (filter_map h xs) (All-head (λ x. IfSome (h x) P) x xs all)
    (all-filter_map P h xs (All-tail (λ x. IfSome (h x) P) x xs all))

pairs-cons_option : {Y : Type 0} (S : Y → Y → Type 0) (o : Option Y) (ys : List Y) → IfSome o (λ y. All (S y) ys) → AllPairs S ys → AllPairs S (cons_option o ys)
pairs-cons_option S o ys one rest = grind (arith, pairs-cons)

given-behind : {X Y : Type 0} (S : Y → Y → Type 0) (h : X → Option Y) (o : Option Y) (xs : List X) → All (λ x. IfSome o (λ y. IfSome (h x) (S y))) xs → IfSome o (λ y. All (S y) (filter_map h xs))
given-behind S h None xs all = tt
given-behind S h (Some y) xs all = all-filter_map (S y) h xs all

pub pairs-filter_map : {X Y : Type 0} (R : X → X → Type 0) (S : Y → Y → Type 0) (h : X → Option Y) → ((x z : X) → R x z → IfSome (h x) (λ y. IfSome (h z) (S y))) → (xs : List X) → AllPairs R xs → AllPairs S (filter_map h xs)
pairs-filter_map R S h keeps [] pairs = pairs-nil S
pairs-filter_map R S h keeps (x ∷ xs) pairs =
    pairs-cons_option S (h x) (filter_map h xs)
    (given-behind S h (h x) xs (All-weaker (R x) (λ z. IfSome (h x) (λ y. IfSome (h z) (S y))) (keeps x) xs (pairs-head R x xs pairs)))
    (pairs-filter_map R S h keeps xs (pairs-tail R x xs pairs))
