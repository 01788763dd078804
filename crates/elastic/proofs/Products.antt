-- How many combinations there are of parts of a list of operations.
use Rattle.std.proofs.Common.{◌≡◌, ℕ, zero, suc, ◌+◌, ◌*◌, ◌/◌, ◌<◌, ◌≤◌, List, [], ◌∷◌, ◌++◌, length, get_or, take, drop, All, sym, ap, ◌∙◌, arith, lit≤}
use Rattle.std.proofs.Math.Nat.{le-mul_of_pos_right, mul-div_cancel_left, mul-one, mul-zero, mul_assoc, one-le-mul, one-mul, zero-mul}
use Rattle.std.proofs.lemmas.List.{drop_more, take-append-drop, take_more}
use Rattle.std.proofs.lemmas.List.Elements.{All-drop, All-head, All-tail}
use Rattle.elastic.specs.Combination.{HasChoice, choices, combinations}
use Rattle.elastic.specs.declared.wish.WishOp.{WishOp}

pub combinations-append : (front back : List WishOp) → combinations (front ++ back) ≡ combinations front * combinations back
combinations-append [] back = sym (one-mul (combinations back))
combinations-append (op ∷ front) back =
    ap (λ n. choices op * n) (combinations-append front back) ∙ sym (mul_assoc (choices op) (combinations front) (combinations back))

-- where each operation leaves a choice, there is a combination
pub some_combination : (ops : List WishOp) → All HasChoice ops → 1 ≤ combinations ops
some_combination [] all = lit≤ tt
some_combination (op ∷ ops) all = one-le-mul (All-head HasChoice op ops all) (some_combination ops (All-tail HasChoice op ops all))

-- one operation more
pub next_count : (ops : List WishOp) (i : ℕ) (op : WishOp) → i < length ops → op ≡ get_or ops i op
    → combinations (take (i + 1) ops) ≡ combinations (take i ops) * choices op
next_count ops i op inside is =
    let more : take (i + 1) ops ≡ take i ops ++ op ∷ [] = take_more ops i op inside ∙ ap (λ x. take i ops ++ x ∷ []) (sym is) in
    ap combinations more ∙ combinations-append (take i ops) (op ∷ []) ∙ ap (λ n. combinations (take i ops) * n) (mul-one (choices op))

-- a part has no more combinations than the whole
pub part_count : (ops : List WishOp) (i : ℕ) → All HasChoice ops → combinations (take i ops) ≤ combinations ops
part_count ops i all =
    let whole : combinations (take i ops) * combinations (drop i ops) ≡ combinations ops
    = sym (combinations-append (take i ops) (drop i ops)) ∙ ap combinations (take-append-drop i ops) in
    rw (← whole) (le-mul_of_pos_right (combinations (take i ops)) (some_combination (drop i ops) (All-drop HasChoice i ops all)))

-- an operation and those behind it
pub drop_item : {X : Type 0} (xs : List X) (i : ℕ) (x : X) → i < length xs → x ≡ get_or xs i x → drop i xs ≡ x ∷ drop (i + 1) xs
drop_item xs i x inside is = drop_more xs i x inside ∙ ap (λ y. y ∷ drop (i + 1) xs) (sym is)

-- a product that is not 0 has no factor 0
pub some_factor : (a b : ℕ) → 1 ≤ a * b → 1 ≤ a
some_factor zero b some = absurd (omega (arith, rw (zero-mul b) at some))
some_factor (suc a) b some = omega arith

pub some_other : (a b : ℕ) → 1 ≤ a * b → 1 ≤ b
some_other a zero some = absurd (omega (arith, rw (mul-zero a) at some))
some_other a (suc b) some = omega arith

-- what is left of a product without its first factor
pub without_factor : (a b whole : ℕ) → whole ≡ a * b → 1 ≤ whole → whole / a ≡ b
without_factor a b whole is some = rw is (mul-div_cancel_left b (some_factor a b (rw is at some)))
