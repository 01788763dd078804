-- Lists in pieces, element by element.
use Rattle.std.proofs.Common.{◌≡◌, ℕ, suc, ◌+◌, ◌<◌, List, ◌++◌, length, get_or, drop, sym, ap, ◌∙◌, arith}
use Rattle.std.specs.List.{flat_map}
use Rattle.std.proofs.Math.Seq.{drop-cons}

-- what is left from a place on is the piece of the element there, and what is left behind it
pub pieces-at : {X : Type 0} (f : X → List ℕ) (xs : List X) (place : ℕ) (d x : X) → place < length xs → get_or xs place d ≡ x → flat_map f (drop place xs) ≡ f x ++ flat_map f (drop (place + 1) xs)
pieces-at f xs place d x within is =
    let next : place + 1 ≡ suc place = omega arith in
    ap (flat_map f) (drop-cons xs place d within) ∙ ap (λ y. f y ++ flat_map f (drop (suc place) xs)) is ∙ ap (λ n. f x ++ flat_map f (drop n xs)) (sym next)
