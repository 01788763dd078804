-- What a node offers, put behind the trigger frame that is offered with it.
use Rattle.std.proofs.Common.{ℕ, ◌<◌, List, ◌∷◌, ◌++◌, length, Contains, sym, ◌∙◌, arith, length-append}
use Rattle.std.proofs.Math.Seq.{get_or-append_seam}
use Rattle.std.proofs.lemmas.List.{get_or_append_left}
use Rattle.arbitration.specs.Arbitration.{AreDistinct}

-- in a list of distinct numbers, none stands before its place
pub distinct_before : (front : List ℕ) (x : ℕ) (back : List ℕ) → AreDistinct (front ++ x ∷ back) → Contains front x → ⊥
distinct_before front x back distinct (place, within, is) =
    let far : length front < length (front ++ x ∷ back) = omega (arith, length-append front (x ∷ back)) in
    distinct place (length front) x within far
    (get_or_append_left front (x ∷ back) x place within ∙ is ∙ sym (get_or-append_seam front x back x))
