-- The new entries of a change, one operation after the other.
use Rattle.std.proofs.Common.{◌≡◌, ℕ, ◌+◌, ◌<◌, Option, List, [], ◌∷◌, ◌++◌, length, get_or, take, append_assoc, ap, sym, ◌∙◌}
use Rattle.std.specs.List.{cons_option, filter_map}
use Rattle.std.proofs.lemmas.List.{take_more}
use Rattle.std.proofs.lemmas.List.Elements.{filter_map-append}
use Rattle.requirement_table.specs.declared.entries.Placed.{Placed}
use Rattle.change_protocol.specs.declared.operations.Op.{Op}

-- the entry of one operation more stands behind
pub placed-more : (h : Op → Option Placed) (old so_far new : List Placed) (ops : List Op) (i : ℕ) (d : Op) (p : Option Placed) → i < length ops
    → so_far ≡ old ++ filter_map h (take i ops) → new ≡ so_far ++ cons_option p [] → p ≡ h (get_or ops i d)
    → new ≡ old ++ filter_map h (take (i + 1) ops)
placed-more h old so_far new ops i d p within before put is =
    let next = ap (filter_map h) (take_more ops i d within) ∙ filter_map-append h (take i ops) (get_or ops i d ∷ []) in
    put
    ∙ ap (λ (list : List Placed). list ++ cons_option p []) before
    ∙ append_assoc old (filter_map h (take i ops)) (cons_option p [])
    ∙ ap (λ (one : Option Placed). old ++ (filter_map h (take i ops) ++ cons_option one [])) is
    ∙ ap (λ (behind : List Placed). old ++ behind) (sym next)
