-- The bytes that were set, and the origins of the last entries of slots.
use Rattle.std.proofs.Common.{◌≡◌, ℕ, zero, suc, ◌==◌, ◌&&◌, Bool, true, false, cond, List, [], ◌∷◌, ◌++◌, get_or, replicate, filter, Option, Some, None, refl, sym, ap, ◌∙◌}
use Rattle.std.specs.List.{fold}
use Rattle.requirement_table.specs.declared.entries.Placed.{Placed}
use Rattle.node_model.specs.Node.{entries_of}
use Rattle.live_node.specs.Live.{origin_of}

pub none-set : {A : Type 0} (n slot : ℕ) → get_or {A = Option A} (replicate n None) slot None ≡ None
none-set zero slot = refl
none-set (suc n) zero = refl
none-set (suc n) (suc slot) = none-set n slot

-- the origin that is known before some entries, and after them
abbrev found_after : ℕ → ℕ → Option ℕ → List Placed → Option ℕ
found_after number slot known entries = fold (λ found p. cond (p.entry.slot == slot) (Some p.origin) found) known (entries_of number entries)

more : (number slot : ℕ) (known : Option ℕ) (entries : List Placed) (p : Placed)
    → found_after number slot known (entries ++ p ∷ [])
    ≡ cond ((p.entry.node == number) && (p.entry.slot == slot)) (Some p.origin) (found_after number slot known entries)
more number slot known [] p = last (p.entry.node == number)
  where
    last : (own : Bool) → fold (λ found q. cond (q.entry.slot == slot) (Some q.origin) found) known (cond own (p ∷ []) [])
        ≡ cond (own && (p.entry.slot == slot)) (Some p.origin) known
    last true = refl
    last false = refl
more number slot known (e ∷ entries) p = next (e.entry.node == number) (λ before. more number slot before entries p)
  where
    next : (own : Bool) → ((before : Option ℕ) → found_after number slot before (entries ++ p ∷ [])
        ≡ cond ((p.entry.node == number) && (p.entry.slot == slot)) (Some p.origin) (found_after number slot before entries))
        → fold (λ found q. cond (q.entry.slot == slot) (Some q.origin) found) known (cond own (e ∷ entries_of number (entries ++ p ∷ [])) (entries_of number (entries ++ p ∷ [])))
        ≡ cond ((p.entry.node == number) && (p.entry.slot == slot)) (Some p.origin)
        (fold (λ found q. cond (q.entry.slot == slot) (Some q.origin) found) known (cond own (e ∷ entries_of number entries) (entries_of number entries)))
    next true later = later (cond (e.entry.slot == slot) (Some e.origin) known)
    next false later = later known

pub origin-more : (number slot : ℕ) (entries : List Placed) (p : Placed)
    → origin_of (entries_of number (entries ++ p ∷ [])) slot
    ≡ cond ((p.entry.node == number) && (p.entry.slot == slot)) (Some p.origin) (origin_of (entries_of number entries) slot)
origin-more number slot entries p = more number slot None entries p
