-- The entries of a list that stay when it is pruned are moved to its end, from the last one on.
use Rattle.std.proofs.Common.{◌≡◌, ℕ, ◌+◌, ◌-◌, ◌≤◌, Bool, ◌&&◌, ◌||◌, nat_eq, if◌then◌else◌, List, ◌∷◌, All, length, take, drop, get_or, sym, ap, ◌∙◌, subst, arith}
use Rattle.std.proofs.lemmas.List.{drop_more, get_or-take, take-take}
use Rattle.requirement_table.specs.declared.entries.Placed.{Placed}
use Rattle.bit_sets.specs.Sets.{has_bit}
use Rattle.requirement_table.specs.Table.{IsInRange, is_over}
use Rattle.bit_sets.proofs.Shared.{turned-eq}
use Rattle.change_protocol.specs.Pruned.{has_slot, pruned}

-- behind the place, those that stay are the ones from `first` on, and `slots` are the slots of all; those before it are
-- as they were
pub record IsMovedFrom (cycle : ℕ) (old list : List Placed) (first slots place : ℕ) : Type 0 where
  pub within : place ≤ first
  pub end : first ≤ length old
  pub same : length list ≡ length old
  pub front : take place list ≡ take place old
  pub kept : drop first list ≡ pruned cycle (drop place old)
  pub has : (slot : ℕ) → has_bit slots slot ≡ has_slot slot (drop place old)

-- an entry before the place is the one that was there
pub kept-there : (cycle : ℕ) (old list : List Placed) (first slots place n : ℕ) (p : Placed) → place ≡ n + 1 → IsMovedFrom cycle old list first slots place
    → get_or list n p ≡ p → get_or old n p ≡ p
kept-there cycle old list first slots place n p is moved at = grind (arith, get_or-take)

pub range-there : (cycle : ℕ) (old list : List Placed) (first slots place n : ℕ) (p : Placed) → place ≡ n + 1 → IsMovedFrom cycle old list first slots place
    → get_or list n p ≡ p → All IsInRange old → IsInRange p
range-there cycle old list first slots place n p is moved at range =
    subst (λ (q : Placed). IsInRange q) (kept-there cycle old list first slots place n p is moved at) (range n p (omega arith))

-- one entry more is looked at
pub moved-more : (cycle : ℕ) (old list new : List Placed) (first next slots more place n : ℕ) (p : Placed) (goes : Bool) → place ≡ n + 1
    → IsMovedFrom cycle old list first slots place → get_or list n p ≡ p → goes ≡ (is_over cycle p && has_bit slots p.entry.slot)
    → length new ≡ length list → first ≤ next + 1 → next ≤ first → take (first - 1) new ≡ take (first - 1) list
    → drop next new ≡ (if goes then drop first list else p ∷ drop first list)
    → ((slot : ℕ) → has_bit more slot ≡ (nat_eq slot p.entry.slot || has_bit slots slot)) → IsMovedFrom cycle old new next more n
moved-more cycle old list new first next slots more place n p goes is moved at tested same before after front kept has =
    let within = moved.within in
    let end = moved.end in
    let old_at = kept-there cycle old list first slots place n p is moved at in
    let behind : drop n old ≡ p ∷ drop place old =
    drop_more old n p (omega arith) ∙ ap (λ (q : Placed). q ∷ drop (n + 1) old) old_at ∙ ap (λ k. p ∷ drop k old) (sym is) in
    record {
      within = omega arith;
      end = omega arith;
      same = same ∙ moved.same;
      front =
          sym (take-take n (first - 1) new (omega arith)) ∙ ap (take n) front ∙ take-take n (first - 1) list (omega arith)
          ∙ sym (take-take n place list (omega arith)) ∙ ap (take n) moved.front ∙ take-take n place old (omega arith);
      kept = grind arith;
      has = λ slot.
          has slot
          ∙ ap (λ b. b || has_bit slots slot) (turned-eq slot p.entry.slot)
          ∙ ap (λ b. nat_eq p.entry.slot slot || b) (moved.has slot)
          ∙ ap (has_slot slot) (sym behind);
    }
