-- From which cycle on a slot is free, after some placed entries.
use Rattle.std.proofs.Common.{◌≡◌, ◌≢◌, ℕ, ◌+◌, ◌-◌, ◌^◌, ◌<◌, ◌≤◌, ◌↔◌, Option, Some, None, IfSome, IsSomeAnd, option_map, List, [], ◌∷◌, ◌++◌, All, length, get_or, set, take, replicate, length-take, sym, ⊎_elim, arith}
use Rattle.std.proofs.lemmas.List.Elements.{All-nil, All-push, All-take, All-same, All-contains, Contains-push, All-from_get_or}
use Rattle.std.proofs.lemmas.List.Quantifiers.{all_pairs_push}
use Rattle.std.proofs.Math.Seq.{take-append_seam}
use Rattle.std.proofs.lemmas.Bool.{cases_eq}
use Rattle.std.proofs.lemmas.Grind.{get_or-set_at}
use Rattle.std.proofs.lemmas.List.{get_or-set_other, get_or-take, get_or-replicate}
use Rattle.requirement_table.specs.declared.entries.Placed.{Placed}
use Rattle.requirement_table.specs.Table.{IsInRange, IsFreeAt, GoesBefore, IsWellPlaced}

-- what a read of a list of placed entries past its end gives
abbrev pub no_entry : Placed
no_entry = record {
  entry = record { slot = 0; node = 0; length = 0; phase = 0; period = 0; deadline = 0; priority = 0 };
  origin = 0;
  end = None;
}

-- the entries of this slot are free at cycle `c`
abbrev pub AllFreeAt : List Placed → ℕ → ℕ → Type 0
AllFreeAt placed slot c = All (λ p. p.entry.slot ≡ slot → IsFreeAt p c) placed

-- the slot is free from a cycle on, after these entries; `None` says that it never is
abbrev pub IsFreeFrom : List Placed → ℕ → Option ℕ → Type 0
IsFreeFrom placed slot free = (c : ℕ) → IsSomeAnd free (λ from. from ≤ c) ↔ AllFreeAt placed slot c

All-front : {X : Type 0} (P : X → Type 0) (xs ys : List X) → All P (xs ++ ys) → All P xs
All-front P xs ys all = All-same P xs (take (length xs) (xs ++ ys)) (sym (take-append_seam xs ys)) (All-take P (length xs) (xs ++ ys) all)

-- an end that frees the slot at `c` stands above the origin
end-above : (end : Option ℕ) (origin deadline c : ℕ) → IfSome end (λ e. (origin ≤ e) × (e < 2 ^ 42)) → 1 ≤ deadline
    → IsSomeAnd (option_map (λ e. e + deadline - 1) end) (λ from. from ≤ c) → origin ≤ c
end-above end origin deadline c within positive free = grind arith

free-later : (end : Option ℕ) (deadline c d : ℕ) → c ≤ d → IsSomeAnd (option_map (λ e. e + deadline - 1) end) (λ from. from ≤ c)
    → IsSomeAnd (option_map (λ e. e + deadline - 1) end) (λ from. from ≤ d)
free-later end deadline c d later free = grind arith

pub origin-below : (p : Placed) (c : ℕ) → IsInRange p → IsFreeAt p c → p.origin ≤ c
origin-below p c range free = end-above p.end p.origin p.entry.deadline c range.end range.entry.some_time free

all-later : (placed : List Placed) (slot c d : ℕ) → c ≤ d → AllFreeAt placed slot c → AllFreeAt placed slot d
all-later placed slot c d later all k x within same = free-later (get_or placed k x).end (get_or placed k x).entry.deadline c d later (all k x within same)

pub free-none : (slot : ℕ) → IsFreeFrom [] slot (Some 0)
free-none slot c = (λ _. All-nil (λ p. p.entry.slot ≡ slot → IsFreeAt p c), λ _. omega arith)

pub free-same : (placed : List Placed) (p : Placed) (slot : ℕ) (free after : Option ℕ) → IsInRange p → p.entry.slot ≡ slot → IsFreeFrom placed slot free → IsSomeAnd free (λ from. from ≤ p.origin) → ((c : ℕ) → IsSomeAnd after (λ from. from ≤ c) ↔ IsFreeAt p c) → IsFreeFrom (placed ++ p ∷ []) slot after
free-same placed p slot free after range same tracks now next c = (
  λ from.
      let at = (next c).0 from in
      let before = all-later placed slot p.origin c (origin-below p c range at) ((tracks p.origin).0 now) in
      All-push (λ q. q.entry.slot ≡ slot → IsFreeAt q c) placed p before (λ _. at),
  λ all. (next c).1 (All-contains (λ q. q.entry.slot ≡ slot → IsFreeAt q c) (placed ++ p ∷ []) p all (Contains-push placed p) same),
)

pub free-other : (placed : List Placed) (p : Placed) (slot : ℕ) (free : Option ℕ) → p.entry.slot ≢ slot → IsFreeFrom placed slot free → IsFreeFrom (placed ++ p ∷ []) slot free
free-other placed p slot free other tracks c = (
  λ from. All-push (λ q. q.entry.slot ≡ slot → IsFreeAt q c) placed p ((tracks c).0 from) (λ same. absurd (other same)),
  λ all. (tracks c).1 (All-front (λ q. q.entry.slot ≡ slot → IsFreeAt q c) placed (p ∷ []) all),
)

pub well_placed-more : (placed : List Placed) (p : Placed) (free : Option ℕ) → IsWellPlaced placed → IsInRange p → IsFreeFrom placed p.entry.slot free → IsSomeAnd free (λ from. from ≤ p.origin) → IsWellPlaced (placed ++ p ∷ [])
well_placed-more placed p free well range tracks now = record {
  in_range = All-push IsInRange placed p well.in_range range;
  in_order = all_pairs_push GoesBefore placed p well.in_order ((tracks p.origin).0 now);
}

-- of a well placed list each element finds the elements before it free
pub free-before : (placed : List Placed) (i : ℕ) (d : Placed) → i < length placed → IsWellPlaced placed → AllFreeAt (take i placed) (get_or placed i d).entry.slot (get_or placed i d).origin
free-before placed i d within well =
    All-from_get_or (λ q. q.entry.slot ≡ (get_or placed i d).entry.slot → IsFreeAt q (get_or placed i d).origin) (take i placed) d
    (λ k below. grind (arith, length-take, get_or-take))

-- the table of free cycles before any entry
pub free-start : (n slot : ℕ) → slot < n → IsFreeFrom [] slot (get_or (replicate n (Some 0)) slot None)
free-start n slot within = rw (get_or-replicate {A = Option ℕ} n slot (Some 0) None within) (free-none slot)

-- the table of free cycles after one entry more
pub free-more : (n : ℕ) (table : List (Option ℕ)) (placed : List Placed) (p : Placed) (after : Option ℕ) → length table ≡ n → p.entry.slot < n → IsInRange p → ((slot : ℕ) → slot < n → IsFreeFrom placed slot (get_or table slot None)) → IsSomeAnd (get_or table p.entry.slot None) (λ from. from ≤ p.origin) → ((c : ℕ) → IsSomeAnd after (λ from. from ≤ c) ↔ IsFreeAt p c) → (slot : ℕ) → slot < n → IsFreeFrom (placed ++ p ∷ []) slot (get_or (set table p.entry.slot after) slot None)
free-more n table placed p after room slot_within range tracks now next slot within =
    ⊎_elim
    (λ (same : p.entry.slot ≡ slot).
    rw (get_or-set_at table p.entry.slot slot after None (sym same) (omega arith))
    (free-same placed p slot (get_or table p.entry.slot None) after range same (rw same (tracks slot within)) now next))
    (λ (other : p.entry.slot ≢ slot).
    rw (get_or-set_other table p.entry.slot slot after None (λ same. other (sym same)))
    (free-other placed p slot (get_or table slot None) other (tracks slot within)))
    (cases_eq p.entry.slot slot)
