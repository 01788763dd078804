-- The placed entries of changes that break no rule have slots and nodes of the rules, and what is planned of them has
-- slots of the rules.
use Rattle.std.proofs.Common.{◌≡◌, ℕ, ◌^◌, ◌<◌, ◌≤◌, ◌&&◌, Bool, true, false, nat_lt, Option, Some, IsSome, is_none, IfSome, List, [], ◌∷◌, ◌++◌, All, Contains, length, map, refl, ◌∙◌, subst, arith}
use Rattle.std.specs.List.{cons_option, filter_map}
use Rattle.std.proofs.Math.Bool.{and-false}
use Rattle.std.proofs.Math.Nat.{lt_of_lt_of_le, pow-le-pow_right}
use Rattle.std.proofs.lemmas.Bool.{leb-false, lt-ltb}
use Rattle.std.proofs.lemmas.List.Elements.{All-append, All-cons, All-head, All-map, All-nil, All-tail}
use Rattle.requirement_table.specs.declared.entries.Placed.{Placed}
use Rattle.requirement_table.specs.Instance.{Instance, MaySend}
use Rattle.bit_sets.specs.Sets.{most_slots, set_of}
use Rattle.requirement_table.specs.Table.{instance_in}
use Rattle.requirement_table.proofs.Shared.{instance_in-sound}
use Rattle.bit_sets.proofs.Shared.{has_bit-set_of, set_of-below, set_of-from_slots}
use Rattle.change_protocol.specs.declared.malformed.Why.{Why}
use Rattle.change_protocol.specs.declared.operations.Change.{Change}
use Rattle.change_protocol.specs.declared.operations.Op.{Op}
use Rattle.change_protocol.specs.Applied.{applied, ended, placed_by}
use Rattle.change_protocol.specs.Malformed.{Bounds, broken, op_faults, where_holds, whys}
use Rattle.change_protocol.specs.Operations.{entry_of, slot_of}

pub both-none : {A : Type 0} (xs ys : List A) → xs ++ ys ≡ [] → (xs ≡ []) × (ys ≡ [])
both-none [] ys e = (refl, e)
both-none (x ∷ xs) ys e = absurd (cc)

-- an operation that breaks no rule

none-broken : (op : ℕ) (whys : List Why) → map (broken op) whys ≡ [] → whys ≡ []
none-broken op [] e = refl
none-broken op (why ∷ whys) e = absurd (cc)

not-held : (test : Bool) (why : Why) → where_holds test why ≡ [] → test ≡ false
not-held test why e = grind arith

-- what the operation asks for: a slot below this number, and where it places an entry, a node below this one
record IsKnownOp (bounds : Bounds) (op : Op) : Type 0 where
  pub slot : slot_of op < bounds.slots
  pub node : IfSome (entry_of op) (λ entry. entry.node < bounds.nodes)

op-known : (placed : List Placed) (bounds : Bounds) (start : ℕ) (earlier : List Op) (op : Op) → whys placed bounds start earlier op ≡ [] → IsKnownOp bounds op
op-known placed bounds start earlier op none = grind (arith, both-none, leb-false, not-held)

ops-known : (placed : List Placed) (bounds : Bounds) (start : ℕ) (earlier ops : List Op) → op_faults placed bounds start earlier ops ≡ [] → All (IsKnownOp bounds) ops
ops-known placed bounds start earlier [] none = All-nil (IsKnownOp bounds)
ops-known placed bounds start earlier (op ∷ ops) none =
    let parts = both-none (map (broken (length earlier)) (whys placed bounds start earlier op)) (op_faults placed bounds start (earlier ++ op ∷ []) ops) none in
    All-cons (IsKnownOp bounds) op ops
    (op-known placed bounds start earlier op (none-broken (length earlier) (whys placed bounds start earlier op) parts.0))
    (ops-known placed bounds start (earlier ++ op ∷ []) ops parts.1)

-- the entry has a slot below this number, or a node
abbrev pub HasSlot : ℕ → Placed → Type 0
HasSlot slots p = p.entry.slot < slots

abbrev pub HasNode : ℕ → Placed → Type 0
HasNode nodes p = p.entry.node < nodes

-- what holds of an entry whatever its end is, and of each entry that an operation places, holds of all after a change
module _ (P : Placed → Type 0) (stays : (start : ℕ) (p : Placed) → P p → P (record p { end = Some start })) where
  one-more : (o : Option Placed) (list : List Placed) → IfSome o P → All P list → All P (cons_option o list)
  one-more o list one rest = grind arith

  module _ (bounds : Bounds) (new : (placed : List Placed) (start : ℕ) (op : Op) → IsKnownOp bounds op → IfSome (placed_by placed start op) P) where
    new-placed : (start : ℕ) (placed : List Placed) (ops : List Op) → All (IsKnownOp bounds) ops → All P (filter_map (placed_by placed start) ops)
    new-placed start placed [] known = All-nil P
    new-placed start placed (op ∷ ops) known =
        one-more (placed_by placed start op) (filter_map (placed_by placed start) ops)
        (new placed start op (All-head (IsKnownOp bounds) op ops known))
        (new-placed start placed ops (All-tail (IsKnownOp bounds) op ops known))

    all-applied : (placed : List Placed) (change : Change) → op_faults placed bounds change.start [] change.ops ≡ [] → All P placed → All P (applied placed change)
    all-applied placed change none before =
        All-append P (map (ended change.start change.ops) placed) (filter_map (placed_by placed change.start) change.ops)
        (All-map P (ended change.start change.ops) placed
        (grind (arith, is_none)))
        (new-placed change.start placed change.ops (ops-known placed bounds change.start [] change.ops none))

new-slot : (bounds : Bounds) (placed : List Placed) (start : ℕ) (op : Op) → IsKnownOp bounds op → IfSome (placed_by placed start op) (HasSlot bounds.slots)
new-slot bounds placed start op known = grind arith

new-node : (bounds : Bounds) (placed : List Placed) (start : ℕ) (op : Op) → IsKnownOp bounds op → IfSome (placed_by placed start op) (HasNode bounds.nodes)
new-node bounds placed start op known = grind arith

-- the placed entries after a change that breaks no rule
pub slots-applied : (placed : List Placed) (bounds : Bounds) (change : Change) → op_faults placed bounds change.start [] change.ops ≡ []
    → All (HasSlot bounds.slots) placed → All (HasSlot bounds.slots) (applied placed change)
slots-applied placed bounds change none low = all-applied (HasSlot bounds.slots) (λ start p here. here) bounds (new-slot bounds) placed change none low

pub nodes-applied : (placed : List Placed) (bounds : Bounds) (change : Change) → op_faults placed bounds change.start [] change.ops ≡ []
    → All (HasNode bounds.nodes) placed → All (HasNode bounds.nodes) (applied placed change)
nodes-applied placed bounds change none low = all-applied (HasNode bounds.nodes) (λ start p here. here) bounds (new-node bounds) placed change none low

-- a set of slots that are all below a number

in-range : (slots slot : ℕ) (b : Bool) → (b ≡ true → slot < slots) → (nat_lt slot slots && b) ≡ b
in-range slots slot b low = grind (arith, lt-ltb, and-false, nat_lt)

pub set-below : (slots : ℕ) (p : ℕ → Bool) → slots ≤ most_slots → ((slot : ℕ) → slot < most_slots → p slot ≡ true → slot < slots) → set_of most_slots p < 2 ^ slots
set-below slots p room low =
    let few = set_of-below slots p in
    let more : 2 ^ slots ≤ 2 ^ most_slots = pow-le-pow_right {n = 2} (omega arith) room in
    subst (λ (mask : ℕ). mask < 2 ^ slots)
    (set_of-from_slots most_slots (set_of slots p) p (lt_of_lt_of_le few more)
    (λ slot known. has_bit-set_of slots p slot ∙ in-range slots slot (p slot) (low slot known)))
    few

-- a slot with an instance
pub instance-slot : (slots slot c : ℕ) (placed : List Placed) → All (HasSlot slots) placed → IsSome (instance_in placed slot c) → slot < slots
instance-slot slots slot c placed low some = of-instance (instance_in placed slot c) some (instance_in-sound placed slot c)
  where
    of-instance : (o : Option Instance) → IsSome o → IfSome o (λ i. Contains placed i.placed × (i.placed.entry.slot ≡ slot) × MaySend i.placed i.number c) → slot < slots
    of-instance o some sent = grind arith
