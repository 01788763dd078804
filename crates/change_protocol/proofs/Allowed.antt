-- What holds of the operations of a change that breaks no rule.
use Rattle.std.proofs.Common.{◌≡◌, ◌≢◌, ℕ, ◌<◌, ◌≤◌, Bool, false, ◌||◌, nat_eq, nat_lt, nat_le, Option, None, IfSome, IsSomeAnd, List, [], ◌∷◌, ◌++◌, length, map, All, AllPairs, append_assoc, refl, append-nil, arith}
use Rattle.std.specs.List.{list_any}
use Rattle.std.specs.Option.{option_map_or}
use Rattle.std.proofs.lemmas.Bool.{eqb-false, leb-false, or_parts}
use Rattle.std.proofs.lemmas.List.Elements.{All-nil, All-cons, All-weaker}
use Rattle.std.proofs.lemmas.List.Quantifiers.{all_pairs_push}
use Rattle.std.proofs.lemmas.Bool.Decides.{nat_tests}
use Rattle.requirement_table.specs.declared.entries.Entry.{Entry}
use Rattle.requirement_table.specs.declared.entries.Placed.{Placed}
use Rattle.bit_sets.specs.Sets.{most_slots}
use Rattle.change_protocol.specs.declared.operations.Op.{Op}
use Rattle.change_protocol.specs.declared.operations.Op.TheVariants.{Add, Remove, Change}
use Rattle.change_protocol.specs.declared.operations.Change.{Change as TableChange}
use Rattle.change_protocol.specs.declared.malformed.Why.{Why}
use Rattle.change_protocol.specs.Operations.{entry_of, slot_of}
use Rattle.change_protocol.specs.Applied.{free_in, live_in}
use Rattle.change_protocol.specs.Malformed.{Bounds, IsWellFormed, bounds_of, broken, op_faults, slot_busy, slot_empty, where_holds, whys}

-- the slot has a live entry that does not begin behind the start
abbrev pub CanEnd : List Placed → ℕ → ℕ → Type 0
CanEnd placed start slot = IsSomeAnd (live_in placed slot) (λ live. live.origin ≤ start)

-- the operation fits the placed entries of its slot
abbrev pub FitsIn : List Placed → ℕ → Op → Type 0
FitsIn placed start (Add entry) = (live_in placed entry.slot ≡ None) × (free_in placed entry.slot ≤ start)
FitsIn placed start (Remove slot) = CanEnd placed start slot
FitsIn placed start (Change entry) = CanEnd placed start entry.slot

-- the lengths and the times of an entry are in range
pub record IsSound (entry : Entry) : Type 0 where
  pub length : entry.length ≤ 8
  pub some_time : 1 ≤ entry.deadline
  pub deadline : entry.deadline ≤ entry.period

pub record IsAllowed (slots : ℕ) (placed : List Placed) (start : ℕ) (op : Op) : Type 0 where
  pub slot : slot_of op < slots
  pub entry : IfSome (entry_of op) IsSound
  pub fits : FitsIn placed start op

-- two operations have different slots
abbrev pub Differ : Op → Op → Type 0
Differ one other = slot_of one ≢ slot_of other

pub both-none : {A : Type 0} (xs ys : List A) → xs ++ ys ≡ [] → (xs ≡ []) × (ys ≡ [])
both-none [] ys e = (refl, e)
both-none (x ∷ xs) ys e = absurd (cc)

pub none-mapped : {A B : Type 0} (f : A → B) (xs : List A) → map f xs ≡ [] → xs ≡ []
none-mapped f [] e = refl
none-mapped f (x ∷ xs) e = absurd (cc)

pub not-held : (test : Bool) (why : Why) → where_holds test why ≡ [] → test ≡ false
not-held test why e = grind arith

sound : (placed_entry : Option Entry) → option_map_or (λ entry. nat_lt 8 entry.length) placed_entry false ≡ false
    → option_map_or (λ entry. nat_eq entry.deadline 0 || nat_lt entry.period entry.deadline) placed_entry false ≡ false
    → IfSome placed_entry IsSound
sound placed_entry short in_time = grind (arith, nat_tests)

fits : (placed : List Placed) (start : ℕ) (op : Op) → slot_busy placed start op ≡ [] → slot_empty placed op ≡ [] → FitsIn placed start op
fits placed start op busy empty = grind arith

none-passes : {X : Type 0} (test : X → Bool) (xs : List X) → list_any test xs ≡ false → All (λ x. test x ≡ false) xs
none-passes test [] none = All-nil (λ x. test x ≡ false)
none-passes test (x ∷ xs) none =
    All-cons (λ x. test x ≡ false) x xs (or_parts (test x) (list_any test xs) none).0 (none-passes test xs (or_parts (test x) (list_any test xs) none).1)

known : (nodes : ℕ) (placed_entry : Option Entry) → option_map_or (λ entry. nat_le nodes entry.node) placed_entry false ≡ false → IfSome placed_entry (λ entry. entry.node < nodes)
known nodes placed_entry test = grind (arith, leb-false)

-- what no fault of an operation says of it
allowed-at : (placed : List Placed) (bounds : Bounds) (start : ℕ) (earlier : List Op) (op : Op) → whys placed bounds start earlier op ≡ [] → IsAllowed bounds.slots placed start op × All (λ other. Differ other op) earlier × IfSome (entry_of op) (λ entry. entry.node < bounds.nodes)
allowed-at placed bounds start earlier op none = grind (arith, both-none, not-held, leb-false, sound, fits, eqb-false, none-passes, known)

-- where no operation breaks a rule, each is allowed
pub all-allowed : (placed : List Placed) (bounds : Bounds) (start : ℕ) (earlier ops : List Op) → op_faults placed bounds start earlier ops ≡ [] → All (IsAllowed bounds.slots placed start) ops
all-allowed placed bounds start earlier [] none = All-nil (IsAllowed bounds.slots placed start)
all-allowed placed bounds start earlier (op ∷ ops) none =
    let parts = both-none (map (broken (length earlier)) (whys placed bounds start earlier op)) (op_faults placed bounds start (earlier ++ op ∷ []) ops) none in
    All-cons (IsAllowed bounds.slots placed start) op ops
    (allowed-at placed bounds start earlier op (none-mapped (broken (length earlier)) (whys placed bounds start earlier op) parts.0)).0
    (all-allowed placed bounds start (earlier ++ op ∷ []) ops parts.1)

-- and each finds the live entry that it ends
not-empty : (placed : List Placed) (bounds : Bounds) (start : ℕ) (earlier : List Op) (op : Op) → whys placed bounds start earlier op ≡ [] → slot_empty placed op ≡ []
not-empty placed bounds start earlier op none = grind (arith, both-none)

pub all-live : (placed : List Placed) (bounds : Bounds) (start : ℕ) (earlier ops : List Op) → op_faults placed bounds start earlier ops ≡ [] → All (λ op. slot_empty placed op ≡ []) ops
all-live placed bounds start earlier [] none = All-nil (λ op. slot_empty placed op ≡ [])
all-live placed bounds start earlier (op ∷ ops) none =
    let parts = both-none (map (broken (length earlier)) (whys placed bounds start earlier op)) (op_faults placed bounds start (earlier ++ op ∷ []) ops) none in
    All-cons (λ op. slot_empty placed op ≡ []) op ops
    (not-empty placed bounds start earlier op (none-mapped (broken (length earlier)) (whys placed bounds start earlier op) parts.0))
    (all-live placed bounds start (earlier ++ op ∷ []) ops parts.1)

-- and they have different slots
pub all-differ : (placed : List Placed) (bounds : Bounds) (start : ℕ) (earlier ops : List Op) → op_faults placed bounds start earlier ops ≡ [] → AllPairs Differ earlier → AllPairs Differ (earlier ++ ops)
all-differ placed bounds start earlier [] none differ = rw (append-nil earlier) differ
all-differ placed bounds start earlier (op ∷ ops) none differ =
    let parts = both-none (map (broken (length earlier)) (whys placed bounds start earlier op)) (op_faults placed bounds start (earlier ++ op ∷ []) ops) none in
    let others = (allowed-at placed bounds start earlier op (none-mapped (broken (length earlier)) (whys placed bounds start earlier op) parts.0)).1 in
    let more = all_pairs_push Differ earlier op differ (λ k d within. others k d within) in
    rw append_assoc at (all-differ placed bounds start (earlier ++ op ∷ []) ops parts.1 more)

-- and their nodes are known
pub all-known : (placed : List Placed) (bounds : Bounds) (start : ℕ) (earlier ops : List Op) → op_faults placed bounds start earlier ops ≡ [] → All (λ op. IfSome (entry_of op) (λ entry. entry.node < bounds.nodes)) ops
all-known placed bounds start earlier [] none = All-nil (λ op. IfSome (entry_of op) (λ entry. entry.node < bounds.nodes))
all-known placed bounds start earlier (op ∷ ops) none =
    let parts = both-none (map (broken (length earlier)) (whys placed bounds start earlier op)) (op_faults placed bounds start (earlier ++ op ∷ []) ops) none in
    All-cons (λ op. IfSome (entry_of op) (λ entry. entry.node < bounds.nodes)) op ops
    (allowed-at placed bounds start earlier op (none-mapped (broken (length earlier)) (whys placed bounds start earlier op) parts.0)).2
    (all-known placed bounds start (earlier ++ op ∷ []) ops parts.1)

-- and where there are at most as many slots as a set of slots has room for, their slots have room
pub allowed-most : (placed : List Placed) (bounds : Bounds) (start : ℕ) (ops : List Op) → bounds.slots ≤ most_slots → op_faults placed bounds start [] ops ≡ [] → All (IsAllowed most_slots placed start) ops
allowed-most placed bounds start ops room none =
    All-weaker (IsAllowed bounds.slots placed start) (IsAllowed most_slots placed start) (λ op allowed.
    grind (arith, fits)) ops (all-allowed placed bounds start [] ops none)

-- so each slot of a well formed change has room
pub formed-slots : (placed : List Placed) (nodes slots : ℕ) (change : TableChange) → slots ≤ most_slots → IsWellFormed placed (bounds_of nodes slots) change → All (λ op. slot_of op < most_slots) change.ops
formed-slots placed nodes slots change room formed = grind (arith, allowed-most, both-none)

-- and each operation finds the live entry that it ends
pub formed-live : (placed : List Placed) (nodes slots : ℕ) (change : TableChange) → IsWellFormed placed (bounds_of nodes slots) change → All (λ op. slot_empty placed op ≡ []) change.ops
formed-live placed nodes slots change formed = grind (arith, all-live, both-none)
