-- A change is not felt before its start, and what was released before its start is still sent after it.
use Rattle.std.proofs.Common.{◌≡◌, ℕ, ◌<◌, Bool, true, false, ◌&&◌, nat_eq, nat_lt, if◌then◌else◌, Option, Some, None, is_some, List, [], ◌∷◌, slice_get, All, refl, sym, ◌∙◌, arith}
use Rattle.std.specs.List.{cons_option, filter_map}
use Rattle.std.specs.Option.{option_map, option_or}
use Rattle.std.proofs.Math.Bool.{and-false}
use Rattle.std.proofs.lemmas.Bool.{lt-leb, lt-ltb, ne_eqb}
use Rattle.std.proofs.lemmas.List.Elements.{All-head, All-tail}
use Rattle.requirement_table.specs.declared.entries.Placed.{Placed}
use Rattle.requirement_table.specs.Instance.{Instance, exists, may_send, release_of, released_by}
use Rattle.requirement_table.specs.Table.{instance_in, is_last_in, released_in, releases_in, sendable, worst_in}
use Rattle.requirement_table.proofs.Shared.{instance_in-sound}
use Rattle.bit_sets.proofs.Shared.{set_of-same}
use Rattle.change_protocol.specs.Applied.{IsChangedAt, IsKept, IsNewFrom, without_end}

-- one entry

live-exists : (p : Placed) (release : ℕ) → p.end ≡ None → exists p release ≡ true
live-exists p release none = rw none refl

not-both : (some released in_time : Bool) → (true && released && in_time) ≡ false → (some && released && in_time) ≡ false
not-both some released in_time not = grind arith

-- an end makes nothing sendable
none-ended : (start : ℕ) (p : Placed) (k c : ℕ) → p.end ≡ None → may_send p k c ≡ false → may_send (record p { end = Some start }) k c ≡ false
none-ended start p k c none not = grind (arith, not-both, nat_lt, live-exists)

-- an entry in its slot

abbrev numbered : Placed → ℕ → Instance
numbered p k = record { placed = p; number = k }

-- an entry that a change keeps sends what was released before the start of the change
kept-sends : (start slot c : ℕ) (p q : Placed) → IsKept start p q → (i : Instance) → sendable slot c p ≡ Some i → release_of i.placed i.number < start
    → option_map without_end (sendable slot c q) ≡ Some (without_end i)
kept-sends start slot c p q kept i sends before = grind arith

-- and sends nothing where it sent nothing
kept-none : (start slot c : ℕ) (p q : Placed) → IsKept start p q → sendable slot c p ≡ None → sendable slot c q ≡ None
kept-none start slot c p q kept none = grind arith

none-anywhere : (b : Bool) (q : Placed) → (if b then option_map (numbered q) None else None) ≡ None
none-anywhere b q = grind arith

-- a new entry has nothing to send before the start
new-none : (start slot c : ℕ) (q : Placed) → IsNewFrom start q → c < start → sendable slot c q ≡ None
new-none start slot c q new early = grind (arith, lt-leb, none-anywhere)

-- lists

first-cons : {A : Type 0} (o : Option A) (xs : List A) → slice_get (cons_option o xs) 0 ≡ option_or o (slice_get xs 0)
first-cons o xs = grind arith

instance-cons : (slot c : ℕ) (p : Placed) (placed : List Placed) → instance_in (p ∷ placed) slot c ≡ option_or (sendable slot c p) (instance_in placed slot c)
instance-cons slot c p placed = first-cons (sendable slot c p) (filter_map (sendable slot c) placed)

-- `a` and then `r` became `b` and then `s`
one-of : (a b r s : Option Instance) (i : Instance) → (a ≡ Some i → option_map without_end b ≡ Some (without_end i)) → (a ≡ None → b ≡ None)
    → (r ≡ Some i → option_map without_end s ≡ Some (without_end i)) → option_or a r ≡ Some i → option_map without_end (option_or b s) ≡ Some (without_end i)
one-of a b r s i this none rest found = grind arith

none-of : (a b r s : Option Instance) → (a ≡ None → b ≡ None) → (r ≡ None → s ≡ None) → option_or a r ≡ None → option_or b s ≡ None
none-of a b r s this rest found = grind arith

-- what was released before the start of a change may still be sent
pub kept-instance : (start slot c : ℕ) (old new : List Placed) (i : Instance) → IsChangedAt start old new → instance_in old slot c ≡ Some i → release_of i.placed i.number < start
    → option_map without_end (instance_in new slot c) ≡ Some (without_end i)
kept-instance start slot c [] new i changed found before = absurd (cc)
kept-instance start slot c (p ∷ old) [] i changed found before = absurd changed
kept-instance start slot c (p ∷ old) (q ∷ new) i changed found before =
    rw (instance-cons slot c q new)
    (one-of (sendable slot c p) (sendable slot c q) (instance_in old slot c) (instance_in new slot c) i
    (λ sends. kept-sends start slot c p q changed.0 i sends before)
    (λ none. kept-none start slot c p q changed.0 none)
    (λ behind. kept-instance start slot c old new i changed.1 behind before)
    (sym (instance-cons slot c p old) ∙ found))

new-instances : (start slot c : ℕ) (new : List Placed) → All (IsNewFrom start) new → c < start → instance_in new slot c ≡ None
new-instances start slot c [] all early = refl
new-instances start slot c (q ∷ new) all early =
    rw (instance-cons slot c q new, new-none start slot c q (All-head (IsNewFrom start) q new all) early)
    (new-instances start slot c new (All-tail (IsNewFrom start) q new all) early)

no-instance : (start slot c : ℕ) (old new : List Placed) → IsChangedAt start old new → c < start → instance_in old slot c ≡ None → instance_in new slot c ≡ None
no-instance start slot c [] new changed early none = new-instances start slot c new changed early
no-instance start slot c (p ∷ old) [] changed early none = absurd changed
no-instance start slot c (p ∷ old) (q ∷ new) changed early none =
    rw (instance-cons slot c q new)
    (none-of (sendable slot c p) (sendable slot c q) (instance_in old slot c) (instance_in new slot c)
    (λ not. kept-none start slot c p q changed.0 not)
    (λ behind. no-instance start slot c old new changed.1 early behind)
    (sym (instance-cons slot c p old) ∙ none))

same-if-some : (o after : Option Instance) → ((i : Instance) → o ≡ Some i → option_map without_end after ≡ Some (without_end i)) → (o ≡ None → after ≡ None) → option_map without_end after ≡ option_map without_end o
same-if-some o after some none = grind arith

released-early : (placed : List Placed) (slot c start : ℕ) (i : Instance) → c < start → instance_in placed slot c ≡ Some i → release_of i.placed i.number < start
released-early placed slot c start i early found =
    let sends = rw found at (instance_in-sound placed slot c) in
    grind arith

-- before its start a change is not felt
pub same-instances : (start slot c : ℕ) (old new : List Placed) → IsChangedAt start old new → c < start
    → option_map without_end (instance_in new slot c) ≡ option_map without_end (instance_in old slot c)
same-instances start slot c old new changed early =
    same-if-some (instance_in old slot c) (instance_in new slot c)
    (λ i found. kept-instance start slot c old new i changed found (released-early old slot c start i early found))
    (λ none. no-instance start slot c old new changed early none)

-- what an instance costs and when it is due is known without its end

pub same-worst : (slot c : ℕ) (old new : List Placed) → option_map without_end (instance_in new slot c) ≡ option_map without_end (instance_in old slot c) → worst_in new c slot ≡ worst_in old c slot
same-worst slot c old new same = grind arith

pub same-last : (slot c : ℕ) (old new : List Placed) → option_map without_end (instance_in new slot c) ≡ option_map without_end (instance_in old slot c) → is_last_in new c slot ≡ is_last_in old c slot
same-last slot c old new same = grind arith

-- releases

release-kept : (start slot c : ℕ) (p q : Placed) → IsKept start p q → c < start
    → (nat_eq q.entry.slot slot && is_some (released_by q c)) ≡ (nat_eq p.entry.slot slot && is_some (released_by p c))
release-kept start slot c p q kept early = grind (arith, nat_lt, lt-ltb, live-exists)

no-release : (start slot c : ℕ) (q : Placed) → IsNewFrom start q → c < start → (nat_eq q.entry.slot slot && is_some (released_by q c)) ≡ false
no-release start slot c q new early = grind (arith, ne_eqb, and-false)

new-releases : (start slot c : ℕ) (new : List Placed) → All (IsNewFrom start) new → c < start → releases_in new c slot ≡ false
new-releases start slot c [] all early = refl
new-releases start slot c (q ∷ new) all early =
    rw (no-release start slot c q (All-head (IsNewFrom start) q new all) early)
    (new-releases start slot c new (All-tail (IsNewFrom start) q new all) early)

pub same-releases : (start slot c : ℕ) (old new : List Placed) → IsChangedAt start old new → c < start → releases_in new c slot ≡ releases_in old c slot
same-releases start slot c [] new changed early = new-releases start slot c new changed early
same-releases start slot c (p ∷ old) [] changed early = absurd changed
same-releases start slot c (p ∷ old) (q ∷ new) changed early =
    rw (release-kept start slot c p q changed.0 early, same-releases start slot c old new changed.1 early) refl

pub same-released : (start c : ℕ) (old new : List Placed) → IsChangedAt start old new → c < start → released_in new c ≡ released_in old c
same-released start c old new changed early = grind (arith, set_of-same, same-releases)
