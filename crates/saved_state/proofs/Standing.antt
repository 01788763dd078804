-- Numbers stand for the state that they are those of.
use Rattle.std.proofs.Common.{◌≡◌, ◌+◌, ◌-◌, ◌*◌, ◌/◌, ◌<◌, ◌≤◌, ◌^◌, ◌%◌, ◌++◌, ◌∷◌, [], All, List, ℕ, suc, length, drop, take, ap, ◌∙◌, sym, refl, arith, get_or, Option, None, Some, Bool, true, false, IfSome, length-drop}
use Rattle.std.proofs.Math.Nat.{mod-eq_of_lt}
use Rattle.std.proofs.lemmas.Nat.{from_le_bytes-to_le_bytes_8}
use Rattle.std.proofs.lemmas.List.Elements.{All-head, All-tail, All-cons, All-nil}
use Rattle.std.proofs.lemmas.List.{take_all, take_more}
use Rattle.std.proofs.lemmas.List.Concat.{flat_map-append}
use Rattle.std.specs.Int.{from_le_bytes, to_le_bytes, w64}
use Rattle.requirement_table.specs.declared.entries.Placed.{Placed}
use Rattle.planner_policies.specs.declared.Policy.{Policy}
use Rattle.planner_policies.specs.declared.Policy.TheVariants.{Rm, Dm, Edf}
use Rattle.planner_policies.specs.declared.Fill.{Fill}
use Rattle.planner_policies.specs.declared.Fill.TheVariants.{Prefix, Skip}
use Rattle.master_core.specs.declared.saved.Saved.{Saved}
use Rattle.saved_state.specs.Checksum.{checksum}
use Rattle.saved_state.specs.Bytes.{AreBytesOf, bytes_of, IsTypedSaved, IsTypedPlaced, bool_number, bytes_of_numbers, end_number, form, has_number, fill_number, list_numbers, numbers_of, placed_numbers, policy_number}
use Rattle.saved_state.specs.Numbers.{bool_in, end_in, fill_in, numbers_in, placed_in, places_in, policy_in, state_in}

-- one more number of so many that are left
pub numbers-next : (n k : ℕ) (bytes : List ℕ) → k < n
    → numbers_in (n - k) bytes ≡ from_le_bytes w64 (take 8 bytes) ∷ numbers_in (n - (k + 1)) (drop 8 bytes)
numbers-next n k bytes l = let more : n - k ≡ suc (n - (k + 1)) = omega arith in ap (λ x. numbers_in x bytes) more

-- one more placed entry of so many that are left
pub places-next : (n k : ℕ) (ns : List ℕ) → k < n
    → places_in (n - k) ns ≡ placed_in (take 10 ns) ∷ places_in (n - (k + 1)) (drop 10 ns)
places-next n k ns l = let more : n - k ≡ suc (n - (k + 1)) = omega arith in ap (λ x. places_in x ns) more

-- each number has eight bytes
unfoldable AreBelow : List ℕ → Type 0
AreBelow ns = All (λ n. n < 2 ^ 64) ns

none-below : AreBelow []
unfolding AreBelow
none-below = All-nil (λ n. n < 2 ^ 64)

with : (n : ℕ) (ns : List ℕ) → n < 2 ^ 64 → AreBelow ns → AreBelow (n ∷ ns)
unfolding AreBelow
with n ns l more = All-cons (λ n. n < 2 ^ 64) n ns l more

first-below : (n : ℕ) (ns : List ℕ) → AreBelow (n ∷ ns) → n < 2 ^ 64
unfolding AreBelow
first-below n ns all = All-head (λ n. n < 2 ^ 64) n ns all

rest-below : (n : ℕ) (ns : List ℕ) → AreBelow (n ∷ ns) → AreBelow ns
unfolding AreBelow
rest-below n ns all = All-tail (λ n. n < 2 ^ 64) n ns all

-- the numbers of bytes are those that were written
numbers-of-bytes : (ns : List ℕ) → AreBelow ns → numbers_in (length ns) (bytes_of_numbers ns) ≡ ns
numbers-of-bytes [] typed = refl
numbers-of-bytes (n ∷ ns) typed =
    ap (λ x. x ∷ numbers_in (length ns) (bytes_of_numbers ns)) (from_le_bytes-to_le_bytes_8 n (first-below n ns typed))
    ∙ ap (λ x. n ∷ x) (numbers-of-bytes ns (rest-below n ns typed))

bytes-length : (ns : List ℕ) → length (bytes_of_numbers ns) ≡ 8 * length ns
bytes-length [] = refl
bytes-length (n ∷ ns) = let more = bytes-length ns in omega (arith, more)

list-length : (ps : List Placed) → length (list_numbers ps) ≡ 10 * length ps
list-length [] = refl
list-length (p ∷ ps) = let more = list-length ps in omega (arith, more)

end-in : (end : Option ℕ) → end_in (has_number end) (end_number end) ≡ end
end-in None = refl
end-in (Some end) = refl

policy-in : (policy : Policy) → policy_in (policy_number policy) ≡ policy
policy-in Rm = refl
policy-in Dm = refl
policy-in Edf = refl

fill-in : (fill : Fill) → fill_in (fill_number fill) ≡ fill
fill-in Prefix = refl
fill-in Skip = refl

bool-in : (b : Bool) → bool_in (bool_number b) ≡ b
bool-in false = refl
bool-in true = refl

-- a placed entry is that of its numbers
placed-in : (p : Placed) (ns : List ℕ) → IsTypedPlaced p → placed_in (take 10 (placed_numbers p ++ ns)) ≡ p
unfolding placed_in
placed-in p ns typed = rw (mod-eq_of_lt typed.slot, mod-eq_of_lt typed.node, mod-eq_of_lt typed.len, mod-eq_of_lt typed.phase, mod-eq_of_lt typed.period, mod-eq_of_lt typed.deadline, mod-eq_of_lt typed.priority, end-in p.end) refl

-- the numbers of one more placed entry
pub list-more : (ps : List Placed) (i : ℕ) (d : Placed) → i < length ps
    → list_numbers (take (i + 1) ps) ≡ list_numbers (take i ps) ++ placed_numbers (get_or ps i d)
list-more ps i d l = ap list_numbers (take_more ps i d l) ∙ flat_map-append placed_numbers (take i ps) (get_or ps i d ∷ [])

-- so are the placed entries of a list's numbers
places-of-list : (ps : List Placed) → All IsTypedPlaced ps → places_in (length ps) (list_numbers ps) ≡ ps
places-of-list [] typed = refl
places-of-list (p ∷ ps) typed =
    ap (λ x. x ∷ places_in (length ps) (list_numbers ps)) (placed-in p (list_numbers ps) (All-head IsTypedPlaced p ps typed))
    ∙ ap (λ x. p ∷ x) (places-of-list ps (All-tail IsTypedPlaced p ps typed))

-- the slots that are pending, from their two numbers
pending-in : (n : ℕ) → n < 2 ^ 96 → n / 2 ^ 64 % 2 ^ 32 * 2 ^ 64 + n % 2 ^ 64 ≡ n
pending-in n l = omega arith

-- a state is that of its numbers
pub state-in : (saved : Saved) → IsTypedSaved saved → state_in (numbers_of saved) ≡ saved
unfolding state_in
state-in saved typed =
    let count : length (list_numbers saved.placed) / 10 ≡ length saved.placed = let all = list-length saved.placed in omega (arith, all) in
    rw (mod-eq_of_lt typed.head.nodes, mod-eq_of_lt typed.head.slots, policy-in saved.rules.policy, fill-in saved.rules.fill, mod-eq_of_lt typed.head.window, count, places-of-list saved.placed typed.placed, pending-in saved.state.pending typed.head.pending, bool-in saved.forgets, bool-in saved.learns) refl

-- numbers of narrower types
below : (n k : ℕ) → n < k → k ≤ 2 ^ 64 → n < 2 ^ 64
below n k l m = omega arith

has-below : (end : Option ℕ) → has_number end < 2 ^ 64
has-below None = omega arith
has-below (Some end) = omega arith

end-below : (end : Option ℕ) → IfSome end (λ end. end < 2 ^ 64) → end_number end < 2 ^ 64
end-below None l = omega arith
end-below (Some end) l = l

policy-below : (policy : Policy) → policy_number policy < 2 ^ 64
policy-below Rm = omega arith
policy-below Dm = omega arith
policy-below Edf = omega arith

fill-below : (fill : Fill) → fill_number fill < 2 ^ 64
fill-below Prefix = omega arith
fill-below Skip = omega arith

bool-below : (b : Bool) → bool_number b < 2 ^ 64
bool-below false = omega arith
bool-below true = omega arith

placed-below : (p : Placed) (ns : List ℕ) → IsTypedPlaced p → AreBelow ns → AreBelow (placed_numbers p ++ ns)
placed-below p ns typed more =
    let e = p.entry in
    with e.slot _ (below e.slot (2 ^ 8) typed.slot (omega arith)) (with e.node _ (below e.node (2 ^ 8) typed.node (omega arith))
    (with e.length _ (below e.length (2 ^ 8) typed.len (omega arith)) (with e.phase _ (below e.phase (2 ^ 16) typed.phase (omega arith))
    (with e.period _ (below e.period (2 ^ 16) typed.period (omega arith)) (with e.deadline _ (below e.deadline (2 ^ 16) typed.deadline (omega arith))
    (with e.priority _ (below e.priority (2 ^ 8) typed.priority (omega arith)) (with p.origin _ typed.origin
    (with (has_number p.end) _ (has-below p.end) (with (end_number p.end) ns (end-below p.end typed.end) more)))))))))

list-below : (ps : List Placed) → All IsTypedPlaced ps → AreBelow (list_numbers ps)
list-below [] typed = none-below
list-below (p ∷ ps) typed = placed-below p (list_numbers ps) (All-head IsTypedPlaced p ps typed) (list-below ps (All-tail IsTypedPlaced p ps typed))

-- the numbers of a state have eight bytes
numbers-below : (saved : Saved) → IsTypedSaved saved → AreBelow (numbers_of saved)
numbers-below saved typed =
    let h = typed.head in
    let r = saved.rules in
    let n = saved.state.pending in
    let low : n % 2 ^ 64 < 2 ^ 64 = omega arith in
    let high : n / 2 ^ 64 < 2 ^ 64 = omega (arith, h.pending) in
    with form _ (omega arith) (with r.nodes _ (below r.nodes (2 ^ 8) h.nodes (omega arith)) (with r.slots _ (below r.slots (2 ^ 8) h.slots (omega arith))
    (with (policy_number r.policy) _ (policy-below r.policy) (with (fill_number r.fill) _ (fill-below r.fill) (with r.window _ (below r.window (2 ^ 32) h.window (omega arith))
    (with r.horizon _ h.horizon (with saved.state.cycle _ h.cycle (with (n % 2 ^ 64) _ low (with (n / 2 ^ 64) _ high
    (with saved.accepted _ h.changes (with (bool_number saved.forgets) _ (bool-below saved.forgets)
    (with (bool_number saved.learns) (list_numbers saved.placed) (bool-below saved.learns) (list-below saved.placed typed.placed)))))))))))))

-- the numbers of a state's bytes are its own, behind that of the checksum
pub numbers-in : (saved : Saved) (bytes : List ℕ) → AreBytesOf saved bytes
    → numbers_in (length bytes / 8) bytes
    ≡ from_le_bytes w64 (to_le_bytes w64 (checksum (bytes_of_numbers (numbers_of saved)))) ∷ numbers_of saved
unfolding bytes_of
numbers-in saved bytes are =
    let sum = checksum (bytes_of_numbers (numbers_of saved)) in
    let ns = numbers_of saved in
    let all = bytes-length ns in
    let count : suc (suc (suc (suc (suc (suc (suc (suc (length (bytes_of_numbers ns))))))))) / 8 ≡ suc (length ns) = omega (arith, all) in
    ap (λ b. numbers_in (length b / 8) b) are.are
    ∙ ap (λ n. numbers_in n (to_le_bytes w64 sum ++ bytes_of_numbers ns)) count
    ∙ ap (λ x. from_le_bytes w64 (to_le_bytes w64 sum) ∷ x) (numbers-of-bytes ns (numbers-below saved are.typed))

-- what is written
pub written : (saved : Saved) (ns behind all : List ℕ) → IsTypedSaved saved → ns ≡ numbers_of saved → behind ≡ bytes_of_numbers ns
    → all ≡ to_le_bytes w64 (checksum behind) ++ behind → AreBytesOf saved all
unfolding bytes_of
written saved ns behind all typed is wide sum = record {
  typed = typed;
  are =
      let whole = wide ∙ ap bytes_of_numbers is in
      sum ∙ ap (λ b. to_le_bytes w64 (checksum b) ++ b) whole;
}

-- numbers that are too few are no state's
pub none-few : (saved : Saved) (bytes ns : List ℕ) → ns ≡ numbers_in (length bytes / 8) bytes → AreBytesOf saved bytes → length ns < 14 → ⊥
none-few saved bytes ns is are few =
    let all = ap length (is ∙ numbers-in saved bytes are) in omega (arith, all, few)

-- all behind the first one
pub behind-first : (slice ns : List ℕ) → slice ≡ ns → take (length slice - 1) (drop 1 slice) ≡ drop 1 ns
behind-first slice ns same = take_all (length slice - 1) (drop 1 slice) (omega (arith, length-drop 1 slice)) ∙ ap (drop 1) same

-- the state of the numbers of a state's bytes is that state
pub one-state : (saved : Saved) (bytes ns behind : List ℕ) (found : Saved) → ns ≡ numbers_in (length bytes / 8) bytes → AreBytesOf saved bytes
    → behind ≡ drop 1 ns → found ≡ state_in behind → found ≡ saved
one-state saved bytes ns behind found is are rest of =
    of ∙ ap state_in (rest ∙ ap (drop 1) (is ∙ numbers-in saved bytes are)) ∙ state-in saved are.typed

-- a state has the same bytes always
pub same-bytes : (saved found : Saved) (bytes again : List ℕ) → found ≡ saved → AreBytesOf saved bytes → AreBytesOf found again → again ≡ bytes
same-bytes saved found bytes again same are written = written.are ∙ ap bytes_of same ∙ sym are.are

-- how many bytes a state has
pub written-length : (saved : Saved) (bytes : List ℕ) → AreBytesOf saved bytes → length bytes ≡ 112 + 80 * length saved.placed
unfolding bytes_of
written-length saved bytes are =
    let all = bytes-length (numbers_of saved) in
    let more = list-length saved.placed in
    ap length are.are ∙ omega (arith, all, more)

-- bytes are those of one state
pub same-state : (one other : Saved) (bytes : List ℕ) → AreBytesOf one bytes → AreBytesOf other bytes → one ≡ other
same-state one other bytes first second =
    let numbers = sym (numbers-in one bytes first) ∙ numbers-in other bytes second in
    sym (state-in one first.typed) ∙ ap (λ ns. state_in (drop 1 ns)) numbers ∙ state-in other second.typed
