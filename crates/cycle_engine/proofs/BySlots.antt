-- The frames of a set of slots, in the order of the slots.
use Rattle.std.proofs.Common.{◌≡◌, ◌≢◌, ℕ, zero, suc, ◌+◌, ◌<◌, ◌≤◌, ◌&&◌, true, false, not, cond, nat_eq, List, [], ◌∷◌, ◌++◌, append_assoc, Option, None, Some, is_some, inl, inr, refl, sym, ap, ◌∙◌, arith}
use Rattle.std.specs.List.{cons_option, filter_map, range_with_len}
use Rattle.std.specs.Prelude.{nat_lt}
use Rattle.std.proofs.lemmas.Bool.{cases_eq, eq-eqb, ne_eqb, lt-ltb, le-ltb, cond-true, cond-false}
use Rattle.can_frame.specs.DataFrame.{DataFrame}
use Rattle.can_frame.specs.Wire.{wire_length}
use Rattle.can_frame.specs.declared.data_frame.TimedFrame.{TimedFrame}
use Rattle.bit_sets.specs.Sets.{has_bit, most_slots}
use Rattle.bit_sets.specs.Least.{least_where}
use Rattle.node_model.specs.Node.{NodeState}
use Rattle.bit_sets.proofs.Shared.{least-of, none-of}
use Rattle.cycle_engine.specs.SyncWindow.{back_to_back, by_slots, due_among, due_by, due_frames}

module _ {X : Type 0} where
  -- functions that give the same of some numbers
  given-same : (f g : ℕ → Option X) (n k : ℕ) → ((i : ℕ) → k ≤ i → i < k + n → f i ≡ g i)
      → filter_map f (range_with_len k n) ≡ filter_map g (range_with_len k n)
  given-same f g zero k same = refl
  given-same f g (suc n) k same =
      ap (λ o. cons_option o (filter_map f (range_with_len (k + 1) n))) (same k (omega arith) (omega arith))
      ∙ ap (cons_option (g k)) (given-same f g n (k + 1) (λ i low high. same i (omega arith) (omega arith)))

  given-none : (f : ℕ → Option X) (n k : ℕ) → ((i : ℕ) → k ≤ i → i < k + n → f i ≡ None) → filter_map f (range_with_len k n) ≡ []
  given-none f zero k none = refl
  given-none f (suc n) k none =
      ap (λ o. cons_option o (filter_map f (range_with_len (k + 1) n))) (none k (omega arith) (omega arith))
      ∙ given-none f n (k + 1) (λ i low high. none i (omega arith) (omega arith))

  -- the first value that a function gives, and what it gives behind that
  given-first : (f g : ℕ → Option X) (x : X) (s : ℕ) (n k : ℕ) → k ≤ s → s < k + n → ((i : ℕ) → i < s → f i ≡ None)
      → f s ≡ Some x → g s ≡ None → ((i : ℕ) → i ≢ s → g i ≡ f i)
      → filter_map f (range_with_len k n) ≡ x ∷ filter_map g (range_with_len k n)
  given-first f g x s zero k from within none first gone same = absurd (omega arith)
  given-first f g x s (suc n) k from within none first gone same = elim (cases_eq s k) [
    | inl here ↦
        let rest = range_with_len (k + 1) n in
        let behind : filter_map g rest ≡ filter_map f rest = given-same g f n (k + 1) (λ i low high. same i (λ at. omega (arith, at, here, low))) in
        ap (λ o. cons_option o (filter_map f rest)) (ap f (sym here) ∙ first)
        ∙ ap (λ xs. x ∷ xs) (sym behind)
        ∙ ap (λ o. x ∷ cons_option o (filter_map g rest)) (sym (ap g (sym here) ∙ gone))
    | inr other ↦
        let rest = range_with_len (k + 1) n in
        let before : k < s = omega (arith, from, other) in
        ap (λ o. cons_option o (filter_map f rest)) (none k before)
        ∙ given-first f g x s n (k + 1) (omega (arith, before)) (omega (arith, within)) none first gone same
        ∙ ap (λ o. x ∷ cons_option o (filter_map g rest)) (sym (same k (λ at. omega (arith, at, before)) ∙ none k before))
  ]

among-not : (nodes : List NodeState) (set slot : ℕ) → has_bit set slot ≡ false → due_among nodes set slot ≡ None
among-not nodes set slot lacks = ap (λ b. cond b (due_by nodes slot) None) lacks

among-is : (nodes : List NodeState) (set slot : ℕ) → has_bit set slot ≡ true → due_among nodes set slot ≡ due_by nodes slot
among-is nodes set slot has = ap (λ b. cond b (due_by nodes slot) None) has

-- a set that is empty has no frames
pub among-none : (nodes : List NodeState) (set : ℕ) → least_where most_slots (has_bit set) ≡ None → by_slots (due_among nodes set) ≡ []
unfolding by_slots
among-none nodes set none =
    let empty = none-of set none in
    given-none (due_among nodes set) most_slots 0 (λ i low high. among-not nodes set i (empty i (omega (arith, high))))

-- the frame of the least slot of a set stands before those of the others
pub among-first : (nodes : List NodeState) (set rest slot : ℕ) (frame : DataFrame) → least_where most_slots (has_bit set) ≡ Some slot
    → ((s : ℕ) → has_bit rest s ≡ (not (nat_eq s slot) && has_bit set s)) → due_by nodes slot ≡ Some frame
    → by_slots (due_among nodes set) ≡ frame ∷ by_slots (due_among nodes rest)
unfolding by_slots
among-first nodes set rest slot frame is without due =
    let least = least-of set slot is in
    given-first (due_among nodes set) (due_among nodes rest) frame slot most_slots 0 (omega arith) (omega (arith, least.0))
    (λ i below. among-not nodes set i (least.2 i below))
    (among-is nodes set slot least.1 ∙ due)
    (among-not nodes rest slot (without slot ∙ ap (λ b. not b && has_bit set slot) (eq-eqb slot slot refl)))
    (λ i other. ap (λ b. cond b (due_by nodes i) None) (without i ∙ ap (λ b. not b && has_bit set i) (ne_eqb i slot other)))

-- where a set has the slots that nodes are to send, its frames are all of theirs
pub among-all : (nodes : List NodeState) (set : ℕ) → ((slot : ℕ) → slot < most_slots → has_bit set slot ≡ is_some (due_by nodes slot))
    → by_slots (due_among nodes set) ≡ due_frames nodes
unfolding by_slots
among-all nodes set each = given-same (due_among nodes set) (due_by nodes) most_slots 0 (λ i low high. grind arith)

-- one more frame is put
pub put-more : (out new total : List TimedFrame) (frames later : List DataFrame) (frame : DataFrame) (at len until : ℕ) → frames ≡ frame ∷ later → at < until
    → len ≡ wire_length frame → new ≡ out ++ record { start = at; len = len; frame = frame } ∷ [] → out ++ back_to_back frames at until ≡ total
    → new ++ back_to_back later (at + len) until ≡ total
put-more out new total frames later frame at len until is early long put so_far = grind (arith, append_assoc, cond-true, lt-ltb)

-- nothing more is put from `until` on
pub put-late : (frames : List DataFrame) (at until : ℕ) → until ≤ at → back_to_back frames at until ≡ []
put-late [] at until late = refl
put-late (frame ∷ later) at until late = cond-false (nat_lt at until) _ _ (le-ltb at until late)
