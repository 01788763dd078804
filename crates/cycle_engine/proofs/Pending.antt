-- Which slots are pending, and how one more frame changes that.
use Rattle.std.proofs.Common.{◌≡◌, ℕ, ◌+◌, ◌≤◌, ◌&&◌, ◌||◌, not, eqb, leb, Bool, true, false, List, [], ◌∷◌, ◌++◌, get_or, ap, ◌∙◌, inl, inr}
use Rattle.std.proofs.lemmas.Bool.{cases_eq, cases_lt, both_ways, and_from, and_left, and_right, eq-eqb, ne_eqb, le-leb, lt-leb, or_right, not_from_true}
use Rattle.std.proofs.lemmas.List.Folds.{list_any-append, list_any-from_Any, list_any_none}
use Rattle.std.proofs.lemmas.List.{get_or_default}
use Rattle.std.proofs.Math.Bool.{or-false}
use Rattle.std.specs.List.{Any}
use Rattle.profile.specs.Limits.{first_identifier}
use Rattle.can_frame.specs.declared.data_frame.TimedFrame.{TimedFrame}
use Rattle.cycle_layout.specs.Layout.{CycleLayout}
use Rattle.bit_sets.specs.Sets.{has_bit}
use Rattle.requirement_table.specs.Table.{width_in}
use Rattle.requirement_table.specs.Opening.{Opening}
use Rattle.node_model.specs.Opening.{start_of}
use Rattle.node_model.specs.Offered.{IsUnsent}
use Rattle.node_model.specs.Own.{was_sent}

-- whether the slot is flagged and was not sent yet
abbrev pub is_pending : CycleLayout → Opening → List TimedFrame → ℕ → Bool
is_pending layout opening past slot = has_bit opening.mask slot && not (was_sent layout opening past slot)

-- what the pending slots cost together, in bit times
abbrev pub pending_width : CycleLayout → Opening → List TimedFrame → ℕ
pending_width layout opening past = width_in opening.placed opening.cycle (is_pending layout opening past)

-- whether the frame is one of the slot, from the cycle's start on
abbrev pub is_of : CycleLayout → Opening → ℕ → TimedFrame → Bool
is_of layout opening slot sent = eqb sent.frame.identifier (first_identifier + slot) && leb (start_of layout opening) sent.start

-- a slot of which no frame was sent is unsent
pub IsUnsent-from_test : (layout : CycleLayout) (opening : Opening) (past : List TimedFrame) (slot : ℕ)
    → was_sent layout opening past slot ≡ false → IsUnsent layout opening slot past
IsUnsent-from_test layout opening past slot none k d within same =
    elim (cases_lt (get_or past k d).start (start_of layout opening)) [
      | inl early ↦ early
      | inr late ↦
          let passes : is_of layout opening slot (get_or past k d) ≡ true =
          and_from _ _ (eq-eqb _ _ same) (le-leb _ _ late) in
          let found : Any (λ x. is_of layout opening slot x ≡ true) past = (k, get_or past k d, within, get_or_default past k (get_or past k d) d within, passes) in
          absurd (both_ways _ none (list_any-from_Any (is_of layout opening slot) past found))
    ]

-- and the other way round
pub was_sent-from_unsent : (layout : CycleLayout) (opening : Opening) (past : List TimedFrame) (slot : ℕ)
    → IsUnsent layout opening slot past → was_sent layout opening past slot ≡ false
was_sent-from_unsent layout opening past slot unsent =
    list_any_none (is_of layout opening slot) past (λ k d within.
    elim (cases_eq (get_or past k d).frame.identifier (first_identifier + slot)) [
      | inl same ↦ and_right _ _ (lt-leb _ _ (unsent k d within same))
      | inr other ↦ and_left _ _ (ne_eqb _ _ other)
    ])

-- one more frame
pub was_sent-push : (layout : CycleLayout) (opening : Opening) (past : List TimedFrame) (sent : TimedFrame) (slot : ℕ)
    → was_sent layout opening (past ++ sent ∷ []) slot ≡ (was_sent layout opening past slot || (is_of layout opening slot sent || false))
was_sent-push layout opening past sent slot = list_any-append (is_of layout opening slot) past (sent ∷ [])

-- the slot that is sent is pending no more
pub is_pending-sent : (layout : CycleLayout) (opening : Opening) (past : List TimedFrame) (sent : TimedFrame) (slot : ℕ)
    → sent.frame.identifier ≡ first_identifier + slot → start_of layout opening ≤ sent.start
    → is_pending layout opening (past ++ sent ∷ []) slot ≡ false
is_pending-sent layout opening past sent slot same late =
    let now : was_sent layout opening (past ++ sent ∷ []) slot ≡ true =
    was_sent-push layout opening past sent slot
    ∙ or_right (was_sent layout opening past slot) _ (ap (λ b. b || false) (and_from _ _ (eq-eqb _ _ same) (le-leb _ _ late))) in
    and_right (has_bit opening.mask slot) _ (not_from_true _ now)

-- the other slots are as they were
pub is_pending-other : (layout : CycleLayout) (opening : Opening) (past : List TimedFrame) (sent : TimedFrame) (slot : ℕ)
    → (sent.frame.identifier ≡ first_identifier + slot → ⊥)
    → is_pending layout opening (past ++ sent ∷ []) slot ≡ is_pending layout opening past slot
is_pending-other layout opening past sent slot other =
    let not_it : is_of layout opening slot sent ≡ false = and_left _ _ (ne_eqb _ _ other) in
    let same : was_sent layout opening (past ++ sent ∷ []) slot ≡ was_sent layout opening past slot =
    was_sent-push layout opening past sent slot ∙ ap (λ b. was_sent layout opening past slot || (b || false)) not_it ∙ or-false _ in
    ap (λ b. has_bit opening.mask slot && not b) same
