-- Which slot is offered, and how long.
use Rattle.std.proofs.Common.{◌≡◌, ℕ, ◌+◌, ◌-◌, ◌<◌, ◌≤◌, ◌&&◌, Bool, true, false, length, Option, Some, None, ◌⊎◌, inl, inr, refl, sym, ap, ◌∙◌, subst, arith}
use Rattle.std.specs.Prelude.{nat_le, option_map}
use Rattle.std.proofs.lemmas.Bool.{and_left, both_ways, cases_lt, cases_order}
use Rattle.std.proofs.lemmas.Bool.Decides.{nat_tests}
use Rattle.stuff_bound.specs.Stuffing.{worst}
use Rattle.profile.specs.Limits.{first_identifier}
use Rattle.bit_sets.specs.Least.{least_where}
use Rattle.bit_sets.specs.Sets.{has_bit, most_slots}
use Rattle.bit_sets.proofs.Shared.{IsLeastBelow, least_where-least, least_where-of}
use Rattle.node_model.specs.Window.{due_bytes, is_due_slot}
use Rattle.live_node.specs.Live.{LiveView}
use Rattle.live_node.specs.Sending.{ends_by, is_owed, is_ready, may_send, slot_offer}

-- the least number that passes is the one that passes and has none before it
least-is : (n : ℕ) (p : ℕ → Bool) (found : Option ℕ) (k : ℕ) → IsLeastBelow n p found → k < n → p k ≡ true
    → ((i : ℕ) → i < k → p i ≡ false) → found ≡ Some k
least-is n p None k none within passes before = absurd (both_ways (p k) (none k within) passes)
least-is n p (Some j) k some within passes before =
    elim (cases_order j k) [
      | inl same ↦ ap (λ n. Some n) same
      | inr (inl less) ↦ absurd (both_ways (p j) (before j less) some.1)
      | inr (inr more) ↦ absurd (both_ways (p k) (some.2 k more) passes)
    ]

pub least-found : (n : ℕ) (p : ℕ → Bool) (k : ℕ) → k < n → p k ≡ true → ((i : ℕ) → i < k → p i ≡ false) → least_where n p ≡ Some k
least-found n p k within passes before = least-is n p (least_where n p) k (least_where-least n p) within passes before

none-is : (n : ℕ) (p : ℕ → Bool) (found : Option ℕ) → IsLeastBelow n p found → ((i : ℕ) → i < n → p i ≡ false) → found ≡ None
none-is n p None below none = refl
none-is n p (Some j) below none = absurd (both_ways (p j) (none j below.0) below.1)

pub least-none : (n : ℕ) (p : ℕ → Bool) → ((i : ℕ) → i < n → p i ≡ false) → least_where n p ≡ None
least-none n p none = none-is n p (least_where n p) (least_where-least n p) none

-- a frame that ends in time ends in time if it starts earlier, and up to its last start
ends-earlier : (ready : Bool) (end bytes into later : ℕ) → into ≤ later → (ready && ends_by end bytes later) ≡ true
    → (ready && ends_by end bytes into) ≡ true
ends-earlier ready end bytes into later behind may = grind (arith, nat_tests)

ends-still : (ready : Bool) (end bytes into later : ℕ) → later + worst bytes ≤ end → (ready && ends_by end bytes into) ≡ true
    → (ready && ends_by end bytes later) ≡ true
ends-still ready end bytes into later whole may = grind (arith, nat_tests)

ends-whole : (ready : Bool) (end bytes into : ℕ) → (ready && ends_by end bytes into) ≡ true → (ready ≡ true) × (into + worst bytes ≤ end)
ends-whole ready end bytes into may = grind (arith, nat_tests)

false-of : (b : Bool) → (b ≡ true → ⊥) → b ≡ false
false-of true never = absurd (never refl)
false-of false never = refl

module _ (view : LiveView) where
  abbrev end : ℕ
  end = view.state.layout.cycle

  abbrev bytes : ℕ → ℕ
  bytes slot = length (due_bytes view.state slot)

  pub slot-of : (into id : ℕ) → slot_offer view into ≡ Some id
      → (slot : ℕ) × (least_where most_slots (may_send view into) ≡ Some slot) × (id ≡ first_identifier + slot)
  slot-of into id offered = found (least_where most_slots (may_send view into)) refl offered
    where
      found : (least : Option ℕ) → least_where most_slots (may_send view into) ≡ least
          → option_map (λ slot. first_identifier + slot) least ≡ Some id
          → (slot : ℕ) × (least_where most_slots (may_send view into) ≡ Some slot) × (id ≡ first_identifier + slot)
      found None is none = absurd (grind arith)
      found (Some slot) is some = (slot, is, grind arith)

  -- what is known of the slot that is offered
  pub slot-sends : (into slot : ℕ) → least_where most_slots (may_send view into) ≡ Some slot
      → (slot < most_slots) × (is_ready view slot ≡ true) × (into + worst (bytes slot) ≤ end)
  slot-sends into slot is =
      let least = least_where-of most_slots (may_send view into) (Some slot) is in
      let whole = ends-whole (is_ready view slot) end (bytes slot) into least.1 in
      (least.0, whole.0, whole.1)

  -- it is offered as long as its frame ends in time
  pub slot-stays : (into slot later : ℕ) → least_where most_slots (may_send view into) ≡ Some slot → into ≤ later
      → later + worst (bytes slot) ≤ end → least_where most_slots (may_send view later) ≡ Some slot
  slot-stays into slot later is behind whole =
      let least = least_where-of most_slots (may_send view into) (Some slot) is in
      least-found most_slots (may_send view later) slot least.0 (ends-still (is_ready view slot) end (bytes slot) into later whole least.1)
      (λ i before. false-of (may_send view later i) (λ may. both_ways (may_send view into i) (least.2 i before)
      (ends-earlier (is_ready view i) end (bytes i) into later behind may)))

  -- it may be sent earlier too
  pub slot-ready : (early later slot : ℕ) → early ≤ later → may_send view later slot ≡ true → may_send view early slot ≡ true
  slot-ready early later slot before may = ends-earlier (is_ready view slot) end (bytes slot) early later before may

  -- the slots that are ready, as a set
  module _ (into ready : ℕ) (slots : (slot : ℕ) → slot < most_slots → has_bit ready slot ≡ is_ready view slot) where
    not-ready : (slot : ℕ) → slot < most_slots → has_bit ready slot ≡ false → may_send view into slot ≡ false
    not-ready slot within none =
        and_left (is_ready view slot) (ends_by end (bytes slot) into) (sym (slots slot within) ∙ none)

    pub none-ready : None ≡ least_where most_slots (has_bit ready) → None ≡ least_where most_slots (may_send view into)
    none-ready none =
        sym (least-none most_slots (may_send view into)
        (λ slot within. not-ready slot within (least_where-of most_slots (has_bit ready) None (sym none) slot within)))

    pub none-before : (first slot : ℕ) → Some first ≡ least_where most_slots (has_bit ready) → slot < first
        → may_send view into slot ≡ false
    none-before first slot least early =
        let is = least_where-of most_slots (has_bit ready) (Some first) (sym least) in
        not-ready slot (omega (arith, early, is.0)) (is.2 slot early)

-- none before a number, and not that one
pub before-next : (p : ℕ → Bool) (n : ℕ) → ((i : ℕ) → i < n → p i ≡ false) → p n ≡ false → (i : ℕ) → i < n + 1 → p i ≡ false
before-next p n before last i early =
    elim (cases_lt i n) [
      | inl less ↦ before i less
      | inr same ↦ subst (λ k. p k ≡ false) (omega (arith, early, same)) last
    ]
