-- In a well placed list the first entry of a slot that is not over is the only one of the slot that may send.
use Rattle.std.proofs.Common.{◌≡◌, ℕ, zero, suc, ◌+◌, ◌-◌, ◌<◌, ◌≤◌, inl, inr, true, false, Option, Some, None, IfSome, List, length, replicate, get_or, slice_get, slice_index, nat_le, ◌*◌, refl, sym, ap, subst, ◌∙◌, arith}
use Rattle.std.specs.Option.{option_map, option_map_or, IsSomeAnd}
use Rattle.std.proofs.lemmas.Bool.{leb-true, leb-false, cases_lt, cases_eq}
use Rattle.std.proofs.lemmas.Option.{slice_get_within, get_or_from_slice_get}
use Rattle.requirement_table.specs.declared.entries.Placed.{Placed}
use Rattle.requirement_table.specs.Instance.{MaySend, instance_of}
use Rattle.requirement_table.specs.Table.{IsInRange, IsWellPlaced, GoesBefore, free_from, is_over}
use Rattle.bit_sets.specs.Sets.{most_slots}
use Rattle.requirement_table.proofs.Shared.{MaySend-from_instance, instance_of-sent, one_instance}
use Rattle.plan_report.specs.Current.{AreEntriesPassed, IsCurrentInstance, IsTheOne}

pub zeros-at : (n slot : ℕ) → slice_index (replicate n 0) slot ≡ 0
zeros-at zero slot = refl
zeros-at (suc n) zero = refl
zeros-at (suc n) (suc slot) = zeros-at n slot

-- an entry that is over has nothing to send
over-unsendable : (p : Placed) (k c : ℕ) → is_over c p ≡ true → MaySend p k c → ⊥
over-unsendable p k c over sends = by p.end over sends.exists
  where
    by : (end : Option ℕ) → option_map_or (λ from. nat_le from c) (option_map (λ e. e + p.entry.deadline - 1) end) false ≡ true
        → IfSome end (λ e. p.origin + p.entry.phase + k * p.entry.period < e) → ⊥
    by None over exists = cc
    by (Some e) over exists = let free = leb-true (e + p.entry.deadline - 1) c over in let time = sends.in_time in omega arith

-- nor has one whose slot is taken by an earlier entry that is not over
taken-unsendable : (q p : Placed) (k c : ℕ) → is_over c q ≡ false → IsSomeAnd (free_from q) (λ from. from ≤ p.origin) → MaySend p k c → ⊥
taken-unsendable q p k c left free sends = by (free_from q) left free
  where
    by : (from : Option ℕ) → option_map_or (λ f. nat_le f c) from false ≡ false → IsSomeAnd from (λ f. f ≤ p.origin) → ⊥
    by None left free = free
    by (Some f) left free = let later = leb-false f c left in let released = sends.released in omega arith

no-number : (o : Option ℕ) → ((k : ℕ) → o ≡ Some k → ⊥) → o ≡ None
no-number None none = refl
no-number (Some k) none = absurd (none k refl)

-- what is known of the first place: the entries of the slot before it are over, and the one there is not
pub record IsFirst (placed : List Placed) (slot cycle place : ℕ) : Type 0 where
  pub before : (other : ℕ) (p : Placed) → other < place → slice_get placed other ≡ Some p → p.entry.slot ≡ slot → is_over cycle p ≡ true
  pub here : (p : Placed) → slice_get placed place ≡ Some p → (p.entry.slot ≡ slot) × (is_over cycle p ≡ false)

-- as it is found from the place before which all are over
pub is-first : (placed : List Placed) (places : List ℕ) (slot cycle from place : ℕ) → slot < most_slots → AreEntriesPassed placed places cycle
    → from ≡ slice_index places slot
    → ((other : ℕ) (p : Placed) → from ≤ other → other < place → slice_get placed other ≡ Some p → p.entry.slot ≡ slot → is_over cycle p ≡ true)
    → ((p : Placed) → slice_get placed place ≡ Some p → (p.entry.slot ≡ slot) × (is_over cycle p ≡ false))
    → IsFirst placed slot cycle place
is-first placed places slot cycle from place known passed start over left = record {
  before = λ other p before there of_slot.
      elim (cases_lt other from) [
        | inl early ↦ passed slot other p known (omega arith) there of_slot
        | inr late ↦ over other p late before there of_slot
      ];
  here = left;
}

module _ (placed : List Placed) (slot cycle place : ℕ) (well : IsWellPlaced placed) (first : IsFirst placed slot cycle place) where
  none-before : (other : ℕ) (p : Placed) → other < place → slice_get placed other ≡ Some p → p.entry.slot ≡ slot → instance_of p cycle ≡ None
  none-before other p before there of_slot =
      no-number (instance_of p cycle) (λ k sends. over-unsendable p k cycle (first.before other p before there of_slot) (MaySend-from_instance p k cycle sends))

  none-after : (q : Placed) (other : ℕ) (p : Placed) → slice_get placed place ≡ Some q → place < other → slice_get placed other ≡ Some p
      → p.entry.slot ≡ slot → instance_of p cycle ≡ None
  none-after q other p here after there of_slot =
      let goes : GoesBefore (get_or placed place q) (get_or placed other q) = well.in_order place other q after (slice_get_within placed other p there) in
      let pair : GoesBefore q p = subst (λ x. GoesBefore q x) (get_or_from_slice_get placed other p q there)
      (subst (λ x. GoesBefore x (get_or placed other q)) (get_or_from_slice_get placed place q q here) goes) in
      let free = pair ((first.here q here).0 ∙ sym of_slot) in
      no-number (instance_of p cycle) (λ k sends. taken-unsendable q p k cycle (first.here q here).1 free (MaySend-from_instance p k cycle sends))

  -- no entry of the slot stands from the place on
  pub current-past : length placed ≤ place → IsCurrentInstance placed slot cycle None
  current-past past = λ other p there of_slot.
      let within = slice_get_within placed other p there in none-before other p (omega arith) there of_slot

  pub none-elsewhere : (q : Placed) → slice_get placed place ≡ Some q → (other : ℕ) (p : Placed) → slice_get placed other ≡ Some p
      → p.entry.slot ≡ slot → (other ≡ place → ⊥) → instance_of p cycle ≡ None
  none-elsewhere q here other p there of_slot elsewhere =
      elim (cases_lt other place) [
        | inl before ↦ none-before other p before there of_slot
        | inr after ↦ let behind : place < other = omega arith in none-after q other p here behind there of_slot
      ]

  -- the entry there has no instance to send
  pub current-none : (q : Placed) → slice_get placed place ≡ Some q → instance_of q cycle ≡ None → IsCurrentInstance placed slot cycle None
  current-none q here none = λ other p there of_slot.
      elim (cases_eq other place) [
        | inl same ↦
            let one : Some q ≡ Some p = sym here ∙ ap (slice_get placed) (sym same) ∙ there in
            let entry : q ≡ p = cc in
            subst (λ x. instance_of x cycle ≡ None) entry none
        | inr elsewhere ↦ none-elsewhere q here other p there of_slot elsewhere
      ]

  -- it has one
  pub current-some : (q : Placed) (k : ℕ) → slice_get placed place ≡ Some q → instance_of q cycle ≡ Some k
      → IsTheOne placed slot cycle (record { place = place; placed = q; number = k })
  current-some q k here sends = record {
    within = slice_get_within placed place q here;
    here = here;
    of_slot = (first.here q here).0;
    instance = sends;
    alone = λ other p there of_slot elsewhere. none-elsewhere q here other p there of_slot elsewhere;
  }

-- an entry of the slot of which an instance may be sent is the only one
pub the-one : (placed : List Placed) (slot cycle place : ℕ) (p : Placed) (number : ℕ) → IsWellPlaced placed → slice_get placed place ≡ Some p
    → p.entry.slot ≡ slot → MaySend p number cycle → IsTheOne placed slot cycle (record { place = place; placed = p; number = number })
the-one placed slot cycle place p number well here of_slot sends =
    let within = slice_get_within placed place p here in
    let range : IsInRange p = subst IsInRange (get_or_from_slice_get placed place p p here) (well.in_range place p within) in
    record {
      within = within;
      here = here;
      of_slot = of_slot;
      instance = instance_of-sent p number cycle range.entry.deadline sends;
      alone = λ other q there same elsewhere.
          no-number (instance_of q cycle) (λ k found.
          elsewhere (one_instance placed well other place k number cycle q p there here (same ∙ sym of_slot)
          (MaySend-from_instance q k cycle found) sends).0);
    }
