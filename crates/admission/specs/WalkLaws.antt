-- What a walk over the states of a planning owes of them.
use Rattle.std.specs.Prelude.{◌≡◌, ℕ, ◌+◌, ◌%◌, ◌↔◌}
use Rattle.std.specs.Prelude.{Bool, true, false, nat_eq, nat_le, if◌then◌else◌, Option, Some, None}
use Rattle.std.proofs.Common.{ap, sym, ◌∙◌, subst}
use Rattle.std.proofs.Math.Nat.{le-add_right, le_trans, mod-add-mod}
use Rattle.std.proofs.lemmas.Bool.{cond-true, le-leb, leb-true}
use Rattle.std.proofs.lemmas.Option.{cond_some, none-some}
use Rattle.planner_policies.specs.declared.state.PlanState.{PlanState}
use Rattle.planner_policies.specs.Plan.{Ranking}
use Rattle.recurrence_check.specs.Course.{GoOnAlike}
use Rattle.admission.specs.Course.{IsSame, key_in_period, left_from, missed_from, state_behind}

pub same-symmetric : (bound : ℕ) (period : Option ℕ) (one other : PlanState)
    → IsSame bound period one other → IsSame bound period other one
same-symmetric bound None one other same = absurd same
same-symmetric bound (Some length) one other same = record {
  one_settled = same.other_settled;
  other_settled = same.one_settled;
  place = sym same.place;
  pending = sym same.pending;
}

pub same-transitive : (bound : ℕ) (period : Option ℕ) (one other third : PlanState)
    → IsSame bound period one other → IsSame bound period other third → IsSame bound period one third
same-transitive bound None one other third first second = absurd first
same-transitive bound (Some length) one other third first second = record {
  one_settled = first.one_settled;
  other_settled = second.other_settled;
  place = first.place ∙ second.place;
  pending = first.pending ∙ second.pending;
}

-- the slots that are missed and those that are left are the same after states that are the same
abbrev pub GoesOnAlike : Ranking → ℕ → ℕ → Option ℕ → Type 0
GoesOnAlike ranking window bound period = (one other : PlanState) → IsSame bound period one other
    → (missed_from ranking window one ≡ missed_from ranking window other)
    × (left_from ranking window one ≡ left_from ranking window other)

same-behind : (bound : ℕ) (period : Option ℕ) (one other : PlanState) (left remains : ℕ)
    → IsSame bound period one other → left ≡ remains
    → IsSame bound period (record { cycle = one.cycle + 1; pending = left })
    (record { cycle = other.cycle + 1; pending = remains })
same-behind bound None one other left remains same both = absurd same
same-behind bound (Some length) one other left remains same both = record {
  one_settled = le_trans same.one_settled (le-add_right one.cycle 1);
  other_settled = le_trans same.other_settled (le-add_right other.cycle 1);
  place = sym (mod-add-mod one.cycle length 1)
      ∙ ap (λ n. (n + 1) % length) same.place ∙ mod-add-mod other.cycle length 1;
  pending = both;
}

go-on : (bound : ℕ) (period : Option ℕ) (test : Bool) (one other : PlanState) → IsSame bound period one other
    → GoOnAlike (IsSame bound period) (if test then Some one else None) (if test then Some other else None)
go-on bound period true one other same = same
go-on bound period false one other same = tt

pub kept : (ranking : Ranking) (window bound : ℕ) (period : Option ℕ)
    → GoesOnAlike ranking window bound period → (one other : PlanState)
    → IsSame bound period one other
    → GoOnAlike (IsSame bound period) (state_behind ranking window one) (state_behind ranking window other)
kept ranking window bound period goes_on one other same =
    let on = goes_on one other same in
    let here : PlanState = record { cycle = one.cycle + 1; pending = left_from ranking window one } in
    let there : PlanState = record { cycle = other.cycle + 1; pending = left_from ranking window other } in
    subst
    (λ (missed : ℕ). GoOnAlike (IsSame bound period)
    (state_behind ranking window one) (if nat_eq missed 0 then Some there else None))
    on.0
    (go-on bound period (nat_eq (missed_from ranking window one) 0) here there
    (same-behind bound period one other (left_from ranking window one) (left_from ranking window other) same on.1))

pair-same : (a b c d : ℕ) → a ≡ c → b ≡ d → ◌≡◌ {A = ℕ × ℕ} (a, b) (c, d)
pair-same a b c d first second =
    let left : ℕ → ℕ × ℕ = λ n. (n, b) in
    let right : ℕ → ℕ × ℕ = λ n. (c, n) in
    ap left first ∙ ap right second

pub keyed : (bound : ℕ) (period : Option ℕ)
    → (one other : PlanState)
    → IsSame bound period one other
    ↔ ((key : ℕ × ℕ) × (key_in_period bound period one ≡ Some key) × (key_in_period bound period other ≡ Some key))
keyed bound None one other = (λ same. absurd same, λ keys. none-some keys.0 keys.1)
keyed bound (Some length) one other = (
  λ same.
      let first : ℕ × ℕ = (one.pending, one.cycle % length) in
      let second : ℕ × ℕ = (other.pending, other.cycle % length) in
      let equal : second ≡ first =
      pair-same other.pending (other.cycle % length) one.pending (one.cycle % length) (sym same.pending) (sym same.place) in (
        first,
        cond-true (nat_le bound one.cycle) (Some first) None (le-leb bound one.cycle same.one_settled),
        cond-true (nat_le bound other.cycle) (Some second) None (le-leb bound other.cycle same.other_settled)
            ∙ ap (λ (key : ℕ × ℕ). Some key) equal,
      ),
  λ keys.
      let first = cond_some (nat_le bound one.cycle) (one.pending, one.cycle % length) keys.0 keys.1 in
      let second = cond_some (nat_le bound other.cycle) (other.pending, other.cycle % length) keys.0 keys.2 in
      let equal : ◌≡◌ {A = ℕ × ℕ} (one.pending, one.cycle % length) (other.pending, other.cycle % length) =
      first.1 ∙ sym second.1 in
      record {
        one_settled = leb-true bound one.cycle first.0;
        other_settled = leb-true bound other.cycle second.0;
        place = ap (λ (key : ℕ × ℕ). key.1) equal;
        pending = ap (λ (key : ℕ × ℕ). key.0) equal;
      },
)
