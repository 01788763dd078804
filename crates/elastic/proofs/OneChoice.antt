-- At most one combination is chosen.
use Rattle.std.proofs.Common.{◌≡◌, inl, inr, ℕ, ◌<◌, ◌≤◌, All, true, false, List, length, get_or, slice_get, Some, refl, sym, ap, ◌∙◌, arith, subst}
use Rattle.std.proofs.lemmas.Bool.{cases_order}
use Rattle.std.proofs.lemmas.Option.{same_Some, slice_get-get_or, slice_get_within}
use Rattle.requirement_table.specs.declared.entries.Placed.{Placed}
use Rattle.admission_rules.specs.declared.Rules.{Rules}
use Rattle.admission.specs.Verdict.{IsVerdict, is_accepted}
use Rattle.admission.specs.declared.verdict.Verdict.{Verdict}
use Rattle.admission.specs.declared.verdict.Verdict.TheVariants.{Accepted}
use Rattle.elastic.specs.Choice.{AreRefused, IsChoice, IsElasticFault, IsVerdictOn}
use Rattle.elastic.specs.Combination.{HasChoice, change_of, choices, combinations, operations_in, periods_of}
use Rattle.elastic.specs.declared.choice.Choice.{Choice}
use Rattle.elastic.specs.declared.choice.ElasticFault.{ElasticFault}
use Rattle.elastic.specs.declared.choice.ElasticFault.TheVariants.{NoPeriod, TooMany, NoneFits, Memory}
use Rattle.elastic.specs.declared.wish.Wish.{Wish}
use Rattle.elastic.specs.declared.wish.WishOp.{WishOp}
use Rattle.change_protocol.specs.declared.operations.Change.{Change}

true-false : true ≡ false → ⊥
true-false e = absurd (cc)

same_first : (first len other more : ℕ) → Accepted first len ≡ Accepted other more → first ≡ other
same_first first len other more e = cc

same_length : (first len other more : ℕ) → Accepted first len ≡ Accepted other more → len ≡ more
same_length first len other more e = cc

same_fields : (number first len number' first' len' : ℕ) (periods periods' : List ℕ) → number ≡ number' → periods ≡ periods' → first ≡ first' → len ≡ len'
    → ◌≡◌ {A = Choice} (record { number = number; periods = periods; first = first; length = len }) (record { number = number'; periods = periods'; first = first'; length = len' })
same_fields number first len number' first' len' periods periods' a b c d = rw (a, b, c, d) refl

-- an operation without a choice is not among those that leave one
empty : (ops : List WishOp) (place : ℕ) (op : WishOp) → slice_get ops place ≡ Some op → choices op ≡ 0 → All HasChoice ops → ⊥
empty ops place op at none all =
    let inside : place < length ops = slice_get_within ops place op at in
    let same : get_or ops place op ≡ op = same_Some _ _ (sym (slice_get-get_or ops place op inside) ∙ at) in
    let some : 1 ≤ choices (get_or ops place op) = all place op inside in
    let more : 1 ≤ choices op = rw same at some in
    omega (arith, more, none)

module _ (rules : Rules) (placed : List Placed) (pending from : ℕ) (wish : Wish)
    (one_verdict : (change : Change) (one other : Verdict) → IsVerdict rules placed pending from from change one → IsVerdict rules placed pending from from change other → one ≡ other) where
  -- what is accepted is not among those that are refused
  not_refused : (count number first len : ℕ) (verdicts : List Verdict) → AreRefused rules placed pending from wish count verdicts
      → number < count → IsVerdictOn rules placed pending from wish number (Accepted first len) → ⊥
  not_refused count number first len verdicts refused below accepted =
      let d = Accepted first len in
      let inside : number < length verdicts = omega (arith, below, refused.as_many) in
      let at : slice_get verdicts number ≡ Some (get_or verdicts number d) = slice_get-get_or verdicts number d inside in
      let same : get_or verdicts number d ≡ d = one_verdict (change_of wish number) (get_or verdicts number d) d (refused.each number (get_or verdicts number d) at) accepted in
      let no : is_accepted (get_or verdicts number d) ≡ false = refused.none number d inside in
      let yes : is_accepted (get_or verdicts number d) ≡ true = ap is_accepted same in
      true-false (sym yes ∙ no)

  module _ (one other : Choice) (is_one : IsChoice rules placed pending from wish one) (is_other : IsChoice rules placed pending from wish other) where
    same_number : one.number ≡ other.number
    same_number =
        elim (cases_order one.number other.number) [
          | inl same ↦ same
          | inr rest ↦
              elim rest [
                | inl before ↦ absurd (not_refused other.number one.number one.first one.length is_other.least.verdicts is_other.least.are before is_one.accepted)
                | inr after ↦ absurd (not_refused one.number other.number other.first other.length is_one.least.verdicts is_one.least.are after is_other.accepted)
              ]
        ]

    pub same_choice : one ≡ other
    same_choice =
        let accepted : IsVerdictOn rules placed pending from wish other.number (Accepted one.first one.length)
        = subst (λ n. IsVerdictOn rules placed pending from wish n (Accepted one.first one.length)) same_number is_one.accepted in
        let numbers = one_verdict (change_of wish other.number) (Accepted one.first one.length) (Accepted other.first other.length) accepted is_other.accepted in
        let periods = is_one.periods ∙ ap (λ n. periods_of (operations_in n wish.ops)) same_number ∙ sym is_other.periods in
        same_fields one.number one.first one.length other.number other.first other.length one.periods other.periods same_number periods
        (same_first one.first one.length other.first other.length numbers) (same_length one.first one.length other.first other.length numbers)

  -- what is chosen leaves no other fault than want of memory
  pub no_fault : (choice : Choice) (fault : ElasticFault) → IsChoice rules placed pending from wish choice → IsElasticFault rules placed pending from wish fault → fault ≡ Memory
  no_fault choice (NoPeriod op) is faulty = absurd (empty wish.ops op faulty.op faulty.at faulty.none is.choosable.each)
  no_fault choice (TooMany count) is faulty = absurd (omega (arith, is.choosable.few, faulty.1.many))
  no_fault choice (NoneFits verdicts) is faulty =
      absurd (not_refused (combinations wish.ops) choice.number choice.first choice.length verdicts faulty.1 is.below is.accepted)
  no_fault choice Memory is faulty = refl
