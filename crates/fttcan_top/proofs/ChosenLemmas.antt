-- Why something is chosen of the wish of a file, or nothing is: never for want of a period.
use Rattle.std.proofs.Common.{◌≡◌, ℕ, ◌<◌, ◌≤◌, List, length, get_or, sym, ◌∙◌, arith, subst}
use Rattle.std.proofs.lemmas.Option.{same_Some, slice_get-get_or, slice_get_within}
use Rattle.requirement_table.specs.declared.entries.Placed.{Placed}
use Rattle.admission_rules.specs.declared.Rules.{Rules}
use Rattle.elastic.specs.Choice.{IsElasticFault}
use Rattle.elastic.specs.Combination.{IsFirstWithoutPeriod, choices}
use Rattle.elastic.specs.WishesFile.{IsLegalWish}
use Rattle.elastic.specs.declared.choice.ElasticFault.{ElasticFault}
use Rattle.elastic.specs.declared.choice.ElasticFault.TheVariants.{NoPeriod}
use Rattle.elastic.specs.declared.wish.Wish.{Wish}

-- each operation of a file's wish leaves a choice
some_choice : (wish : Wish) → IsLegalWish wish → (place : ℕ) → IsFirstWithoutPeriod wish.ops place → ⊥
some_choice wish legal place first =
    let inside : place < length wish.ops = slice_get_within wish.ops place first.op first.at in
    let same : get_or wish.ops place first.op ≡ first.op =
    same_Some _ _ (sym (slice_get-get_or wish.ops place first.op inside) ∙ first.at) in
    let some : 1 ≤ choices (get_or wish.ops place first.op) = (legal.each place first.op inside).0 in
    let more : 1 ≤ choices first.op = subst (λ op. 1 ≤ choices op) same some in
    omega (arith, more, first.none)

-- so that no operation without one is why nothing is chosen of it
pub no_lack : (rules : Rules) (placed : List Placed) (pending from : ℕ) (wish : Wish) → IsLegalWish wish → (fault : ElasticFault)
    → IsElasticFault rules placed pending from wish fault → (op : ℕ) → fault ≡ NoPeriod op → ⊥
no_lack rules placed pending from wish legal fault is op same =
    some_choice wish legal op (subst (IsElasticFault rules placed pending from wish) same is)
