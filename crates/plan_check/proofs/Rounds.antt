-- Where the test of its loop finds nothing, all entries of a table go round.
use Rattle.std.proofs.Common.{◌≡◌, ℕ, ◌+◌, ◌-◌, ◌%◌, ◌&&◌, Bool, true, false, not, nat_eq, nat_le, Option, option_map, List, All, get_or, refl, ap, arith}
use Rattle.std.specs.List.{list_any}
use Rattle.std.specs.Option.{option_map_or}
use Rattle.std.proofs.lemmas.Bool.{and_from, and_parts, eq-eqb, eqb-true, leb-true}
use Rattle.std.proofs.lemmas.Option.{same_Some}
use Rattle.std.proofs.lemmas.List.Elements.{Contains-get_or}
use Rattle.std.proofs.lemmas.List.Folds.{list_any-from_Any}
use Rattle.requirement_table.specs.declared.entries.Placed.{Placed}
use Rattle.requirement_table.specs.Table.{IsWellPlaced}
use Rattle.requirement_table.proofs.Shared.{GoesRound}
use Rattle.plan_check.specs.PlanKept.{NoSlot, goes_round}

goes_round-parts : (b d : ℕ) (p : Placed) (end : Option ℕ) → p.end ≡ end
    → option_map_or (λ free. nat_le free b) (option_map (λ e. e + p.entry.deadline - 1) end) (nat_le (p.origin + p.entry.phase) b && nat_eq (d % p.entry.period) 0) ≡ true
    → GoesRound b d p
goes_round-parts b d p end is test = grind (arith, and_parts, leb-true, eqb-true, same_Some)

pub GoesRound-from_test : (b d : ℕ) (p : Placed) → goes_round b d p ≡ true → GoesRound b d p
GoesRound-from_test b d p test = goes_round-parts b d p p.end refl test

-- where no slot has a bad entry, all entries go round
pub rounds-of : (placed : List Placed) (b d : ℕ) → IsWellPlaced placed
    → NoSlot (λ slot. list_any (λ p. nat_eq p.entry.slot slot && not (goes_round b d p)) placed) → All (GoesRound b d) placed
rounds-of placed b d well none k e within =
    let p = get_or placed k e in
    GoesRound-from_test b d p (good (goes_round b d p) refl)
  where
    good : (b' : Bool) → goes_round b d (get_or placed k e) ≡ b' → b' ≡ true
    good true is = refl
    good false is =
        let p = get_or placed k e in
        let range = well.in_range k e within in
        let at = Contains-get_or placed k e within in
        let found = list_any-from_Any (λ q. nat_eq q.entry.slot p.entry.slot && not (goes_round b d q)) placed
        (at.0, p, at.1, at.2, and_from (nat_eq p.entry.slot p.entry.slot) (not (goes_round b d p)) (eq-eqb p.entry.slot p.entry.slot refl) (ap not is)) in
        let nothing = none p.entry.slot range.entry.slot in
        absurd (cc)
