-- A table and rules that C is told stand for those that they were told of.
use Rattle.std.proofs.Common.{◌≡◌, ℕ, nat_eq, List, [], ◌∷◌, map, Option, Some, None, if◌then◌else◌, refl, ap, ◌∙◌}
use Rattle.requirement_table.specs.declared.entries.Placed.{Placed}
use Rattle.planner_policies.specs.declared.Policy.{Policy}
use Rattle.planner_policies.specs.declared.Policy.TheVariants.{Rm, Dm, Edf}
use Rattle.planner_policies.specs.declared.Fill.{Fill}
use Rattle.planner_policies.specs.declared.Fill.TheVariants.{Prefix, Skip}
use Rattle.admission_rules.specs.declared.Rules.{Rules}
use Rattle.c_values.specs.Plain.{placed_of, rules_of, table_of}
use Rattle.c_values.specs.Told.{end_told, fill_told, policy_told, put_of, rules_told}

same-end : (end : Option ℕ) → (if nat_eq (end_told end).0 0 then None else Some (end_told end).1) ≡ end
same-end None = refl
same-end (Some end) = refl

same-placed : (p : Placed) → placed_of (put_of p) ≡ p
same-placed p = ap (λ (end : Option ℕ). record p { end = end }) (same-end p.end)

pub same_table : (placed : List Placed) → table_of (map put_of placed) ≡ placed
unfolding table_of
same_table [] = refl
same_table (p ∷ placed) =
    ap (λ (first : Placed). first ∷ table_of (map put_of placed)) (same-placed p)
    ∙ ap (λ (rest : List Placed). p ∷ rest) (same_table placed)

same-policy : (policy : Policy)
    → (if nat_eq (policy_told policy) 0 then Rm else if nat_eq (policy_told policy) 1 then Dm else Edf) ≡ policy
same-policy Rm = refl
same-policy Dm = refl
same-policy Edf = refl

same-fill : (fill : Fill) → (if nat_eq (fill_told fill) 0 then Prefix else Skip) ≡ fill
same-fill Prefix = refl
same-fill Skip = refl

pub same_rules : (rules : Rules) → rules_of (rules_told rules) ≡ rules
same_rules rules =
    ap (λ (policy : Policy). record rules { policy = policy; fill = if nat_eq (fill_told rules.fill) 0 then Prefix else Skip })
    (same-policy rules.policy)
    ∙ ap (λ (fill : Fill). record rules { fill = fill }) (same-fill rules.fill)
