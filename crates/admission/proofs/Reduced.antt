-- A list without the entries that are over is planned as the whole list is.
use Rattle.std.proofs.Common.{◌≡◌, ℕ, ◌+◌, ◌≤◌, Bool, not, Option, Some, None, List, [], ◌∷◌, All, map, max, sym, ◌∙◌, subst, arith}
use Rattle.std.specs.List.{fold}
use Rattle.std.proofs.Math.Nat.{le-max_left, le-max_right, le_trans}
use Rattle.std.proofs.lemmas.List.Elements.{All-cons, All-filter}
use Rattle.requirement_table.specs.declared.entries.Placed.{Placed}
use Rattle.requirement_table.specs.Table.{IsWellPlaced, instance_in, is_over, not_over, releases_in}
use Rattle.requirement_table.proofs.Shared.{instance_in-not_over, releases_in-not_over}
use Rattle.planner_policies.specs.declared.Policy.{Policy}
use Rattle.planner_policies.specs.Loop.{RepeatsFrom, settled_at}
use Rattle.planner_policies.specs.Plan.{IsMissAt, IsValid, Ranking, by_number, planning_of}
use Rattle.admission.specs.declared.decision.Decision.{Decision}
use Rattle.admission.specs.Recurrence.{IsCommonPeriod, bound_of}
use Rattle.admission.specs.Period.{IsPeriodUpTo}
use Rattle.admission.specs.Verdict.{IsMissDecision}
use Rattle.admission.proofs.Cycles.{IsLike, same-masks, same-missed}
use Rattle.admission.proofs.Same.{IsRepeating}

by-same : (a b a' b' : ℕ) (rest other : Bool) → a ≡ a' → b ≡ b' → rest ≡ other → by_number a b rest ≡ by_number a' b' other
by-same a b a' b' rest other first second third = cc

-- lists with the same instances in a cycle
pub like-instances : (policy : Policy) (one other : List Placed) (c : ℕ)
    → ((slot : ℕ) → instance_in one slot c ≡ instance_in other slot c) → ((slot : ℕ) → releases_in one c slot ≡ releases_in other c slot)
    → IsLike policy one other c c
like-instances policy one other c instances releases = grind (arith, by-same)

-- the list without the entries that are over
pub like-reduced : (policy : Policy) (placed : List Placed) (from n : ℕ) → IsWellPlaced placed
    → IsLike policy (not_over from placed) placed (from + n) (from + n)
like-reduced policy placed from n well = grind (arith, like-instances, instance_in-not_over, releases_in-not_over)

pub held-reduced : (placed : List Placed) (from pending : ℕ) → IsValid placed from pending → IsValid (not_over from placed) from pending
held-reduced placed from pending h0 = grind (arith, instance_in-not_over)

-- what is missed in the one planning is missed in the other
module _ (ranking : Ranking) (window from pending n : ℕ) (well : IsWellPlaced ranking.placed) where
  abbrev fewer : Ranking
  fewer = record ranking { placed = not_over from ranking.placed }

  like-each : (m : ℕ) → IsLike ranking.policy (not_over from ranking.placed) ranking.placed (from + m) (from + m)
  like-each m = like-reduced ranking.policy ranking.placed from m well

  pub miss-reduced : (slot release : ℕ) → IsMissAt (planning_of fewer window from pending) n slot release
      → IsMissAt (planning_of ranking window from pending) n slot release
  miss-reduced slot release miss =
      let same = same-missed fewer ranking.placed window from pending n (λ m below. like-each m) in
      let known = miss.known in
      record {
        known = known;
        missed = sym (same slot known) ∙ miss.missed;
        least = λ other less. sym (same other (omega arith)) ∙ miss.least other less;
        instance = miss.instance;
        found = sym (instance_in-not_over from ranking.placed slot (from + n) (omega arith)) ∙ miss.found;
        released = miss.released;
      }

  pub decision-reduced : (decision : Decision) → IsMissDecision (planning_of fewer window from pending) n decision
      → IsMissDecision (planning_of ranking window from pending) n decision
  decision-reduced decision is = record {
    slot = is.slot;
    release = is.release;
    answer = is.answer;
    miss = miss-reduced is.slot is.release is.miss;
    list = is.list;
    plan = is.plan ∙ same-masks fewer ranking.placed window from pending (n + 1) (λ m below. like-each m);
  }

-- each entry has settled by the bound

fold-above : (from : ℕ) (ns : List ℕ) → from ≤ fold max from ns
fold-above from [] = omega arith
fold-above from (n ∷ ns) = le_trans (le-max_left from n) (fold-above (max from n) ns)

pub settled-by : (from : ℕ) (placed : List Placed) → All (λ p. settled_at p ≤ bound_of from placed) placed
settled-by from [] = λ i d within. absurd (omega arith)
settled-by from (p ∷ placed) =
    All-cons (λ q. settled_at q ≤ bound_of (max from (settled_at p)) placed) p placed
    (le_trans (le-max_right from (settled_at p)) (fold-above (max from (settled_at p)) (map settled_at placed)))
    (settled-by (max from (settled_at p)) placed)

pub bound-above : (from : ℕ) (placed : List Placed) → from ≤ bound_of from placed
bound-above from placed = fold-above from (map settled_at placed)

-- so it repeats after a common period
pub repeats-all : (from length' : ℕ) (placed : List Placed) → IsCommonPeriod placed length' → All (RepeatsFrom (bound_of from placed) length') placed
repeats-all from length' placed h0 = grind (arith, settled-by)

pub repeating-reduced : (from limit length' : ℕ) (placed : List Placed) (period : Option ℕ) → IsWellPlaced placed → IsPeriodUpTo limit placed period
    → period ≡ Some length' → IsRepeating (bound_of from placed) length' (not_over from placed)
repeating-reduced from limit length' placed None well upto is = absurd (cc)
repeating-reduced from limit length' placed (Some found) well upto is =
    let same : found ≡ length' = grind arith in
    let common : IsCommonPeriod placed length' = subst (λ n. IsCommonPeriod placed n) same upto.0.common in
    record {
      positive = common.positive;
      repeats = All-filter (λ p. not (is_over from p)) (RepeatsFrom (bound_of from placed) length') placed (repeats-all from length' placed common);
      some_time = All-filter (λ p. not (is_over from p)) (λ p. 1 ≤ p.entry.deadline) placed
          (λ i d within. let range = well.in_range i d within in range.entry.some_time);
    }
