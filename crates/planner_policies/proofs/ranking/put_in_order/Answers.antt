use Rattle.std.proofs.Common.{ℕ, sym, subst, rules}
use Rattle.std.proofs.lemmas.List.Sorted.{answers_always}
use Rattle.requirement_table.specs.declared.entries.Placed.{Placed}
use Rattle.planner_policies.specs.declared.Policy.{Policy}
use Rattle.planner_policies.specs.Ranked.{AreRanked}
use Rattle.planner_policies.proofs.RankOrder.{ranked-dm, ranked-edf, ranked-rm}
use Rattle.planner_policies.proofs.ranking.put_in_order.Goals as goal

pub returns-in-Rm-clause-order : goal.returns-in-Rm-clause-order
returns-in-Rm-clause-order c =
    let rows = c.sort_unstable_by_key.new.self.items in
    let key : Placed → ℕ × ℕ × ℕ = λ p. (p.entry.period, p.entry.priority, p.entry.slot) in
    let sorted = c.sort_unstable_by_key.ensures.sorted key (answers_always _ _ _ (λ f a r g h. search rules)) in
    let P : Policy → Type 0 = λ policy. AreRanked policy rows in
    subst P (sym c.in-Rm.is) (ranked-rm rows sorted)

pub returns-in-Dm-clause-order : goal.returns-in-Dm-clause-order
returns-in-Dm-clause-order c =
    let rows = c.sort_unstable_by_key-in-Dm.new.self.items in
    let key : Placed → ℕ × ℕ × ℕ = λ p. (p.entry.deadline, p.entry.priority, p.entry.slot) in
    let sorted = c.sort_unstable_by_key-in-Dm.ensures.sorted key (answers_always _ _ _ (λ f a r g h. search rules)) in
    let P : Policy → Type 0 = λ policy. AreRanked policy rows in
    subst P (sym c.in-Dm.is) (ranked-dm rows sorted)

pub returns-in-Edf-clause-order : goal.returns-in-Edf-clause-order
returns-in-Edf-clause-order c =
    let rows = c.sort_unstable_by_key-in-Edf.new.self.items in
    let key : Placed → ℕ × ℕ = λ p. (p.entry.priority, p.entry.slot) in
    let sorted = c.sort_unstable_by_key-in-Edf.ensures.sorted key (answers_always _ _ _ (λ f a r g h. search rules)) in
    let P : Policy → Type 0 = λ policy. AreRanked policy rows in
    subst P (sym c.in-Edf.is) (ranked-edf rows sorted)
