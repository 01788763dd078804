use Rattle.std.proofs.Common.{Option, ap, option_map}
use Rattle.admission.specs.declared.decision.RankedTable.{RankedTable}
use Rattle.master_core.proofs.answer.answer_of.Goals as goal
use Rattle.master_core.proofs.answer.answer_of.Goals.{in-None, in-Some+in_ok-made_of-in-Some}
use Rattle.master_core.proofs.Settling.{planned-none, planned-some, table-of}

pub returns-clause-planned : goal.returns-clause-planned
returns-clause-planned c =
    let types = c.in_ok-change.ensures.types in
    let same = c.in_ok-change.ensures.same in
    let decided = c.in_ok-verdict.ensures.decision in
    elim c.match-table-3.branch [
      | in-None w ↦
          planned-none _ _ _ _ _ _ _ types same decided (ap (λ (o : Option RankedTable). option_map (λ t. t.placed) o) w.in-None.is) w.made-is
      | in-Some+in_ok-made_of-in-Some w ↦
          let made = w.in_ok-made_of-in-Some.ensures in
          let ranked = rw w.in-Some.is at c.in_ok-verdict.ensures.ranked in
          planned-some _ _ _ _ _ _ _ types same decided _ _ (ap (λ (o : Option RankedTable). option_map (λ t. t.placed) o) w.in-Some.is) w.made-is made.learned
          (table-of _ _ _ _ _ ranked made.placed made.since made.ranked made.learned)
    ]
