-- There is one verdict.
use Rattle.elastic.specs.Combination.{change_of}
use Rattle.admission.specs.declared.verdict.Verdict.TheVariants.{Accepted}
use Rattle.elastic.proofs.laws.chosen_is_accepted.Goals as goal

pub returns : goal.returns
returns c =
    record {
      accepted = λ rules placed pending from wish choice verdict is judged.
          c.one_verdict.ensures.same rules placed pending from from (change_of wish choice.number) verdict (Accepted choice.first choice.length) judged is.accepted;
    }
