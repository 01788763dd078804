-- There is one verdict, and so one choice.
use Rattle.elastic.proofs.OneChoice.{no_fault, same_choice}
use Rattle.elastic.proofs.laws.one_choice.Goals as goal

pub returns-clause-same : goal.returns-clause-same
returns-clause-same c rules placed pending from wish one other is_one is_other =
    same_choice rules placed pending from wish (c.one_verdict.ensures.same rules placed pending from from) one other is_one is_other

pub returns-clause-no_fault : goal.returns-clause-no_fault
returns-clause-no_fault c rules placed pending from wish choice fault is faulty =
    no_fault rules placed pending from wish (c.one_verdict.ensures.same rules placed pending from from) choice fault is faulty
