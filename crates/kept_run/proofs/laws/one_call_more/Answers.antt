use Rattle.kept_run.proofs.Histories.{legal-but_last, legal-parts, legal-push}
use Rattle.kept_run.proofs.laws.one_call_more.Goals as goal

pub returns-clause-legal : goal.returns-clause-legal
returns-clause-legal c = λ rules history event.
    (legal-but_last rules history event, λ both. legal-push rules history event both.0 both.1)

pub returns-clause-front : goal.returns-clause-front
returns-clause-front c = λ rules history later legal. (legal-parts rules history later legal).0
