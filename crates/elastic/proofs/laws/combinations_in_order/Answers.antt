-- The choices by their places.
use Rattle.elastic.proofs.Places.{are_choices, by_places, each_choice, in_order}
use Rattle.elastic.proofs.laws.combinations_in_order.Goals as goal

pub returns-clause-taken : goal.returns-clause-taken
returns-clause-taken c = by_places

pub returns-clause-choices : goal.returns-clause-choices
returns-clause-choices c = are_choices

pub returns-clause-each : goal.returns-clause-each
returns-clause-each c = each_choice

pub returns-clause-in_order : goal.returns-clause-in_order
returns-clause-in_order c = in_order
