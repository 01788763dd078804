use Rattle.requirement_table.proofs.NotOver.{not_over-well_placed, instance_in-not_over, releases_in-not_over}
use Rattle.requirement_table.proofs.laws.entries_that_are_over.Goals as goal

pub returns : goal.returns
returns c = record { well_placed = not_over-well_placed; instances = instance_in-not_over; releases = releases_in-not_over }
