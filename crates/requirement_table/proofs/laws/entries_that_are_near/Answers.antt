use Rattle.requirement_table.proofs.NotOver.{near_of-well_placed, instance_in-near_of, releases_in-near_of}
use Rattle.requirement_table.proofs.laws.entries_that_are_near.Goals as goal

pub returns : goal.returns
returns c = record { well_placed = near_of-well_placed; instances = instance_in-near_of; releases = releases_in-near_of }
