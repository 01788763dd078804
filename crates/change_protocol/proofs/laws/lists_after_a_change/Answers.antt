use Rattle.std.proofs.Common.{[]}
use Rattle.change_protocol.specs.Malformed.{change_faults, op_faults}
use Rattle.change_protocol.proofs.Allowed.{both-none}
use Rattle.change_protocol.proofs.Kept.{changed-applied}
use Rattle.change_protocol.proofs.WellPlaced.{well_placed-applied}
use Rattle.change_protocol.proofs.laws.lists_after_a_change.Goals as goal

pub returns-clause-changed : goal.returns-clause-changed
returns-clause-changed c placed change well = changed-applied placed change well.in_range

pub returns-clause-well_placed : goal.returns-clause-well_placed
returns-clause-well_placed c placed bounds change room well types formed =
    let parts = both-none (change_faults change.start change.ops) (op_faults placed bounds change.start [] change.ops) formed in
    well_placed-applied placed bounds change room well parts.0 parts.1 types
