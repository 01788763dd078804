use Rattle.plan_check.proofs.CycleSteps.{missed-none, missed-release}
use Rattle.plan_check.proofs.checking.missed.Goals as goal

pub unreachable-requires : goal.unreachable-requires
unreachable-requires c =
    missed-none c.args.placed.now c.args.cycle c.args.slot c.place_at-place.result c.release_at.result c.requires.well_placed
    c.place_at-place.ensures.current c.requires.last c.release_at.ensures.release c.in-None.is

pub returns : goal.returns
returns c = record {
  breach = missed-release c.args.placed.now c.args.cycle c.args.slot c.place_at-place.result c.in-Some.release c.release_at.result c.requires.well_placed
      c.place_at-place.ensures.current c.requires.last c.release_at.ensures.release c.in-Some.is;
}
