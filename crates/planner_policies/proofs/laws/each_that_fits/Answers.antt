use Rattle.planner_policies.proofs.EachThatFits.{front-planned, left-too-wide, planned-what-fits, what-fits-planned}
use Rattle.planner_policies.proofs.laws.each_that_fits.Goals as goal

pub returns : goal.returns
returns c = record {
  planned = planned-what-fits;
  one = λ plan k before test slot skip. what-fits-planned plan k before skip test slot;
  more = λ plan k before slot skip. front-planned plan k before skip slot;
  left = λ plan k before slot skip. left-too-wide plan k before skip slot;
}
