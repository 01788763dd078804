use Rattle.stuff_bound.proofs.Places.{equal_from_test, test_from_equal}
use Rattle.stuff_bound.proofs.laws.equal_neighbours.Goals as goal

pub returns : goal.returns
returns c = record {
  equal_neighbours = λ wire start count. (equal_from_test wire start count, λ h. test_from_equal wire start count h.0 h.1);
}
