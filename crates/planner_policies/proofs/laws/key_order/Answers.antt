use Rattle.planner_policies.proofs.KeyOrder.{is_by-refl, is_by-total, is_by-antisym, is_by-trans}
use Rattle.planner_policies.proofs.laws.key_order.Goals as goal

pub returns : goal.returns
returns c = record { itself = is_by-refl; total = is_by-total; one_way = is_by-antisym; along = is_by-trans }
