use Rattle.std.proofs.Common.{◌≡◌, subst, rules, IsPermutation}
use Rattle.async_window.proofs.Order.{rising-sorted}
use Rattle.async_window.proofs.places.in_order.Goals as goal

pub returns-clause-rising : goal.returns-clause-rising
returns-clause-rising c =
    let copied : c.in_ok-sorted.sorted.items ≡ c.args.ids.now = c.in_ok-sorted.ensures.items_if_clones_equal (search rules) in
    rising-sorted c.args.ids.now c.sort_unstable.new.self.items c.requires.distinct
    (subst (λ xs. IsPermutation xs c.sort_unstable.new.self.items) copied c.sort_unstable.ensures.permutation) c.sort_unstable.ensures.sorted
