-- What a call found that opens a cycle only where there is room for what the nodes learn with it.
use Rattle.std.specs.Prelude.{◌≡◌, ℕ, ◌<◌, ◌≤◌, ◌++◌, IfSome, length}
use Rattle.turn_lock.specs.Passes.{Known}
use Rattle.requirement_table.specs.declared.entries.Order.{Order}
use Rattle.admission_rules.specs.declared.Rules.{Rules}
use Rattle.master_core.specs.declared.event.Event.{Event}
use Rattle.master_core.specs.declared.event.Event.TheVariants.{Open}
use Rattle.master_core.specs.History.{next_of, placed_of}
use Rattle.master_core.specs.Kept.{kept_of}
use Rattle.master_core.specs.Orders.{IsOrderFor, StandsFor, learned_as}
use Rattle.live_master.specs.Calls.{GaveBack, IsAnsweredInTurn}
use Rattle.live_master.specs.declared.within.FoundOpening.{FoundOpening}
use Rattle.live_master.specs.declared.within.FoundOpening.TheVariants as opening

-- a cycle was opened by this order, which is one of the history before the opening. The kept entries stand for all
-- placed ones, and no more of them are kept than there is room for. The nodes learn kept entries only where a change was
-- accepted since the last opening, and then all of them. No other cycle was opened in between
pub record IsOpenedWithin (rules : Rules) (entries : ℕ) (old new : Known Event Rules) (order : Order) : Type 0 where
  pub answered : IsAnsweredInTurn old new (Open order.cycle order.mask)
  pub is_order : IsOrderFor rules (old.view.seen ++ answered.between) order
  pub learned : order.learned
      ≡ learned_as (old.view.seen ++ answered.between) (kept_of (old.view.seen ++ answered.between))
  pub stands : StandsFor (next_of (old.view.seen ++ answered.between)) (placed_of (old.view.seen ++ answered.between))
      (kept_of (old.view.seen ++ answered.between))
  pub alone : next_of answered.between ≡ 0
  pub kept : length (kept_of (old.view.seen ++ answered.between)) ≤ entries
  pub few : IfSome order.learned (λ placed. length placed ≤ entries)

-- the turn was got and let go with no event added: so many entries are kept, and these are more than there is room for.
-- No cycle was opened in between
pub record IsShort (entries : ℕ) (old new : Known Event Rules) (needed : ℕ) : Type 0 where
  pub gave_back : GaveBack old new
  pub kept : needed ≡ length (kept_of (old.view.seen ++ gave_back.between))
  pub more : entries < needed
  pub alone : next_of gave_back.between ≡ 0

-- with room for so many entries
abbrev pub OpenedWithin : Rules → ℕ → Known Event Rules → Known Event Rules → FoundOpening → Type 0
OpenedWithin rules entries old new (opening.Opened order) = IsOpenedWithin rules entries old new order
OpenedWithin rules entries old new (opening.Short needed) = IsShort entries old new needed
