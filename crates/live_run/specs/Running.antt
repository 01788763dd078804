-- The dispatcher and its bus between two cycles.
use Rattle.std.specs.Prelude.{◌≡◌, ◌+◌, ◌/◌, ◌≤◌, ◌++◌, ◌∷◌, [], false, List, All, vec_capacity, vec_len}
use Rattle.profile.specs.Limits.{shortest_frame}
use Rattle.requirement_table.specs.declared.entries.Order.{Order}
use Rattle.admission_rules.specs.declared.Rules.{Rules}
use Rattle.turn_lock.specs.declared.view.View.{View}
use Rattle.turn_lock.specs.Passes.{Lock}
use Rattle.cycle_engine.specs.Nodes.{states_of}
use Rattle.master_core.specs.declared.event.Event.{Event}
use Rattle.master_core.specs.declared.event.Event.TheVariants.{Open}
use Rattle.master_core.specs.History.{IsLegal, is_open}
use Rattle.master_core.specs.Orders.{IsOrderFor}
use Rattle.kept_run.specs.Progress.{IsOnTheWay}
use Rattle.kept_run.specs.Setting.{Setting}
use Rattle.live_run.specs.declared.dispatching.LiveBus.{LiveBus}

-- history and bus are on the way in this setting, before a cycle is run by this order, which is one of the history
pub record IsBeforeOrder (setting : Setting) (history : List Event) (order : Order) (bus : LiveBus) : Type 0 where
  pub way : IsOnTheWay setting history bus.trace.items bus.nodes
  pub ordered : IsOrderFor setting.rules history order

-- what a dispatcher has seen and its bus are on the way, and the shared master has the rules of the setting
pub record IsRunning (setting : Setting) (shared : Lock Rules) (seen : List Event) (bus : LiveBus) : Type 0 where
  pub same_rules : shared.fixed ≡ setting.rules
  pub way : IsOnTheWay setting seen bus.trace.items bus.nodes

-- in some setting it is so
abbrev pub CanDispatch : Lock Rules → List Event → LiveBus → Type 0
CanDispatch shared seen bus = (setting : Setting) × IsRunning setting shared seen bus

-- behind what a dispatcher had seen, others made calls that open no cycle, and then it opened one, by an order of the
-- history so far
pub record HasOpened (rules : Rules) (old new : List Event) (order : Order) : Type 0 where
  pub calls : List Event
  pub closed : All (λ call. is_open call ≡ false) calls
  pub seen : new ≡ (old ++ calls) ++ Open order.cycle order.mask ∷ []
  pub ordered : IsOrderFor rules (old ++ calls) order
  pub legal : IsLegal rules (old ++ calls)

-- behind what a dispatcher had seen, others made calls that open no cycle, and nothing else
pub record HasSeen (rules : Rules) (old new : List Event) : Type 0 where
  pub calls : List Event
  pub closed : All (λ call. is_open call ≡ false) calls
  pub seen : new ≡ old ++ calls
  pub legal : IsLegal rules new

-- a bus has room for the frames of one cycle behind those that it has
abbrev pub HasFrameRoom : LiveBus → Type 0
HasFrameRoom bus = vec_len bus.trace + (bus.nodes.layout.cycle / shortest_frame + 1) ≤ vec_capacity bus.trace

-- two buses with the same frames and layout, whose nodes know the same
pub record IsSameBus (old new : LiveBus) : Type 0 where
  pub trace : new.trace.items ≡ old.trace.items
  pub layout : new.nodes.layout ≡ old.nodes.layout
  pub states : states_of new.nodes.nodes ≡ states_of old.nodes.nodes

-- a pass has the same number as before, and made and retired no other
pub record KeepsPasses (old new : View Event Rules) : Type 0 where
  pub number : new.number ≡ old.number
  pub made : new.made ≡ old.made
  pub out : new.out ≡ old.out
  pub ended : new.ended ≡ old.ended
