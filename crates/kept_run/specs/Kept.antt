-- *Kept*: what is promised of a history and a trace, over the final list of placed entries.
use Rattle.std.specs.Prelude.{◌≡◌, List}
use Rattle.can_frame.specs.declared.data_frame.TimedFrame.{TimedFrame}
use Rattle.master_core.specs.declared.event.Event.{Event}
use Rattle.master_core.specs.History.{IsLegal, next_of, placed_of}
use Rattle.master_core.specs.Openings.{openings_of}
use Rattle.cycle_engine.specs.Offered.{IsCanTrace}
use Rattle.kept_run.specs.Setting.{Setting}
use Rattle.kept_run.specs.Served.{AllGuarded, AllServed, NoStrangers}

-- *Kept*, in a setting
pub record Kept (setting : Setting) (history : List Event) (trace : List TimedFrame) : Type 0 where
  -- each change has its verdict by the rules, each look the next cycle, and each opening the slots of the plan
  pub legal : IsLegal setting.rules history
  -- the trace is that which arbitration decides: ordered, within the opened cycles, each frame the least offered one,
  -- and the bus is never idle while something is offered
  pub can_trace : IsCanTrace setting.sends setting.layout setting.requests (openings_of history) (next_of history) trace
  -- and there is no other such trace
  pub only_trace : (other : List TimedFrame)
      → IsCanTrace setting.sends setting.layout setting.requests (openings_of history) (next_of history) other
      → other ≡ trace
  -- each instance of an entry that an accepted change placed, whose last cycle was opened, was sent whole, exactly
  -- once, in its time; also where its entry got an end later
  pub served : AllServed setting.sends setting.layout (placed_of history) (openings_of history) (next_of history) trace
  -- nothing else is sent with a slot's identifier
  pub no_strangers : NoStrangers setting.layout (placed_of history) trace
  -- no asynchronous frame touches a trigger part or a synchronous window
  pub guarded : AllGuarded setting.layout (openings_of history) trace
