-- A run whose master is replaced midway by its standby, between two of its calls.
use Rattle.std.specs.Prelude.{◌≡◌, false, List, is_some}
use Rattle.can_frame.specs.declared.data_frame.TimedFrame.{TimedFrame}
use Rattle.master_core.specs.declared.event.Event.{Event}
use Rattle.master_core.specs.History.{IsPlainlyLegal}
use Rattle.kept_run.specs.Progress.{IsUnderWay}
use Rattle.kept_run.specs.Setting.{Setting}
use Rattle.master_core.specs.Accepted.{all_accepted}
use Rattle.replay_run.specs.Progress.{IsGoing, IsKeptOnBus}
use Rattle.standby.specs.Core.{core_of}
use Rattle.handover_run.specs.Following.{IsStillFollowing}
use Rattle.handover_run.specs.declared.handed.Handed.{Handed}

-- `whole` is the history of the run from its first call on, whoever was the master: the master of the bus has its core,
-- and so has the standby, where it is there still. No frames are kept
pub record IsHanded (setting : Setting) (whole : List Event) (trace : List TimedFrame) (handed : Handed) : Type 0 where
  pub going : IsGoing setting trace handed.bus
  pub unkept : is_some handed.bus.trace ≡ false
  pub plain : IsPlainlyLegal setting.rules whole
  pub under_way : IsUnderWay setting whole trace
  pub same_core : core_of whole ≡ core_of handed.bus.master.history
  pub followed : IsStillFollowing setting.rules whole handed.standby
  pub quiet : handed.quiet ≡ all_accepted whole

-- so history and trace keep what those on a bus do
pub on-bus : (setting : Setting) (whole : List Event) (trace : List TimedFrame) (handed : Handed) → IsHanded setting whole trace handed
    → IsKeptOnBus setting whole trace
on-bus setting whole trace handed is = record { known = is.going.way.known; plain = is.plain; under_way = is.under_way }
