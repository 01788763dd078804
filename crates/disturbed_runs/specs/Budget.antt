-- The fault budget of a cycle: by what is lost, by counting outages, and by counting disturbances. Times and lengths are
-- bit times.
use Rattle.std.specs.Prelude.{◌≡◌, ℕ, ◌+◌, ◌*◌, ◌<◌, ◌≤◌, true, false, List, All, length, Some}
use Rattle.profile.specs.Limits.{longest_window}
use Rattle.bit_sets.specs.Sets.{has_bit, most_slots}
use Rattle.can_frame.specs.declared.data_frame.TimedFrame.{TimedFrame}
use Rattle.cycle_layout.specs.Layout.{CycleLayout, async_open, needed}
use Rattle.requirement_table.specs.Instance.{Instance}
use Rattle.requirement_table.specs.Opening.{Opening}
use Rattle.bus_line.specs.Trace.{Offers}
use Rattle.node_model.specs.Opening.{end_of_cycle, start_of}
use Rattle.node_model.specs.Offered.{bytes_sent}
use Rattle.kept_run.specs.Setting.{IsSetting, Setting}
use Rattle.disturbed_runs.specs.Outages.{Outage, lost_in, overlap, touching}
use Rattle.disturbed_runs.specs.Disturbances.{Disturbance, IsDisturbance, cost_of_cut, felt_in, suspend_time}
use Rattle.disturbed_runs.specs.Offered.{Late, Silent, first_from, is_silent, room_for_outages}

-- a setting with a reserve: what is planned fits into the setting's window, and a cycle has room for that and for the
-- reserve, which a trigger can say
pub record IsReserved (setting : Setting) (reserve : ℕ) : Type 0 where
  pub known : IsSetting setting
  pub room : needed setting.layout.turnaround (setting.layout.window + reserve) setting.layout.slots ≤ setting.layout.cycle
  pub told : setting.layout.window + reserve ≤ longest_window

-- the fault budget of an opened cycle: outages take at most the turnaround of the trigger part and of the turnaround behind
-- it, and at most the room for outages of the synchronous window, what the last of the nodes is late taken off
pub record IsWithinBudget (layout : CycleLayout) (reserve : ℕ) (late : Late) (silent : Silent) (outages : List Outage) (opening : Opening) : Type 0 where
  pub triggers : lost_in (start_of layout opening) (async_open layout opening.cycle) outages ≤ layout.turnaround
  pub window : lost_in (first_from reserve late layout opening) (end_of_cycle layout opening) outages + late.most opening.cycle
      ≤ room_for_outages reserve silent opening
  pub in_order : late.least opening.cycle ≤ late.most opening.cycle

-- what is planned for in each cycle: in the trigger part and the turnaround behind it, and in the synchronous window, how
-- many disturbances, what one of them takes of that part at most, and how many frames of error passive senders
pub record FaultPlan : Type 0 where
  pub retries : ℕ
  pub retry_cost : ℕ
  pub passive_triggers : ℕ
  pub errors : ℕ
  pub cost : ℕ
  pub passive : ℕ

-- what such a plan takes of the two parts
abbrev pub trigger_need : FaultPlan → ℕ
trigger_need plan = plan.retries * plan.retry_cost + plan.passive_triggers * suspend_time

abbrev pub window_need : FaultPlan → ℕ
window_need plan = plan.errors * plan.cost + plan.passive * suspend_time

-- there is room for what is planned
pub record HasRoomFor (layout : CycleLayout) (reserve : ℕ) (late : Late) (silent : Silent) (plan : FaultPlan) (opening : Opening) : Type 0 where
  pub turnaround : trigger_need plan ≤ layout.turnaround
  pub room : window_need plan + late.most opening.cycle ≤ room_for_outages reserve silent opening
  pub in_order : late.least opening.cycle ≤ late.most opening.cycle

-- the waits of error passive senders, one behind each of their frames: none is longer than `suspend_time`, and no more of
-- them have bit times in the two parts than are planned for
pub record ArePassiveWaits (layout : CycleLayout) (reserve : ℕ) (late : Late) (plan : FaultPlan) (waits : List Outage) (opening : Opening) : Type 0 where
  pub short : All (λ wait. wait.span ≤ suspend_time) waits
  pub triggers : touching (start_of layout opening) (async_open layout opening.cycle) waits ≤ plan.passive_triggers
  pub window : touching (first_from reserve late layout opening) (end_of_cycle layout opening) waits ≤ plan.passive

-- in each of the two parts no more outages have bit times than are planned for, and none takes more of it than is planned
pub record AreFew (layout : CycleLayout) (reserve : ℕ) (late : Late) (silent : Silent) (plan : FaultPlan) (outages waits : List Outage) (opening : Opening) : Type 0 where
  pub has_room : HasRoomFor layout reserve late silent plan opening
  pub triggers : touching (start_of layout opening) (async_open layout opening.cycle) outages ≤ plan.retries
  pub short_triggers : All (λ outage. overlap (start_of layout opening) (async_open layout opening.cycle) outage ≤ plan.retry_cost) outages
  pub window : touching (first_from reserve late layout opening) (end_of_cycle layout opening) outages ≤ plan.errors
  pub short_window : All (λ outage. overlap (first_from reserve late layout opening) (end_of_cycle layout opening) outage ≤ plan.cost) outages
  pub passive : ArePassiveWaits layout reserve late plan waits opening

-- the plan of a cycle in which so many disturbances are felt, and in whose window no frame has more than so many bytes
abbrev pub plan_of_errors : ℕ → ℕ → ℕ → ℕ → ℕ → FaultPlan
plan_of_errors retries passive_triggers errors bytes passive = record {
  retries = retries;
  retry_cost = cost_of_cut 8;
  passive_triggers = passive_triggers;
  errors = errors;
  cost = cost_of_cut bytes;
  passive = passive;
}

-- each flagged slot that is not silent sends at most so many bytes
abbrev pub SendsAtMost : ℕ → Silent → (Instance → List ℕ) → Opening → Type 0
SendsAtMost bytes silent sends opening = (slot : ℕ) (sent : List ℕ) → slot < most_slots → has_bit opening.mask slot ≡ true
    → is_silent silent opening.cycle slot ≡ false → bytes_sent sends opening slot ≡ Some sent → length sent ≤ bytes

-- in a cycle the disturbances are as few as this: so many are felt in its trigger part and the turnaround behind it, and so
-- many in its synchronous window, whose frames have at most so many bytes and which lies so far behind the trigger part
-- that a trigger frame which is cut takes no more of it than one of its own frames
pub record AreFewFelt (layout : CycleLayout) (reserve : ℕ) (late : Late) (silent : Silent) (sends : Instance → List ℕ) (retries errors bytes : ℕ)
    (all : List Disturbance) (opening : Opening) : Type 0 where
  pub triggers : felt_in (start_of layout opening) (async_open layout opening.cycle) all ≤ retries
  pub window : felt_in (first_from reserve late layout opening) (end_of_cycle layout opening) all ≤ errors
  pub short : SendsAtMost bytes silent sends opening
  pub behind : async_open layout opening.cycle + cost_of_cut 8 ≤ first_from reserve late layout opening + cost_of_cut bytes
