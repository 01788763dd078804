-- What a node in use does with a trigger frame, on a bus on which trigger frames may be lost, come twice, or be those of
-- somebody else.
use Rattle.std.specs.Prelude.{ℕ, ◌+◌, ◌-◌, ◌%◌, ◌==◌, ◌&&◌, Bool, false, true, nat_eq, nat_le, nat_lt, if◌then◌else◌}
use Rattle.std.specs.Prelude.{is_some, Option, Some, None}
use Rattle.std.specs.Option.{option_map_or}
use Rattle.profile.specs.Limits.{cycles_end}
use Rattle.can_frame.specs.DataFrame.{DataFrame}
use Rattle.can_frame.specs.declared.data_frame.TimedFrame.{TimedFrame}
use Rattle.trigger_kind.specs.declared.Triggers.{Triggers}
use Rattle.trigger_kind.specs.declared.Triggers.TheVariants.{One, Two}
use Rattle.trigger_kind.specs.Kind.{opening_identifier, triggers_of}
use Rattle.trigger_codec.specs.declared.message.Second.{Second}
use Rattle.trigger_codec.specs.declared.message.Trigger.{Trigger}
use Rattle.trigger_codec.specs.Bytes.{second_of, trigger_of}
use Rattle.node_model.specs.Node.{NodeState, after_hearing, opening_trigger}
use Rattle.node_model.specs.Online.{open_now, passed_to}
use Rattle.live_node.specs.Live.{LiveView}
use Rattle.live_node.specs.declared.trigger.Heard.{Heard}
use Rattle.live_node.specs.declared.trigger.Heard.TheVariants.{Opened, Noted, Again, NotTaken, Other}

-- a frame of which nobody asks when it started
abbrev pub timed : DataFrame → TimedFrame
timed frame = record { start = 0; len = 0; frame = frame }

-- what a frame does: the answer, and what the node knows then
pub record Step : Type 0 where
  pub answer : Heard
  pub state : NodeState

-- the cycle that a first trigger frame is of, which has this number modulo 256. By the clock of its driver so many cycles
-- have passed without one behind the node's next cycle, and that count is off by at most `tolerance`. It never lies before
-- the next cycle
abbrev pub said_cycle : ℕ → ℕ → ℕ → ℕ → Option ℕ
said_cycle next passed tolerance low =
    let ahead = (low + (256 - (next + passed) % 256)) % 256 in
    if nat_le ahead tolerance then Some (next + passed + ahead)
    else (if nat_le 256 (ahead + tolerance) && nat_le (next + 256) (next + passed + ahead)
    then Some (next + passed + ahead - 256) else None)

-- the number is that of the open cycle, and by the clock of the driver no next cycle can have come
abbrev pub is_again : NodeState → ℕ → ℕ → ℕ → Bool
is_again node passed tolerance low =
    nat_le passed tolerance && option_map_or (λ opened. opened.cycle % 256 == low) (open_now node) false

-- a node that waits for the next trigger, and has no cycle open
abbrev pub closed : NodeState → NodeState
closed node = passed_to node.next node

-- a node that has passed over the cycles before this one, of which it heard no trigger
abbrev pub caught_up : ℕ → NodeState → NodeState
caught_up cycle node = if nat_eq cycle node.next then node else passed_to cycle node

-- a trigger frame that is not taken: nothing is sent until the next one that is
abbrev pub not_taken : NodeState → Step
not_taken node = record { answer = NotTaken; state = closed node }

-- a trigger frame of the open cycle that came before, or any other frame: nothing changes
abbrev pub unchanged : Heard → NodeState → Step
unchanged answer node = record { answer = answer; state = node }

-- what the first trigger frame of a cycle does, of one or of two
abbrev pub by_first : Triggers → Heard
by_first One = Opened
by_first Two = Noted

-- a first trigger frame of a cycle, with this window, is taken where that is at most the largest one
abbrev pub heard_of_cycle : Option ℕ → ℕ → DataFrame → NodeState → Step
heard_of_cycle None l frame node = not_taken node
heard_of_cycle (Some cycle) l frame node =
    if nat_le l node.layout.window && nat_lt cycle cycles_end
    then record {
      answer = by_first (triggers_of node.layout.slots);
      state = after_hearing (caught_up cycle node) (timed frame);
    }
    else not_taken node

-- what is done with a frame that is read as a first trigger frame, or as none
abbrev pub heard_first : ℕ → ℕ → Option Trigger → DataFrame → NodeState → Step
heard_first passed tolerance None frame node = not_taken node
heard_first passed tolerance (Some trigger) frame node =
    if is_again node passed tolerance trigger.low then unchanged Again node
    else heard_of_cycle (said_cycle node.next passed tolerance trigger.low) trigger.l frame node

-- what is done with a frame that is read as a second trigger frame, or as none: it is taken where it is that of the cycle
-- whose first one was noted
abbrev pub heard_second : ℕ → ℕ → Option Second → DataFrame → NodeState → Step
heard_second passed tolerance None frame node = not_taken node
heard_second passed tolerance (Some second) frame node =
    if is_again node passed tolerance second.low then unchanged Again node
    else (if is_some (opening_trigger node frame) && nat_lt node.next cycles_end
    then record { answer = Opened; state = after_hearing node (timed frame) } else not_taken node)

-- any frame; one that is no trigger frame changes nothing
abbrev pub step_of : ℕ → ℕ → DataFrame → NodeState → Step
step_of passed tolerance frame node =
    if nat_lt (opening_identifier node.layout.slots) frame.identifier then unchanged Other node
    else (if nat_eq frame.identifier 0 then heard_first passed tolerance (trigger_of frame) frame node
    else heard_second passed tolerance (second_of frame) frame node)

-- what was sent and what is in flight is forgotten where a cycle was opened
abbrev pub kept : Heard → ℕ → ℕ
kept Opened slots = 0
kept Noted slots = slots
kept Again slots = slots
kept NotTaken slots = slots
kept Other slots = slots

abbrev pub after_step : Step → LiveView → LiveView
after_step step view =
    record view { state = step.state; sent = kept step.answer view.sent; loaded = kept step.answer view.loaded }

-- a node whose first cycle is not known takes no trigger frame
abbrev pub heard_live : ℕ → DataFrame → LiveView → LiveView
heard_live passed frame view =
    if view.started then after_step (step_of passed view.tolerance frame view.state) view else view

abbrev pub answer_live : ℕ → DataFrame → LiveView → Heard
answer_live passed frame view =
    if view.started then (step_of passed view.tolerance frame view.state).answer else NotTaken

-- a node that goes on with a cycle, and has none open
abbrev pub gone_to : ℕ → LiveView → LiveView
gone_to cycle view = record view { state = passed_to cycle view.state; started = true }
