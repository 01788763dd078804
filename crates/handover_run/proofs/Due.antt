-- The frames that a standby hears of an opening.
use Rattle.std.proofs.Common.{◌≡◌, ℕ, List, [], ◌∷◌, ◌++◌, map, get_or, sym, ap, ◌∙◌}
use Rattle.can_frame.specs.DataFrame.{DataFrame}
use Rattle.can_frame.specs.declared.data_frame.TimedFrame.{TimedFrame}
use Rattle.bit_sets.specs.Sets.{has_bit}
use Rattle.requirement_table.specs.Table.{width_in}
use Rattle.admission_rules.specs.declared.Rules.{Rules}
use Rattle.trigger_kind.specs.declared.Triggers.{Triggers}
use Rattle.trigger_kind.specs.declared.Triggers.TheVariants.{Two}
use Rattle.trigger_kind.specs.Kind.{triggers_of}
use Rattle.trigger_codec.specs.Bytes.{later_frames, second_frame, trigger_frame, triggers_with}
use Rattle.master_core.specs.declared.event.Event.{Event}
use Rattle.master_core.specs.History.{next_of, placed_of}
use Rattle.replay_run.specs.Progress.{BeginWithTriggers}
use Rattle.standby.specs.Core.{core_of}
use Rattle.standby.specs.Following.{StandbyView, due_frames, planned_of, sum_of}
use Rattle.handover_run.specs.Following.{HearsDue}
use Rattle.handover_run.proofs.Behind.{OneCore}

-- the trigger frames that are due behind a history are due to each standby with its core
pub hears-due : OneCore → (rules : Rules) (history : List Event) (frames : List TimedFrame) (standby : StandbyView)
    → core_of history ≡ core_of standby.history → standby.rules ≡ rules → BeginWithTriggers rules history frames → HearsDue standby frames
hears-due laws rules history frames standby same same_rules heard =
    let order = heard.order in
    let own = standby.history in
    let due = laws.order rules history own order same heard.due in
    record {
      later = heard.later;
      begin = heard.begin
          ∙ ap (λ (c : ℕ). triggers_with rules.slots c order.l order.mask ++ heard.later) due.cycle
          ∙ ap (λ (l : ℕ). triggers_with rules.slots (next_of own) l order.mask ++ heard.later) due.window
          ∙ ap (λ (m : ℕ). triggers_with rules.slots (next_of own) (width_in (placed_of own) (next_of own) (has_bit m)) m ++ heard.later) due.mask
          ∙ ap (λ (r : Rules). due_frames (record { rules = r; history = own }) ++ heard.later) (sym same_rules);
    }

-- the first two of frames that begin with two
two-of : (first second : DataFrame) (frames : List TimedFrame) (d e : TimedFrame) (later : List DataFrame)
    → map (λ (sent : TimedFrame). sent.frame) frames ≡ (first ∷ second ∷ []) ++ later
    → (get_or frames 0 d).frame ∷ (get_or frames 1 e).frame ∷ [] ≡ first ∷ second ∷ []
two-of first second [] d e later same = absurd (cc)
two-of first second (one ∷ []) d e later same = absurd (cc)
two-of first second (one ∷ other ∷ more) d e later same = cc

-- where there are two, they are the trigger frames that are due
pub two-due : (standby : StandbyView) (frames : List TimedFrame) (d e : TimedFrame) → triggers_of standby.rules.slots ≡ Two → HearsDue standby frames
    → (get_or frames 0 d).frame ∷ (get_or frames 1 e).frame ∷ [] ≡ due_frames standby
two-due standby frames d e many heard =
    let first : DataFrame = trigger_frame (next_of standby.history) (sum_of standby) (planned_of standby) in
    let second : DataFrame = second_frame (next_of standby.history) (planned_of standby) in
    let due : due_frames standby ≡ first ∷ second ∷ [] = ap (λ (t : Triggers). first ∷ later_frames t (next_of standby.history) (planned_of standby)) many in
    two-of first second frames d e heard.later (heard.begin ∙ ap (λ (l : List DataFrame). l ++ heard.later) due) ∙ sym due
