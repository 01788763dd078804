-- What the plain structs that C hands in stand for. Each word gives something for any numbers; which numbers are in
-- range is said beside it.
use Rattle.std.specs.Prelude.{◌≡◌, ℕ, ◌+◌, ◌*◌, ◌^◌, ◌<◌, ◌≤◌, Bool, not, List, All, Some, None, map, take}
use Rattle.std.specs.Prelude.{nat_eq, if◌then◌else◌}
use Rattle.profile.specs.Limits.{greatest_identifier, longest_window}
use Rattle.can_frame.specs.DataFrame.{DataFrame}
use Rattle.trigger_kind.specs.Kind.{IsSlots}
use Rattle.cycle_layout.specs.Layout.{CycleLayout}
use Rattle.requirement_table.specs.declared.entries.Entry.{Entry}
use Rattle.requirement_table.specs.declared.entries.Placed.{Placed}
use Rattle.change_protocol.specs.declared.operations.Op.{Op}
use Rattle.change_protocol.specs.declared.operations.Op.TheVariants.{Add, Remove, Change}
use Rattle.change_protocol.specs.declared.operations.Change.{Change as TableChange}
use Rattle.planner_policies.specs.declared.Policy.TheVariants.{Rm, Dm, Edf}
use Rattle.planner_policies.specs.declared.Fill.TheVariants.{Prefix, Skip}
use Rattle.planner_policies.specs.declared.state.PlanState.{PlanState}
use Rattle.admission_rules.specs.declared.Rules.{Rules}
use Rattle.admission.specs.Verdict.{IsRules}
use Rattle.c_values.specs.declared.plain.FttEntry.{FttEntry}
use Rattle.c_values.specs.declared.plain.FttFrame.{FttFrame}
use Rattle.c_values.specs.declared.plain.FttLayout.{FttLayout}
use Rattle.c_values.specs.declared.plain.FttMask.{FttMask}
use Rattle.c_values.specs.declared.plain.FttOp.{FttOp}
use Rattle.c_values.specs.declared.plain.FttPlaced.{FttPlaced}
use Rattle.c_values.specs.declared.plain.FttRules.{FttRules}
use Rattle.c_values.specs.declared.plain.FttState.{FttState}
use Rattle.c_values.specs.declared.plain.FttTrigger.{FttTrigger}

-- Sets of slots

-- the number of a set of slots
abbrev pub mask_of : FttMask → ℕ
mask_of mask = mask.high * 2 ^ 64 + mask.low

-- a set of slots has room for 96
abbrev pub IsMask : FttMask → Type 0
IsMask mask = mask.high < 2 ^ 32

-- Frames

-- the frame of an identifier and of the bytes in use
abbrev pub frame_of : FttFrame → DataFrame
frame_of frame = record { identifier = frame.id; bytes = take frame.len frame.bytes }

abbrev pub frames_of : List FttFrame → List DataFrame
frames_of frames = map frame_of frames

-- the identifier is one of this profile, and at most all eight bytes are in use
pub record IsFrameIn (frame : FttFrame) : Type 0 where
  pub identifier : frame.id ≤ greatest_identifier
  pub few : frame.len ≤ 8

-- the bit of a byte: 0 is dominant
abbrev pub bit_of : ℕ → Bool
bit_of byte = not (nat_eq byte 0)

-- a trigger that trigger frames can tell, with so many slots
pub record IsTriggerIn (slots : ℕ) (trigger : FttTrigger) : Type 0 where
  pub slots_are : IsSlots slots
  pub window : trigger.window ≤ longest_window
  pub flags : mask_of trigger.flags < 2 ^ slots

abbrev pub layout_of : FttLayout → CycleLayout
layout_of layout = record {
  cycle = layout.cycle;
  turnaround = layout.turnaround;
  window = layout.window;
  slots = layout.slots;
}

-- Rules, tables and changes

abbrev pub rules_of : FttRules → Rules
rules_of rules = record {
  nodes = rules.nodes;
  slots = rules.slots;
  policy = if nat_eq rules.policy 0 then Rm else if nat_eq rules.policy 1 then Dm else Edf;
  fill = if nat_eq rules.fill 0 then Prefix else Skip;
  window = rules.window;
  horizon = rules.horizon;
}

-- the rules are in range
pub record AreRules (rules : FttRules) : Type 0 where
  pub ranges : IsRules (rules_of rules)
  pub slots : IsSlots rules.slots
  pub policy : rules.policy ≤ 2
  pub fill : rules.fill ≤ 1

abbrev pub entry_of : FttEntry → Entry
entry_of entry = record {
  slot = entry.slot;
  node = entry.node;
  length = entry.length;
  phase = entry.phase;
  period = entry.period;
  deadline = entry.deadline;
  priority = entry.priority;
}

-- an entry in its place in time, which has an end where `ended` is not 0
abbrev pub placed_of : FttPlaced → Placed
placed_of p = record {
  entry = entry_of p.entry;
  origin = p.origin;
  end = if nat_eq p.ended 0 then None else Some p.end;
}

unfoldable pub table_of : List FttPlaced → List Placed
table_of placed = map placed_of placed

-- an operation, which is of the kind 0, 1 or 2
abbrev pub op_of : FttOp → Op
op_of op =
    if nat_eq op.kind 0 then Add (entry_of op.entry)
    else if nat_eq op.kind 1 then Remove op.entry.slot else Change (entry_of op.entry)

abbrev pub IsOp : FttOp → Type 0
IsOp op = op.kind ≤ 2

unfoldable pub ops_of : List FttOp → List Op
ops_of ops = map op_of ops

abbrev pub change_of : ℕ → List FttOp → TableChange
change_of start ops = record { start = start; ops = ops_of ops }

abbrev pub state_of : FttState → PlanState
state_of state = record { cycle = state.cycle; pending = mask_of state.pending }
