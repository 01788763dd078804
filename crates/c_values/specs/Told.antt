-- What C is told: the plain structs that stand for a value.
use Rattle.std.specs.Prelude.{ℕ, ◌-◌, ◌/◌, ◌%◌, ◌^◌, List, [], ◌++◌, Option, Some, None, length, map, replicate}
use Rattle.std.specs.Option.{option_map_or}
use Rattle.can_frame.specs.DataFrame.{DataFrame}
use Rattle.can_frame.specs.declared.wire_fault.WireFault.{WireFault}
use Rattle.can_frame.specs.declared.wire_fault.WireFault.TheVariants as wire
use Rattle.requirement_table.specs.declared.entries.Placed.{Placed}
use Rattle.change_protocol.specs.declared.malformed.Why.{Why}
use Rattle.change_protocol.specs.declared.malformed.Why.TheVariants.{NoOps, TooManyOps, StartRange, SlotRange}
use Rattle.change_protocol.specs.declared.malformed.Why.TheVariants.{SlotTwice, NodeUnknown, LengthRange}
use Rattle.change_protocol.specs.declared.malformed.Why.TheVariants.{PeriodZero, DeadlineRange, SlotBusy, SlotEmpty}
use Rattle.change_protocol.specs.Code.{code_of}
use Rattle.planner_policies.specs.declared.Policy.{Policy}
use Rattle.planner_policies.specs.declared.Policy.TheVariants.{Rm, Dm, Edf}
use Rattle.planner_policies.specs.declared.Fill.{Fill}
use Rattle.planner_policies.specs.declared.Fill.TheVariants.{Prefix, Skip}
use Rattle.admission_rules.specs.declared.Rules.{Rules}
use Rattle.plan_check.specs.declared.breach.Breach.{Breach}
use Rattle.plan_check.specs.declared.breach.Breach.TheVariants as breach
use Rattle.admission.specs.declared.verdict.Verdict.{Verdict}
use Rattle.admission.specs.declared.verdict.Verdict.TheVariants.{Malformed, Passed, Miss, Horizon, Accepted}
use Rattle.c_values.specs.declared.plain.FttBreach.{FttBreach}
use Rattle.c_values.specs.declared.plain.FttFrame.{FttFrame}
use Rattle.c_values.specs.declared.plain.FttMask.{FttMask}
use Rattle.c_values.specs.declared.plain.FttPlaced.{FttPlaced}
use Rattle.c_values.specs.declared.plain.FttRules.{FttRules}
use Rattle.c_values.specs.declared.plain.FttVerdict.{FttVerdict}

-- the two words of a set of slots
abbrev pub mask_told : ℕ → FttMask
mask_told mask = record { low = mask % 2 ^ 64; high = mask / 2 ^ 64 }

-- a frame, with zeros behind the bytes in use
abbrev pub frame_told : DataFrame → FttFrame
frame_told frame = record {
  id = frame.identifier;
  len = length frame.bytes;
  bytes = frame.bytes ++ replicate (8 - length frame.bytes) 0;
}

-- the place at which a reader of so many wire bits stops. A sequence that is not that of the frame has no place of its
-- own: it is found behind all bits
abbrev pub place_told : ℕ → WireFault → ℕ
place_told count (wire.Stuff place) = place
place_told count (wire.Form place) = place
place_told count (wire.Crc sent computed) = count
place_told count (wire.Short have) = have
place_told count (wire.Tail place) = place
place_told count wire.Memory = count

-- rules
abbrev pub policy_told : Policy → ℕ
policy_told Rm = 0
policy_told Dm = 1
policy_told Edf = 2

abbrev pub fill_told : Fill → ℕ
fill_told Prefix = 0
fill_told Skip = 1

abbrev pub rules_told : Rules → FttRules
rules_told rules = record {
  horizon = rules.horizon;
  window = rules.window;
  nodes = rules.nodes;
  slots = rules.slots;
  policy = policy_told rules.policy;
  fill = fill_told rules.fill;
}

-- whether there is an end, and which
abbrev pub end_told : Option ℕ → ℕ × ℕ
end_told None = (0, 0)
end_told (Some end) = (1, end)

-- a placed entry
abbrev pub put_of : Placed → FttPlaced
put_of p = record {
  origin = p.origin;
  end = (end_told p.end).1;
  entry = record {
    phase = p.entry.phase;
    period = p.entry.period;
    deadline = p.entry.deadline;
    slot = p.entry.slot;
    node = p.entry.node;
    length = p.entry.length;
    priority = p.entry.priority;
  };
  ended = (end_told p.end).0;
}

-- the changed table of a decision, which there is where the change is accepted
abbrev pub table_told : Option (List Placed) → List FttPlaced
table_told placed = option_map_or (map put_of) placed []

-- whether a broken rule tells a cycle, and which
abbrev pub until_told : Why → ℕ × ℕ
until_told NoOps = (0, 0)
until_told TooManyOps = (0, 0)
until_told StartRange = (0, 0)
until_told SlotRange = (0, 0)
until_told SlotTwice = (0, 0)
until_told NodeUnknown = (0, 0)
until_told LengthRange = (0, 0)
until_told PeriodZero = (0, 0)
until_told DeadlineRange = (0, 0)
until_told (SlotBusy None) = (0, 0)
until_told (SlotBusy (Some until)) = (1, until)
until_told SlotEmpty = (0, 0)

-- a verdict
abbrev pub told : Verdict → FttVerdict
told (Malformed op why) = record {
  first = (until_told why).1;
  second = 0;
  kind = 0;
  op = op;
  why = code_of why;
  slot = 0;
  known = (until_told why).0;
}
told (Passed start next) =
    record { first = start; second = next; kind = 1; op = 0; why = 0; slot = 0; known = 0 }
told (Miss slot release cycle) =
    record { first = release; second = cycle; kind = 2; op = 0; why = 0; slot = slot; known = 0 }
told (Horizon from walked) =
    record { first = from; second = walked; kind = 3; op = 0; why = 0; slot = 0; known = 0 }
told (Accepted first length) =
    record { first = first; second = length; kind = 4; op = 0; why = 0; slot = 0; known = 0 }

-- a breach
abbrev pub breach_told : Breach → FttBreach
breach_told (breach.BadLoop slot) = record { first = 0; second = 0; kind = 0; slot = slot }
breach_told (breach.NotReleased cycle slot) = record { first = cycle; second = 0; kind = 1; slot = slot }
breach_told (breach.TooWide cycle sum) = record { first = cycle; second = sum; kind = 2; slot = 0 }
breach_told (breach.Missed slot release cycle) = record { first = release; second = cycle; kind = 3; slot = slot }
breach_told (breach.NotClosed slot) = record { first = 0; second = 0; kind = 4; slot = slot }
