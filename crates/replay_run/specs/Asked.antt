-- What the table that is asked for is after calls.
use Rattle.std.specs.Prelude.{◌≤◌}
use Rattle.std.proofs.Common.{◌≡◌, List, [], ◌++◌, fold, refl, sym, ap, ◌∙◌}
use Rattle.std.proofs.lemmas.List.Sums.{fold-append}
use Rattle.bit_sets.specs.Sets.{most_slots}
use Rattle.requirement_table.specs.Table.{IsWellPlaced}
use Rattle.change_protocol.specs.Malformed.{Bounds}
use Rattle.master_core.specs.Calls.{Call}
use Rattle.replay_run.specs.AskedTable.{AskedTable, after_call}
use Rattle.replay_run.specs.declared.asked.AskedEntries.{AskedEntries}

-- the bounds of its bus
abbrev pub bounds_in : AskedEntries → Bounds
bounds_in asked = record { nodes = asked.nodes; slots = asked.slots }

-- a change can be applied to it
pub record CanApply (asked : AskedEntries) : Type 0 where
  pub well_placed : IsWellPlaced asked.table
  pub slots : asked.slots ≤ most_slots

-- the table of these fields
abbrev pub table_in : AskedEntries → AskedTable
table_in asked = record { placed = asked.table; next = asked.next }

-- it is the table after these calls, and still a change can be applied to it
pub record IsAskedAfter (old : AskedEntries) (calls : List Call) (new : AskedEntries) : Type 0 where
  pub bounds : bounds_in new ≡ bounds_in old
  pub table : table_in new ≡ fold (after_call (bounds_in old)) (table_in old) calls
  pub can_apply : CanApply old → CanApply new

-- For the table that is driven

pub on-nothing : (one : AskedEntries) → IsAskedAfter one [] one
on-nothing one = record { bounds = refl; table = refl; can_apply = λ can. can }

pub on-more : (one other third : AskedEntries) (calls later : List Call) → IsAskedAfter one calls other
    → IsAskedAfter other later third
    → IsAskedAfter one (calls ++ later) third
on-more one other third calls later first second = record {
  bounds = second.bounds ∙ first.bounds;
  table = second.table ∙ ap (λ bounds. fold (after_call bounds) (table_in other) later) first.bounds
      ∙ ap (λ table. fold (after_call (bounds_in one)) table later) first.table ∙ sym (fold-append (after_call (bounds_in one)) (table_in one) calls later);
  can_apply = λ can. second.can_apply (first.can_apply can);
}
