use Rattle.std.proofs.Common.{[], subst, sym}
use Rattle.bus_trace.specs.Logged.{HasEntries}
use Rattle.bus_trace.proofs.LogHistory.{entries-none}
use Rattle.bus_trace.proofs.entries.Entries.new.Goals as goal

pub returns : goal.returns
returns c = record { entries = subst (HasEntries [] 0) (sym c.new.ensures.items) entries-none }
