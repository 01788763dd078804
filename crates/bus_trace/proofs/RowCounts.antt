-- How many rows those of an event are, at least: each ends in a line feed.
use Rattle.std.proofs.Common.{◌≡◌, ◌≤◌, ◌+◌, ℕ, suc, List, [], ◌∷◌, ◌++◌, length, codes, refl, ap, arith}
use Rattle.std.proofs.lemmas.List.{length-map}
use Rattle.can_frame.specs.declared.data_frame.TimedFrame.{TimedFrame}
use Rattle.change_protocol.specs.declared.operations.Change.{Change}
use Rattle.admission.specs.declared.verdict.Verdict.{Verdict}
use Rattle.master_core.specs.declared.event.Event.{Event}
use Rattle.master_core.specs.declared.event.Event.TheVariants.{Submit, Look, Open}
use Rattle.bus_trace.specs.EventRows.{rows_of_event, told_of_event}
use Rattle.bus_trace.specs.LastRows.{rows_in}
use Rattle.bus_trace.specs.LogRows.{plan_told}
use Rattle.log_reader.specs.Row.{row_line, row_text, text_of_rows}
use Rattle.log_reader.specs.declared.row.LogRow.{LogRow}
use Rattle.log_reader.specs.declared.row.LogRow.TheVariants.{Frame}
use Rattle.bus_trace.proofs.RowEnds.{event-rows}
use Rattle.bus_trace.proofs.RowLemmas.{feeds, row_count}

feeds-append : (first second : List ℕ) → feeds (first ++ second) ≡ feeds first + feeds second
feeds-append [] second = let same : feeds ([] ++ second) ≡ feeds second = refl in omega (arith, same)
feeds-append (byte ∷ rest) second = let later = feeds-append rest second in omega (arith, later)

-- what a line feed ends has one
some-feed : (front : List ℕ) → 1 ≤ feeds (front ++ codes "\n")
some-feed front =
    let both = feeds-append front (codes "\n") in
    let one : feeds (codes "\n") ≡ 1 = refl in
    omega (arith, both, one)

row-feed : (line : LogRow) → 1 ≤ feeds (row_text line)
row-feed line = some-feed (row_line line)

-- one row more before others
feed-before : (first second : List ℕ) (count : ℕ) → 1 ≤ feeds first → count ≤ feeds second → 1 + count ≤ feeds (first ++ second)
feed-before first second count one more = let both = feeds-append first second in omega (arith, both, one, more)

rows-feeds : (lines : List LogRow) → length lines ≤ feeds (text_of_rows lines)
rows-feeds [] = omega arith
rows-feeds (line ∷ later) =
    let all = feed-before (row_text line) (text_of_rows later) (length later) (row-feed line) (rows-feeds later) in
    omega (arith, all)

-- the rows of an event are at least as many as their values
as-many : (event : Event) (frames : List TimedFrame) → length (told_of_event event frames) ≤ length (rows_in (rows_of_event event frames))
as-many event frames =
    let same = row_count (rows_of_event event frames) (event-rows event frames) in
    let some = rows-feeds (told_of_event event frames) in
    omega (arith, same, some)

plans-counted : (cycle : ℕ) (masks : List ℕ) → length (plan_told cycle masks) ≡ length masks
plans-counted cycle [] = refl
plans-counted cycle (mask ∷ later) = ap suc (plans-counted (cycle + 1) later)

pub submit-rows : (caller : ℕ) (change : Change) (from : ℕ) (verdict : Verdict) (trail : List ℕ) (frames : List TimedFrame)
    → 1 + length trail ≤ length (rows_in (rows_of_event (Submit caller change from verdict trail) frames))
submit-rows caller change from verdict trail frames =
    let some = as-many (Submit caller change from verdict trail) frames in
    let plans = plans-counted from trail in
    omega (arith, some, plans)

pub look-rows : (caller next : ℕ) (frames : List TimedFrame) → 1 ≤ length (rows_in (rows_of_event (Look caller next) frames))
look-rows caller next frames = as-many (Look caller next) frames

pub open-rows : (cycle mask : ℕ) (frames : List TimedFrame) → 1 + length frames ≤ length (rows_in (rows_of_event (Open cycle mask) frames))
open-rows cycle mask frames =
    let some = as-many (Open cycle mask) frames in
    let sent = length-map frames Frame in
    omega (arith, some, sent)
