-- What is put to a sink for the bits of a line.
use Rattle.std.specs.Prelude.{ℕ, Bool, List, ◌++◌, length, Option}
use Rattle.std.specs.List.{flat_map}
use Rattle.can_frame.specs.declared.data_frame.TimedFrame.{TimedFrame}
use Rattle.can_frame.specs.declared.wire_fault.WireFault.{WireFault}
use Rattle.bus_line.specs.Recording.{IsRecording, BreaksAt}
use Rattle.ftt_io.specs.Files.{NamedFiles, HasBytes}
use Rattle.line_frames.specs.BitsText.{IsBitsText, bits_in}
use Rattle.line_frames.specs.Rows.{frame_row, end_row, no_row}
use Rattle.line_frames.specs.declared.listing.Listing.{Listing}
use Rattle.line_frames.specs.declared.listing.Listing.TheVariants.{Whole, Broken}

-- the rows of a trace whose line has so many bits
abbrev pub rows_of : List TimedFrame → ℕ → List ℕ
rows_of trace count = flat_map frame_row trace ++ end_row count

-- the rows of the trace whose line the bits are
pub record ListsFrames (bits : List Bool) (puts : List ℕ → Type 0) : Type 0 where
  pub trace : List TimedFrame
  pub recorded : IsRecording trace 0 (length bits) bits
  pub put : puts (rows_of trace (length bits))

-- the row of the place at which the bits break
pub record ListsBreak (bits : List Bool) (puts : List ℕ → Type 0) : Type 0 where
  pub start : ℕ
  pub fault : WireFault
  pub breaks : BreaksAt bits start fault
  pub put : puts (no_row start fault)

abbrev pub Lists : List Bool → (List ℕ → Type 0) → Listing → Type 0
Lists bits puts Whole = ListsFrames bits puts
Lists bits puts Broken = ListsBreak bits puts

-- the same of the bits that the text of a file writes
pub record ListsFile (files : Option NamedFiles) (name : List ℕ) (puts : List ℕ → Type 0) (listing : Listing) : Type 0 where
  pub text : List ℕ
  pub told : HasBytes files name text
  pub written : IsBitsText text
  pub lists : Lists (bits_in text) puts listing
