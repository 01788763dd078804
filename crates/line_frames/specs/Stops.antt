-- Why no frames are listed.
use Rattle.std.specs.Prelude.{ℕ, ◌⊎◌, ⊤, List, Option}
use Rattle.ftt_io.specs.declared.fetch.FetchFault.{FetchFault}
use Rattle.ftt_io.specs.declared.fetch.FetchFault.TheVariants.{Failed, TooLong as TooLongFile, Memory as NoMemory}
use Rattle.ftt_io.specs.Files.{NamedFiles, HasBytes, HasMoreThan, IsAbsent}
use Rattle.line_frames.specs.BitsText.{HasOther}
use Rattle.line_frames.specs.declared.stop.ListingStop.{ListingStop}
use Rattle.line_frames.specs.declared.stop.ListingStop.TheVariants.{Words, TooLong, NoBit, Read, Write, Memory}

-- a fault of a fetch, as what it stops
abbrev pub stop_of_fetch : FetchFault → ListingStop
stop_of_fetch Failed = Read
stop_of_fetch TooLongFile = TooLong
stop_of_fetch NoMemory = Memory

-- a file has a byte that writes no bit, the first of them at this place
pub record HasNoBit (files : Option NamedFiles) (name : List ℕ) (place : ℕ) : Type 0 where
  pub text : List ℕ
  pub told : HasBytes files name text
  pub other : HasOther text place

-- why the frames of a file were not listed: `unread` and `unwritten` say that the count of faults rose of the shelf and
-- of the sink
abbrev pub StopsListing : Option NamedFiles → List ℕ → Type 0 → Type 0 → ListingStop → Type 0
StopsListing files name unread unwritten TooLong = HasMoreThan files name 268435455
StopsListing files name unread unwritten (NoBit place) = HasNoBit files name place
StopsListing files name unread unwritten Read = unread ⊎ IsAbsent files name
StopsListing files name unread unwritten Write = unwritten
-- want of memory is told of by nothing
StopsListing files name unread unwritten Memory = ⊤
-- a file was named
StopsListing files name unread unwritten Words = ⊥

-- what is told of a text
abbrev pub TellsOf : List ℕ → ListingStop → Type 0
TellsOf text (NoBit place) = HasOther text place
TellsOf text Memory = ⊤
TellsOf text Words = ⊥
TellsOf text TooLong = ⊥
TellsOf text Read = ⊥
TellsOf text Write = ⊥

-- why the rows were not put
abbrev pub StopsWriting : Type 0 → ListingStop → Type 0
StopsWriting unwritten Write = unwritten
StopsWriting unwritten Memory = ⊤
StopsWriting unwritten (NoBit place) = ⊥
StopsWriting unwritten Words = ⊥
StopsWriting unwritten TooLong = ⊥
StopsWriting unwritten Read = ⊥
