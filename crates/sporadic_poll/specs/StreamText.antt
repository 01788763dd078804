-- The line that says why a streams file is refused.
use Rattle.std.specs.Prelude.{ℕ, List, ◌++◌, codes}
use Rattle.std.specs.Fmt.{decimal}
use Rattle.sporadic_poll.specs.declared.stream_fault.StreamWhy.{StreamWhy}
use Rattle.sporadic_poll.specs.declared.stream_fault.StreamWhy.TheVariants.{Fields, Number, Slot, Data, Order, Many}
use Rattle.sporadic_poll.specs.declared.stream_fault.StreamFault.{StreamFault}
use Rattle.sporadic_poll.specs.declared.stream_fault.StreamFault.TheVariants.{Row, Memory}

-- the word for a why
abbrev pub word_of : StreamWhy → List ℕ
word_of Fields = codes "fields"
word_of Number = codes "number"
word_of Slot = codes "slot"
word_of Data = codes "data"
word_of Order = codes "order"
word_of Many = codes "many"

-- the line for the error sink
abbrev pub text_of : StreamFault → List ℕ
text_of (Row number why) = codes "streams: row " ++ decimal number ++ codes " " ++ word_of why ++ codes "\n"
text_of Memory = codes "out of memory\n"
