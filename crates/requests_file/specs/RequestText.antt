-- The line that says why a requests file is refused.
use Rattle.std.specs.Prelude.{ℕ, List, ◌++◌, codes}
use Rattle.std.specs.Fmt.{decimal}
use Rattle.requests_file.specs.declared.request_fault.RequestWhy.{RequestWhy}
use Rattle.requests_file.specs.declared.request_fault.RequestWhy.TheVariants.{Fields, Number, Identifier}
use Rattle.requests_file.specs.declared.request_fault.RequestWhy.TheVariants.{Data, Order, Many}
use Rattle.requests_file.specs.declared.request_fault.RequestFault.{RequestFault}
use Rattle.requests_file.specs.declared.request_fault.RequestFault.TheVariants.{Row, Memory}

-- the word for a why
abbrev pub word_of : RequestWhy → List ℕ
word_of Fields = codes "fields"
word_of Number = codes "number"
word_of Identifier = codes "identifier"
word_of Data = codes "data"
word_of Order = codes "order"
word_of Many = codes "many"

-- the line for the error sink
abbrev pub text_of : RequestFault → List ℕ
text_of (Row number why) = codes "requests: row " ++ decimal number ++ codes " " ++ word_of why ++ codes "\n"
text_of Memory = codes "out of memory\n"
