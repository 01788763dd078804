-- The line that says why a wishes file is refused.
use Rattle.std.specs.Prelude.{ℕ, List, ◌++◌, codes}
use Rattle.std.specs.Fmt.{decimal}
use Rattle.elastic.specs.declared.wish_fault.WishWhy.{WishWhy}
use Rattle.elastic.specs.declared.wish_fault.WishWhy.TheVariants.{Word, Fields, Number, Many}
use Rattle.elastic.specs.declared.wish_fault.WishFault.{WishFault}
use Rattle.elastic.specs.declared.wish_fault.WishFault.TheVariants.{Row, Memory}

-- the word for a why
abbrev pub word_of : WishWhy → List ℕ
word_of Word = codes "word"
word_of Fields = codes "fields"
word_of Number = codes "number"
word_of Many = codes "many"

-- the line for the error sink
abbrev pub text_of : WishFault → List ℕ
text_of (Row number why) = codes "wishes: row " ++ decimal number ++ codes " " ++ word_of why ++ codes "\n"
text_of Memory = codes "out of memory\n"
