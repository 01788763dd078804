-- A text that begins with the text of rows.
use Rattle.std.proofs.Common.{◌≡◌, ◌++◌, ◌∙◌, ℕ, List, All, Option, Some, None, IfSome, ap}
use Rattle.bus_trace.specs.Compared.{BeginsWith}
use Rattle.log_reader.specs.Row.{IsLogRow, text_of_rows}
use Rattle.log_reader.specs.declared.row.LogRow.{LogRow}

-- where a text begins with these bytes, which are the text of these rows
pub begins : {X : Type 0} (rest_of : X → List ℕ) (text bytes : List ℕ) (rows : List LogRow) → All IsLogRow rows → bytes ≡ text_of_rows rows
    → (found : Option X) → IfSome found (λ rest. text ≡ bytes ++ rest_of rest) → IfSome found (λ rest. BeginsWith text rows (rest_of rest))
begins rest_of text bytes rows legal are None is = tt
begins rest_of text bytes rows legal are (Some rest) is = record { legal = legal; written = is ∙ ap (λ b. b ++ rest_of rest) are }
