-- What is passed over where the cases of a table are read, and what fails.
use Rattle.std.specs.Prelude.{◌≡◌, ◌⊎◌, ◌∷◌, ℕ, List, [], get_or}
use Rattle.cases.specs.declared.reading.Read.{Read}
use Rattle.cases.specs.declared.reading.Read.TheVariants.{Nothing, NoCase}

-- the line is empty, or its first byte is a hash sign
abbrev pub IsRemark : List ℕ → Type 0
IsRemark line = (line ≡ []) ⊎ (get_or line 0 0 ≡ 35)

-- outside of a case of several lines: the line is a remark, or `---`, which begins such a case
abbrev pub IsPassedOver : List ℕ → Type 0
IsPassedOver line = IsRemark line ⊎ (line ≡ 45 ∷ 45 ∷ 45 ∷ [])

-- neither a case was read, nor what is no case
abbrev pub IsNothing : Read → Type 0
IsNothing read = read ≡ Nothing

-- what was read is no case, from the line with this number on
abbrev pub IsNoCase : ℕ → Read → Type 0
IsNoCase line read = read ≡ NoCase line
