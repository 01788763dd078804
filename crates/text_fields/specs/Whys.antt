-- Tests of a row one after the other, where the first that fails says why the row is none.
use Rattle.std.specs.Prelude.{Bool, true, false, Result, Ok, Err}

infixl 10 ◌>>=◌
-- what the second gives for the value of the first, or the why of the first
abbrev pub ◌>>=◌ : {A B Why : Type 0} → Result A Why → (A → Result B Why) → Result B Why
Ok value >>= next = next value
Err why >>= next = Err why

-- the value where the test holds, and else the why
abbrev pub where_holds : {A Why : Type 0} → Bool → A → Why → Result A Why
where_holds true value why = Ok value
where_holds false value why = Err why
