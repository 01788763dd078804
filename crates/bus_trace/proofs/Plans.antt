-- The rows of a plan: those of some cycles, and behind them those of the others.
use Rattle.std.proofs.Common.{◌≡◌, ℕ, ◌+◌, ◌<◌, suc, List, [], ◌∷◌, ◌++◌, All, get_or, length, drop, subst, sym, ap, ◌∙◌, arith}
use Rattle.std.proofs.lemmas.Grind.{flat_map-append}
use Rattle.std.proofs.lemmas.List.Elements.{All-append, All-cons}
use Rattle.std.proofs.Math.Seq.{drop-cons}
use Rattle.bus_trace.specs.LogRows.{plan_told}
use Rattle.log_reader.specs.Row.{IsLogRow, row_text, text_of_rows}
use Rattle.log_reader.specs.declared.row.LogRow.TheVariants.{Plan}

plan_told-append : (from : ℕ) (some later : List ℕ) → plan_told from (some ++ later) ≡ plan_told from some ++ plan_told (from + length some) later
plan_told-append from [] later =
    let here : from ≡ from + 0 = omega arith in
    ap (λ n. plan_told n later) here
plan_told-append from (mask ∷ some) later =
    let next : from + 1 + length some ≡ from + length (mask ∷ some) = omega arith in
    ap (λ l. Plan from mask ∷ l) (plan_told-append (from + 1) some later ∙ ap (λ n. plan_told (from + 1) some ++ plan_told n later) next)

-- the cycle after some of them is given by its number
plan_told-split : (from next : ℕ) (left some later : List ℕ) → left ≡ some ++ later → next ≡ from + length some
    → plan_told from left ≡ plan_told from some ++ plan_told next later
plan_told-split from next left some later is at =
    ap (plan_told from) is ∙ plan_told-append from some later ∙ ap (λ n. plan_told from some ++ plan_told n later) (sym at)

pub plans-split : (from next : ℕ) (left some later : List ℕ) → left ≡ some ++ later → next ≡ from + length some
    → text_of_rows (plan_told from left) ≡ text_of_rows (plan_told from some) ++ text_of_rows (plan_told next later)
plans-split from next left some later is at =
    ap text_of_rows (plan_told-split from next left some later is at) ∙ flat_map-append row_text (plan_told from some) (plan_told next later)

pub plans-joined : (from next : ℕ) (left some later : List ℕ) → left ≡ some ++ later → next ≡ from + length some
    → All IsLogRow (plan_told from some) → All IsLogRow (plan_told next later) → All IsLogRow (plan_told from left)
plans-joined from next left some later is at first rest =
    subst (All IsLogRow) (sym (plan_told-split from next left some later is at)) (All-append IsLogRow (plan_told from some) (plan_told next later) first rest)

-- the rows from a place on begin with the row at the place
plan_told-at : (from : ℕ) (masks : List ℕ) (place d mask : ℕ) → place < length masks → get_or masks place d ≡ mask
    → plan_told (from + place) (drop place masks) ≡ Plan (from + place) mask ∷ plan_told (from + (place + 1)) (drop (place + 1) masks)
plan_told-at from masks place d mask within is =
    let next : place + 1 ≡ suc place = omega arith in
    let later : from + place + 1 ≡ from + (place + 1) = omega arith in
    ap (plan_told (from + place)) (drop-cons masks place d within)
    ∙ ap (λ m. Plan (from + place) m ∷ plan_told (from + place + 1) (drop (suc place) masks)) is
    ∙ ap (λ n. Plan (from + place) mask ∷ plan_told n (drop (suc place) masks)) later
    ∙ ap (λ n. Plan (from + place) mask ∷ plan_told (from + (place + 1)) (drop n masks)) (sym next)

pub plan_rows-at : (from : ℕ) (masks : List ℕ) (place d mask : ℕ) → place < length masks → get_or masks place d ≡ mask
    → text_of_rows (plan_told (from + place) (drop place masks))
    ≡ row_text (Plan (from + place) mask) ++ text_of_rows (plan_told (from + (place + 1)) (drop (place + 1) masks))
plan_rows-at from masks place d mask within is = ap text_of_rows (plan_told-at from masks place d mask within is)

-- with the row at a place the rows from it on are in range
pub plans_told-at : (from : ℕ) (masks : List ℕ) (place d mask : ℕ) → place < length masks → get_or masks place d ≡ mask
    → All IsLogRow (plan_told (from + (place + 1)) (drop (place + 1) masks)) → IsLogRow (Plan (from + place) mask)
    → All IsLogRow (plan_told (from + place) (drop place masks))
plans_told-at from masks place d mask within is later here =
    subst (All IsLogRow) (sym (plan_told-at from masks place d mask within is))
    (All-cons IsLogRow (Plan (from + place) mask) (plan_told (from + (place + 1)) (drop (place + 1) masks)) here later)
