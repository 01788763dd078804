-- The rows of combinations that are refused, row by row.
use Rattle.std.proofs.Common.{◌≡◌, ℕ, ◌+◌, ◌<◌, List, [], ◌∷◌, ◌++◌, get_or, length, take, sym, ap, ◌∙◌, arith, append_assoc}
use Rattle.std.proofs.lemmas.List.{append-nil, take_more, length-take-le}
use Rattle.admission.specs.declared.verdict.Verdict.{Verdict}
use Rattle.elastic.specs.ChoiceRows.{tried_row, tried_rows}

-- the row of the last combination comes last
tried-last : (number at : ℕ) (verdicts : List Verdict) (verdict : Verdict) → at ≡ number + length verdicts
    → tried_rows number (verdicts ++ verdict ∷ []) ≡ tried_rows number verdicts ++ tried_row at verdict
tried-last number at [] verdict is =
    let here : at ≡ number = omega arith in
    append-nil (tried_row number verdict) ∙ ap (λ n. tried_row n verdict) (sym here)
tried-last number at (first ∷ verdicts) verdict is =
    ap (λ l. tried_row number first ++ l) (tried-last (number + 1) at verdicts verdict (omega arith))
    ∙ sym (append_assoc (tried_row number first) (tried_rows (number + 1) verdicts) (tried_row at verdict))

-- the text with the row of one combination more
pub tried-next : (verdicts : List Verdict) (place : ℕ) (d : Verdict) (old now new : List ℕ) → place < length verdicts
    → now ≡ old ++ tried_rows 0 (take place verdicts) → new ≡ now ++ tried_row place (get_or verdicts place d)
    → new ≡ old ++ tried_rows 0 (take (place + 1) verdicts)
tried-next verdicts place d old now new within so_far more =
    let row = tried_row place (get_or verdicts place d) in
    let count = length-take-le place verdicts (omega (arith, within)) in
    more
    ∙ ap (λ l. l ++ row) so_far
    ∙ append_assoc old (tried_rows 0 (take place verdicts)) row
    ∙ ap (λ l. old ++ l) (sym (tried-last 0 place (take place verdicts) (get_or verdicts place d) (omega (arith, count))))
    ∙ ap (λ l. old ++ tried_rows 0 l) (sym (take_more verdicts place d within))
