-- A text that begins with a log has one log that it begins with.
use Rattle.std.proofs.Common.{◌≡◌, ◌≢◌, ◌+◌, ◌++◌, ℕ, zero, suc, false, true, List, [], ◌∷◌, All, get_or, map, refl, sym, ap, ◌∙◌, arith, append_assoc}
use Rattle.std.specs.List.{join_with_byte, list_all}
use Rattle.std.proofs.lemmas.Bool.{and_parts}
use Rattle.std.proofs.lemmas.List.Elements.{All-head, All-tail}
use Rattle.can_frame.specs.declared.data_frame.TimedFrame.{TimedFrame}
use Rattle.master_core.specs.declared.event.Event.{Event}
use Rattle.master_core.specs.declared.event.Event.TheVariants.{Submit, Look, Open}
use Rattle.text_fields.specs.Lines.{HasNoFeed}
use Rattle.text_fields.proofs.Shared.{ArePlain, is_plain, no_feed-append, same_line}
use Rattle.bus_trace.specs.Log.{started_in}
use Rattle.bus_trace.specs.LogRows.{event_told, events_told, plan_told}
use Rattle.log_reader.specs.Row.{IsLogRow, fields_of_row, row_line, text_of_rows}
use Rattle.log_reader.proofs.Shared.{row-plain}
use Rattle.log_reader.specs.declared.row.LogRow.{LogRow}
use Rattle.log_reader.specs.declared.row.LogRow.TheVariants as row
use Rattle.trace_audit.specs.Auditing.{is_end}

-- The line of a row has no line feed

no_feed-cons : (x : ℕ) (xs : List ℕ) → x ≢ 10 → HasNoFeed xs → HasNoFeed (x ∷ xs)
no_feed-cons x xs h0 h1 = grind arith

plain-other : (x : ℕ) → is_plain x ≡ true → x ≢ 10
plain-other x test is = let same = ap is_plain is in absurd (cc)

plain-feedless : (xs : List ℕ) → list_all is_plain xs ≡ true → HasNoFeed xs
plain-feedless [] all = λ i within. absurd (omega (arith, within))
plain-feedless (x ∷ xs) all =
    let (here, more) = and_parts (is_plain x) (list_all is_plain xs) all in
    no_feed-cons x xs (plain-other x here) (plain-feedless xs more)

joined : (fields : List (List ℕ)) → ArePlain fields → HasNoFeed (join_with_byte 44 fields)
joined [] all = λ i within. absurd (omega (arith, within))
joined (field ∷ []) all = plain-feedless field all.0
joined (field ∷ other ∷ fields) all =
    no_feed-append field (44 ∷ join_with_byte 44 (other ∷ fields)) (plain-feedless field all.0)
    (no_feed-cons 44 (join_with_byte 44 (other ∷ fields)) (λ is. omega (arith, is)) (joined (other ∷ fields) all.1))

line-feedless : (line : LogRow) → IsLogRow line → HasNoFeed (row_line line)
line-feedless line legal = joined (fields_of_row line) (row-plain line legal)

-- The last row is the only one of its kind

abbrev AllGo : List LogRow → Type 0
AllGo [] = Unit {0}
AllGo (line ∷ lines) = (is_end line ≡ false) × AllGo lines

go-append : (xs ys : List LogRow) → AllGo xs → AllGo ys → AllGo (xs ++ ys)
go-append [] ys one other = other
go-append (x ∷ xs) ys one other = (one.0, go-append xs ys one.1 other)

go-plan : (cycle : ℕ) (masks : List ℕ) → AllGo (plan_told cycle masks)
go-plan cycle [] = tt
go-plan cycle (mask ∷ masks) = (refl, go-plan (cycle + 1) masks)

go-frames : (frames : List TimedFrame) → AllGo (map row.Frame frames)
go-frames [] = tt
go-frames (sent ∷ frames) = (refl, go-frames frames)

go-event : (trace : List TimedFrame) (before : List Event) (event : Event) → AllGo (event_told trace before event)
go-event trace before event = grind (arith, go-plan, go-frames)

pub go-events : (trace : List TimedFrame) (before events : List Event) → AllGo (events_told trace before events)
go-events trace before [] = tt
go-events trace before (event ∷ events) =
    go-append (event_told trace before event) (events_told trace (before ++ event ∷ []) events)
    (go-event trace before event) (go-events trace (before ++ event ∷ []) events)

-- The first line of a text

split-line : (line rest more : List ℕ) → ((line ++ 10 ∷ []) ++ rest) ++ more ≡ line ++ 10 ∷ (rest ++ more)
split-line line rest more = append_assoc (line ++ 10 ∷ []) rest more ∙ append_assoc line (10 ∷ []) (rest ++ more)

same-first : (one other : LogRow) (rest rest2 more more2 : List ℕ) → IsLogRow one → IsLogRow other
    → ((row_line one ++ 10 ∷ []) ++ rest) ++ more ≡ ((row_line other ++ 10 ∷ []) ++ rest2) ++ more2
    → (row_line one ≡ row_line other) × (rest ++ more ≡ rest2 ++ more2)
same-first one other rest rest2 more more2 legal legal2 same = grind (arith, same_line, line-feedless, split-line)

same-text : (one other rest rest2 : List ℕ) → one ≡ other → rest ≡ rest2
    → (one ++ 10 ∷ []) ++ rest ≡ (other ++ 10 ∷ []) ++ rest2
same-text one other rest rest2 line more = ap (λ l. (l ++ 10 ∷ []) ++ rest) line ∙ ap (λ l. (other ++ 10 ∷ []) ++ l) more

-- two texts that begin with rows, of which the last alone is a last row, are equal only where these rows have equal texts
pub same-front : (xs ys : List LogRow) (one other : ℕ) (more more2 : List ℕ) → AllGo xs → AllGo ys
    → All IsLogRow (xs ++ row.End one ∷ []) → All IsLogRow (ys ++ row.End other ∷ [])
    → text_of_rows (xs ++ row.End one ∷ []) ++ more ≡ text_of_rows (ys ++ row.End other ∷ []) ++ more2
    → (text_of_rows (xs ++ row.End one ∷ []) ≡ text_of_rows (ys ++ row.End other ∷ [])) × (more ≡ more2)
same-front [] [] one other more more2 go go2 legal legal2 same =
    let (line, rest) = same-first (row.End one) (row.End other) [] [] more more2
    (All-head IsLogRow (row.End one) [] legal) (All-head IsLogRow (row.End other) [] legal2) same in
    (same-text (row_line (row.End one)) (row_line (row.End other)) [] [] line refl, rest)
same-front [] (y ∷ ys) one other more more2 go go2 legal legal2 same = grind (arith, same-first)
same-front (x ∷ xs) [] one other more more2 go go2 legal legal2 same = grind (arith, same-first)
same-front (x ∷ xs) (y ∷ ys) one other more more2 go go2 legal legal2 same =
    let (line, rest) = same-first x y (text_of_rows (xs ++ row.End one ∷ [])) (text_of_rows (ys ++ row.End other ∷ [])) more more2
    (All-head IsLogRow x (xs ++ row.End one ∷ []) legal) (All-head IsLogRow y (ys ++ row.End other ∷ []) legal2) same in
    let (texts, behind) = same-front xs ys one other more more2 go.1 go2.1
    (All-tail IsLogRow x (xs ++ row.End one ∷ []) legal) (All-tail IsLogRow y (ys ++ row.End other ∷ []) legal2) rest in
    (same-text (row_line x) (row_line y) (text_of_rows (xs ++ row.End one ∷ [])) (text_of_rows (ys ++ row.End other ∷ [])) line texts, behind)
