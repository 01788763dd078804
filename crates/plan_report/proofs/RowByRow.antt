-- The rows of the report, row by row.
use Rattle.std.proofs.Common.{◌≡◌, ℕ, suc, ◌+◌, ◌-◌, ◌<◌, Bool, true, false, cond, List, [], ◌∷◌, ◌++◌, length, map, take, get_or, slice_get, slice_index, slice_index_or, Option, Some, refl, sym, ap, subst, ◌∙◌, arith, append_assoc}
use Rattle.std.specs.List.{flat_map}
use Rattle.std.proofs.lemmas.List.{append-nil, get_or_default, length-drop, length-map, take_more}
use Rattle.std.proofs.lemmas.List.Concat.{flat_map-append}
use Rattle.std.proofs.lemmas.Option.{slice_get-get_or}
use Rattle.can_frame.specs.declared.data_frame.TimedFrame.{TimedFrame}
use Rattle.requirement_table.specs.declared.entries.Placed.{Placed}
use Rattle.requirement_table.specs.Opening.{width_of}
use Rattle.async_window.specs.declared.request.Owner.{Owner}
use Rattle.async_window.specs.declared.request.Request.{Request}
use Rattle.async_window.specs.Waiting.{frames_with, requests_of, unsent_after}
use Rattle.master_core.specs.declared.event.Event.{Event}
use Rattle.master_core.specs.History.{placed_of}
use Rattle.master_core.specs.Openings.{openings_of}
use Rattle.plan_report.specs.Opened.{load_of}
use Rattle.plan_report.specs.Report.{async_row, delay_of, entry_row, identifiers, is_owned, load_row, owned_below, report_text, requests_row, sent_of}
use Rattle.plan_report.specs.Tally.{AreTallies, IsTally, tally_of}
use Rattle.plan_report.specs.declared.tally.Count.{Count}
use Rattle.plan_report.specs.declared.tally.Tally.{Tally}
use Rattle.plan_report.specs.Written.{owned_row, tally_row, widths_row}
use Rattle.plan_report.specs.declared.load.Load.{Load}

-- the row by what was counted is that of the entry
pub entry-row : (trace : List TimedFrame) (p : Placed) (tally : Tally) → IsTally trace p tally → tally_row p tally ≡ entry_row trace p
entry-row trace p tally is =
    let count : tally.instances ≡ length (map (delay_of p) (sent_of trace p)) = is.instances ∙ sym (length-map (sent_of trace p) (delay_of p)) in
    let least = is.least in
    let greatest = is.greatest in
    cc

-- no identifiers below 0
pub owned-none : (owners : List Owner) (row : ℕ → List ℕ) → flat_map row (owned_below owners 0) ≡ []
unfolding owned_below
owned-none owners row = refl

owned-next : (owners : List Owner) (id : ℕ) → owned_below owners (id + 1) ≡ owned_below owners id ++ cond (is_owned owners id) (id ∷ []) []
unfolding owned_below
owned-next owners id = let next : id + 1 ≡ suc id = omega arith in ap (owned_below owners) next

one-row : (b : Bool) (row : ℕ → List ℕ) (id : ℕ) → flat_map row (cond b (id ∷ []) []) ≡ cond b (row id) []
one-row true row id = append-nil (row id)
one-row false row id = refl

-- the row of one identifier more
pub owned-row : (trace : List TimedFrame) (owners : List Owner) (requests : List Request) (id : ℕ) (owned : Bool) (sent asked : ℕ)
    → owned ≡ is_owned owners id → sent ≡ frames_with trace id → asked ≡ length (requests_of requests id)
    → flat_map (async_row trace requests) (owned_below owners id) ++ owned_row id owned sent asked
    ≡ flat_map (async_row trace requests) (owned_below owners (id + 1))
owned-row trace owners requests id owned sent asked owned_is sent_is asked_is =
    let row = async_row trace requests in
    let left : asked - sent ≡ length (unsent_after requests trace id) =
    ap (λ n. n - sent) asked_is ∙ ap (λ n. length (requests_of requests id) - n) sent_is
    ∙ sym (length-drop (frames_with trace id) (requests_of requests id)) in
    let this : owned_row id owned sent asked ≡ cond (is_owned owners id) (row id) [] =
    ap (λ b. cond b (requests_row id sent (asked - sent)) []) owned_is
    ∙ ap (λ n. cond (is_owned owners id) (requests_row id n (asked - sent)) []) sent_is
    ∙ ap (λ n. cond (is_owned owners id) (requests_row id (frames_with trace id) n) []) left in
    ap (λ l. flat_map row (owned_below owners id) ++ l) (this ∙ sym (one-row (is_owned owners id) row id))
    ∙ sym (flat_map-append row (owned_below owners id) (cond (is_owned owners id) (id ∷ []) []))
    ∙ ap (flat_map row) (sym (owned-next owners id))

same-element : {X : Type 0} (xs : List X) (i j : ℕ) (x d : X) → j ≡ i → i < length xs → x ≡ get_or xs j x → x ≡ get_or xs i d
same-element xs i j x d same within here = here ∙ ap (λ k. get_or xs k x) same ∙ get_or_default xs i x d within

-- the text with the row of one entry more
pub entries-next : (trace : List TimedFrame) (placed : List Placed) (counts : List (Option Count)) (i : ℕ) (d : Placed) (count : Option Count) (tally : Tally)
    (old now new : List ℕ)
    → AreTallies trace placed counts → i < length placed → count ≡ get_or counts i count → tally ≡ tally_of count
    → now ≡ old ++ flat_map (entry_row trace) (take i placed) → new ≡ now ++ tally_row (get_or placed i d) tally
    → new ≡ old ++ flat_map (entry_row trace) (take (i + 1) placed)
entries-next trace placed counts i d count tally old now new are within here told so_far more =
    let row = entry_row trace in
    let p : Placed = get_or placed i d in
    let same = are.count in
    let read : slice_get counts i ≡ Some count = slice_get-get_or counts i count (omega arith) ∙ ap (λ t. Some t) (sym here) in
    let counted : IsTally trace p tally = subst (IsTally trace p) (sym told) (are.each i p count (slice_get-get_or placed i d within) read).tally in
    more
    ∙ ap (λ r. now ++ r) (entry-row trace p tally counted ∙ sym (append-nil (row p)))
    ∙ ap (λ l. l ++ flat_map row (p ∷ [])) so_far
    ∙ append_assoc old (flat_map row (take i placed)) (flat_map row (p ∷ []))
    ∙ ap (λ l. old ++ l) (sym (flat_map-append row (take i placed) (p ∷ [])))
    ∙ ap (λ l. old ++ flat_map row l) (sym (take_more placed i d within))

-- the text with the row of one identifier more
pub async-next : (trace : List TimedFrame) (owners : List Owner) (requests : List Request) (marks : List Bool) (frames asks : List ℕ) (id place : ℕ)
    (owned : Bool) (sent asked : ℕ) (old now new : List ℕ) → id < identifiers → place ≡ id
    → length marks ≡ identifiers → ((n : ℕ) → n < identifiers → slice_index_or marks n false ≡ is_owned owners n)
    → length frames ≡ identifiers → ((n : ℕ) → n < identifiers → slice_index frames n ≡ frames_with trace n)
    → length asks ≡ identifiers → ((n : ℕ) → n < identifiers → slice_index asks n ≡ length (requests_of requests n))
    → owned ≡ get_or marks place owned → sent ≡ get_or frames place sent → asked ≡ get_or asks place asked
    → now ≡ old ++ flat_map (async_row trace requests) (owned_below owners id) → new ≡ now ++ owned_row id owned sent asked
    → new ≡ old ++ flat_map (async_row trace requests) (owned_below owners (id + 1))
async-next trace owners requests marks frames asks id place owned sent asked old now new known same marks_long marked frames_long counted asks_long asks_counted owned_is sent_is asked_is so_far more =
    more
    ∙ ap (λ l. l ++ owned_row id owned sent asked) so_far
    ∙ append_assoc old (flat_map (async_row trace requests) (owned_below owners id)) (owned_row id owned sent asked)
    ∙ ap (λ l. old ++ l) (owned-row trace owners requests id owned sent asked
    (same-element marks id place owned false same (omega arith) owned_is ∙ marked id known)
    (same-element frames id place sent 0 same (omega arith) sent_is ∙ counted id known)
    (same-element asks id place asked 0 same (omega arith) asked_is ∙ asks_counted id known))

-- the whole text
pub whole : (history : List Event) (trace : List TimedFrame) (owners : List Owner) (requests : List Request) (placed : List Placed) (load : Load)
    (start first second third : List ℕ) → start ≡ []
    → first ≡ start ++ flat_map (entry_row trace) placed
    → second ≡ first ++ flat_map (async_row trace requests) (owned_below owners identifiers)
    → third ≡ second ++ widths_row load
    → placed ≡ placed_of history → load ≡ load_of (map width_of (openings_of history))
    → third ≡ report_text history trace owners requests
whole history trace owners requests placed load start first second third none entries async widths placed_is load_is =
    let front = flat_map (entry_row trace) in
    let middle = flat_map (async_row trace requests) (owned_below owners identifiers) in
    widths
    ∙ ap (λ l. second ++ widths_row l) load_is
    ∙ ap (λ l. l ++ load_row (map width_of (openings_of history)))
    (async ∙ ap (λ l. l ++ middle) (entries ∙ ap (λ l. l ++ front placed) none ∙ ap front placed_is))
