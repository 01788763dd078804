-- The widths of the openings of a legal history, by the entries that are placed in the end.
use Rattle.std.proofs.Common.{◌≡◌, ℕ, ◌+◌, cond, Option, Some, None, List, [], ◌∷◌, ◌++◌, map, refl, sym, ap, ◌∙◌}
use Rattle.std.specs.List.{All}
use Rattle.std.specs.Option.{option_map, option_map_or}
use Rattle.std.proofs.lemmas.List.Elements.{All-head, All-tail}
use Rattle.std.proofs.lemmas.List.Sums.{sum_by_push}
use Rattle.requirement_table.specs.declared.entries.Placed.{Placed}
use Rattle.requirement_table.specs.Instance.{Instance, worst_of}
use Rattle.requirement_table.specs.Opening.{Opening, width_of}
use Rattle.bit_sets.specs.Sets.{has_bit, most_slots}
use Rattle.requirement_table.specs.Table.{instance_in, width_in, worst_in}
use Rattle.change_protocol.specs.Applied.{without_end}
use Rattle.bit_sets.proofs.Shared.{sum_where-costs}
use Rattle.admission_rules.specs.declared.Rules.{Rules}
use Rattle.master_core.specs.declared.event.Event.{Event}
use Rattle.master_core.specs.declared.event.Event.TheVariants.{Submit, Look, Open}
use Rattle.master_core.specs.History.{AllAfter, IsLegal, IsRight, is_open, next_of, placed_of}
use Rattle.master_core.specs.Openings.{openings_after, openings_of}
use Rattle.plan_report.specs.Opened.{opened_widths}

-- in the cycle of the opening each slot has the same instance among these entries, but for its end
abbrev pub IsSameIn : List Placed → Opening → Type 0
IsSameIn placed o = (slot : ℕ) → option_map without_end (instance_in o.placed slot o.cycle) ≡ option_map without_end (instance_in placed slot o.cycle)

unended : (o : Option Instance) → option_map_or worst_of (option_map without_end o) 0 ≡ option_map_or worst_of o 0
unended None = refl
unended (Some i) = refl

-- so the opening has the same width
width-same : (placed : List Placed) (o : Opening) → IsSameIn placed o → width_in placed o.cycle (has_bit o.mask) ≡ width_of o
width-same placed o same =
    sum_where-costs most_slots (has_bit o.mask) (worst_in placed o.cycle) (worst_in o.placed o.cycle)
    (λ s below _. sym (unended (instance_in placed s o.cycle)) ∙ ap (λ i. option_map_or worst_of i 0) (sym (same s)) ∙ unended (instance_in o.placed s o.cycle))

next_of-push : (before : List Event) (event : Event) → next_of (before ++ event ∷ []) ≡ next_of before + cond (is_open event) 1 0
next_of-push before event = sum_by_push (λ e. cond (is_open e) 1 0) before event

widths-after : (rules : Rules) (placed : List Placed) (before events : List Event) (next : ℕ) → next ≡ next_of before
    → AllAfter (IsRight rules) before events → All (IsSameIn placed) (openings_after before events)
    → opened_widths placed next events ≡ map width_of (openings_after before events)
widths-after rules placed before [] next is right same = refl
widths-after rules placed before (Submit caller change from verdict trail ∷ later) next is right same =
    widths-after rules placed (before ++ Submit caller change from verdict trail ∷ []) later (next + 0)
    (ap (λ n. n + 0) is ∙ sym (next_of-push before (Submit caller change from verdict trail))) right.1 same
widths-after rules placed before (Look caller looked ∷ later) next is right same =
    widths-after rules placed (before ++ Look caller looked ∷ []) later (next + 0)
    (ap (λ n. n + 0) is ∙ sym (next_of-push before (Look caller looked))) right.1 same
widths-after rules placed before (Open cycle mask ∷ later) next is right same =
    let this : Opening = record { cycle = cycle; mask = mask; placed = placed_of before } in
    let now : next ≡ cycle = is ∙ sym right.0.0 in
    ap (λ n. width_in placed n (has_bit mask) ∷ opened_widths placed (next + 1) later) now
    ∙ ap (λ w. w ∷ opened_widths placed (next + 1) later)
    (width-same placed this (All-head (IsSameIn placed) this (openings_after (before ++ Open cycle mask ∷ []) later) same))
    ∙ ap (λ l. width_of this ∷ l)
    (widths-after rules placed (before ++ Open cycle mask ∷ []) later (next + 1)
    (ap (λ n. n + 1) is ∙ sym (next_of-push before (Open cycle mask))) right.1
    (All-tail (IsSameIn placed) this (openings_after (before ++ Open cycle mask ∷ []) later) same))

pub widths-opened : (rules : Rules) (history : List Event) → IsLegal rules history → All (IsSameIn (placed_of history)) (openings_of history)
    → opened_widths (placed_of history) 0 history ≡ map width_of (openings_of history)
widths-opened rules history legal same = widths-after rules (placed_of history) [] history 0 refl legal same
