-- The openings of a history with more events, and openings of the cycles from 0 on.
use Rattle.std.proofs.Common.{◌≡◌, ℕ, ◌<◌, List, [], ◌∷◌, ◌++◌, get_or, length, map, sym, ap, ◌∙◌, arith, append_assoc, append-nil, zero-add}
use Rattle.std.specs.List.{range_with_len}
use Rattle.std.proofs.lemmas.List.{get_or-map, length-map}
use Rattle.std.proofs.lemmas.List.FromFn.{get_or-range_with_len, length-range_with_len}
use Rattle.requirement_table.specs.Opening.{Opening}
use Rattle.master_core.specs.declared.event.Event.{Event}
use Rattle.master_core.specs.Openings.{opening_of, openings_after, openings_of}
use Rattle.cycle_engine.specs.Offered.{AreOfDistinctCycles}

openings_after-append : (before events later : List Event)
    → openings_after before (events ++ later) ≡ openings_after before events ++ openings_after (before ++ events) later
openings_after-append before [] later = ap (λ h. openings_after h later) (sym (append-nil before))
openings_after-append before (event ∷ events) later =
    ap (λ l. opening_of before event ++ l)
    (openings_after-append (before ++ event ∷ []) events later
    ∙ ap (λ h. openings_after (before ++ event ∷ []) events ++ openings_after h later) (append_assoc before (event ∷ []) events))
    ∙ sym (append_assoc (opening_of before event) (openings_after (before ++ event ∷ []) events) (openings_after (before ++ event ∷ events) later))

pub openings_of-append : (history later : List Event)
    → openings_of (history ++ later) ≡ openings_of history ++ openings_after history later
openings_of-append history later = openings_after-append [] history later

-- openings of the cycles from 0 on stand at the places of their cycles
module _ (openings : List Opening) (n : ℕ) (in_order : map (λ o. o.cycle) openings ≡ range_with_len 0 n) where
  pub so-many : length openings ≡ n
  so-many = sym (length-map openings (λ o. o.cycle)) ∙ ap length in_order ∙ length-range_with_len 0 n

  pub cycle-at : (k : ℕ) (d : Opening) → k < length openings → (get_or openings k d).cycle ≡ k
  cycle-at k d here =
      let all = so-many in
      sym (get_or-map (λ o. o.cycle) openings k d d.cycle here) ∙ ap (λ l. get_or l k d.cycle) in_order
      ∙ get_or-range_with_len 0 n k d.cycle (omega (arith, here, all)) ∙ zero-add k

  -- so they are of distinct cycles
  pub distinct : AreOfDistinctCycles openings
  distinct i j d before within same =
      let one = cycle-at i d (omega (arith, before, within)) in
      let other = cycle-at j d within in
      omega (arith, one, other, same, before)
