-- The ends that the operations of a change set, one operation after the other.
use Rattle.std.proofs.Common.{◌≡◌, ◌≢◌, ℕ, ◌+◌, ◌<◌, ◌⊎◌, Bool, true, false, ◌&&◌, ◌||◌, nat_eq, if◌then◌else◌, Option, Some, None, IfSome, is_none, List, [], ◌∷◌, ◌++◌, AllPairs, length, get_or, set, length-set, map, take, refl, sym, ap, ◌∙◌, ⊎_elim, arith}
use Rattle.std.specs.List.{list_any}
use Rattle.std.proofs.lemmas.Bool.{and_parts, cases_Bool, cases_eq, cases_order, eq-eqb, eqb-true}
use Rattle.std.proofs.lemmas.Grind.{get_or-set_at}
use Rattle.std.proofs.lemmas.List.{get_or-map, get_or-set_other, get_or_default, length-map, same_lists, take_more}
use Rattle.std.proofs.lemmas.List.Folds.{list_any-append}
use Rattle.requirement_table.specs.declared.entries.Placed.{Placed}
use Rattle.requirement_table.specs.Table.{GoesBefore}
use Rattle.change_protocol.specs.declared.operations.Op.{Op}
use Rattle.change_protocol.specs.declared.operations.Op.TheVariants.{Remove}
use Rattle.change_protocol.specs.Applied.{ended, live_in, lives_in}
use Rattle.change_protocol.specs.Operations.{ends}
use Rattle.change_protocol.specs.Slots.{FindsOnly, IsLastAt, IsOnlyAt, ended_by}
use Rattle.change_protocol.proofs.Kept.{none-from_test}
use Rattle.change_protocol.proofs.Live.{find-none}
use Rattle.change_protocol.proofs.Uses.{no_entry}
use Rattle.change_protocol.proofs.WellPlaced.{never-free}

-- the place of a slot's live entry

not-lives : (slot : ℕ) (p : Placed) → lives_in slot p ≡ false → ended_by (Remove slot) p ≡ false
not-lives slot p dead = grind (arith, and_parts, is_none, eq-eqb, eqb-true)

pub finds-none : (placed : List Placed) (slot : ℕ) → live_in placed slot ≡ None → FindsOnly (ended_by (Remove slot)) placed None
finds-none placed slot none k d within = not-lives slot (get_or placed k d) (find-none (lives_in slot) placed none k d within)

live-at : (placed : List Placed) (slot place : ℕ) → AllPairs GoesBefore placed → IsLastAt placed slot place
    → ((d : Placed) → (get_or placed place d).end ≡ None) → IsOnlyAt (ended_by (Remove slot)) placed place
live-at placed slot place pairs last live = record {
  within = last.within;
  holds = grind (arith, eq-eqb);
  others = λ k d within other.
      let p = get_or placed k d in
      let at = last.has d in
      let below = last.within in
      ⊎_elim
      (λ (yes : ended_by (Remove slot) p ≡ true).
      let parts = and_parts (nat_eq slot p.entry.slot) (is_none p.end) yes in
      let has : slot ≡ p.entry.slot = eqb-true slot p.entry.slot parts.0 in
      absurd (⊎_elim
      (λ (same : k ≡ place). other same)
      (λ (rest : (k < place) ⊎ (place < k)).
      ⊎_elim
      (λ (earlier : k < place). never-free p (get_or placed place d).origin (none-from_test p.end parts.1) (pairs k place d earlier below (sym has ∙ sym at)))
      (λ (later : place < k). never-free (get_or placed place d) p.origin (live d) (pairs place k d later within (at ∙ has)))
      rest)
      (cases_order k place)))
      (λ (no : ended_by (Remove slot) p ≡ false). no)
      (cases_Bool (ended_by (Remove slot) p));
}

-- the slot's last entry is live
pub finds-live : (placed : List Placed) (slot place : ℕ) (e : Placed) → AllPairs GoesBefore placed → IsLastAt placed slot place
    → is_none (get_or placed place e).end ≡ true → FindsOnly (ended_by (Remove slot)) placed (Some place)
finds-live placed slot place e pairs last live =
    live-at placed slot place pairs last
    (λ d. ap (λ (q : Placed). q.end) (get_or_default placed place d e last.within) ∙ none-from_test (get_or placed place e).end live)

-- the place that is found is one of the list
pub place-within : (placed list : List Placed) (start : ℕ) (ops : List Op) (test : Placed → Bool) (found : Option ℕ) → FindsOnly test placed found
    → list ≡ map (ended start ops) placed → IfSome found (λ k. k < length list)
place-within placed list start ops test found finds before = grind (arith, length-map)

-- one operation more

and-false : (b : Bool) → (b && false) ≡ false
and-false b = grind arith

tests-same : (ending none other : Bool) → (ending && none) ≡ false → (none && (other || (ending || false))) ≡ (none && other)
tests-same ending none other both = grind arith

tests-now : (ending none other : Bool) → (ending && none) ≡ true → (none && (other || (ending || false))) ≡ true
tests-now ending none other both = grind arith

any-more : (slot : ℕ) (ops : List Op) (op : Op) → list_any (ends slot) (ops ++ op ∷ []) ≡ (list_any (ends slot) ops || (ends slot op || false))
any-more slot ops op = list_any-append (ends slot) ops (op ∷ [])

ended-if : (start : ℕ) (p : Placed) (one other : Bool) → one ≡ other
    → (if one then record p { end = Some start } else p) ≡ (if other then record p { end = Some start } else p)
ended-if start p one other same = ap (λ (b : Bool). if b then record p { end = Some start } else p) same

ended-other : (start : ℕ) (ops : List Op) (op : Op) (p : Placed) → ended_by op p ≡ false → ended start (ops ++ op ∷ []) p ≡ ended start ops p
ended-other start ops op p stays =
    ended-if start p (is_none p.end && list_any (ends p.entry.slot) (ops ++ op ∷ [])) (is_none p.end && list_any (ends p.entry.slot) ops)
    (ap (λ (any : Bool). is_none p.end && any) (any-more p.entry.slot ops op)
    ∙ tests-same (ends p.entry.slot op) (is_none p.end) (list_any (ends p.entry.slot) ops) stays)

ended-now : (start : ℕ) (ops : List Op) (op : Op) (p : Placed) → ended_by op p ≡ true → ended start (ops ++ op ∷ []) p ≡ record p { end = Some start }
ended-now start ops op p now =
    ended-if start p (is_none p.end && list_any (ends p.entry.slot) (ops ++ op ∷ [])) true
    (ap (λ (any : Bool). is_none p.end && any) (any-more p.entry.slot ops op)
    ∙ tests-now (ends p.entry.slot op) (is_none p.end) (list_any (ends p.entry.slot) ops) now)

end-again : (start : ℕ) (p : Placed) (b : Bool) → record (if b then record p { end = Some start } else p) { end = Some start } ≡ record p { end = Some start }
end-again start p b = grind arith

-- no operation sets no end
pub none-ended : (start : ℕ) (placed : List Placed) → map (ended start []) placed ≡ placed
none-ended start [] = refl
none-ended start (p ∷ placed) =
    let same : ended start [] p ≡ p = ended-if start p (is_none p.end && false) false (and-false (is_none p.end)) in
    ap (λ (q : Placed). q ∷ map (ended start []) placed) same ∙ ap (λ (l : List Placed). p ∷ l) (none-ended start placed)

-- the end that one operation more sets
pub ended-more : (placed list new : List Placed) (start : ℕ) (ops : List Op) (op : Op) (found : Option ℕ) → FindsOnly (ended_by op) placed found
    → list ≡ map (ended start ops) placed → (found ≡ None → new ≡ list)
    → ((k : ℕ) (d : Placed) → found ≡ Some k → new ≡ set list k (record (get_or list k d) { end = Some start }))
    → new ≡ map (ended start (ops ++ op ∷ [])) placed
ended-more placed list new start ops op None finds before none some =
    none refl ∙ before
    ∙ same_lists (map (ended start ops) placed) (map (ended start (ops ++ op ∷ [])) placed)
    (length-map placed (ended start ops) ∙ sym (length-map placed (ended start (ops ++ op ∷ []))))
    (λ k d within.
    let below : k < length placed = rw (length-map placed (ended start ops)) at within in
    get_or-map (ended start ops) placed k d d below
    ∙ sym (ended-other start ops op (get_or placed k d) (finds k d below))
    ∙ sym (get_or-map (ended start (ops ++ op ∷ [])) placed k d d below))
ended-more placed list new start ops op (Some place) finds before none some =
    let f = ended start ops in
    let g = ended start (ops ++ op ∷ []) in
    let p = get_or placed place no_entry in
    let at = finds.within in
    let value = record (get_or (map f placed) place no_entry) { end = Some start } in
    let room = length-map placed f in
    let is : value ≡ g p =
    ap (λ (q : Placed). record q { end = Some start }) (get_or-map f placed place no_entry no_entry at)
    ∙ end-again start p (is_none p.end && list_any (ends p.entry.slot) ops)
    ∙ sym (ended-now start ops op p (finds.holds no_entry)) in
    some place no_entry refl
    ∙ ap (λ (l : List Placed). set l place (record (get_or l place no_entry) { end = Some start })) before
    ∙ same_lists (set (map f placed) place value) (map g placed) (length-set (map f placed) place value ∙ room ∙ sym (length-map placed g))
    (λ k d within.
    let below : k < length placed = rw (length-set (map f placed) place value, room) at within in
    ⊎_elim
    (λ (same : k ≡ place).
    get_or-set_at (map f placed) place k value d same (rw room at)
    ∙ is
    ∙ sym (get_or-map g placed place no_entry d at)
    ∙ ap (λ (j : ℕ). get_or (map g placed) j d) (sym same))
    (λ (other : k ≢ place).
    get_or-set_other (map f placed) place k value d other
    ∙ get_or-map f placed k d d below
    ∙ sym (ended-other start ops op (get_or placed k d) (finds.others k d below other))
    ∙ sym (get_or-map g placed k d d below))
    (cases_eq k place))

-- the same in the loop over the operations
pub ended-next : (placed list new : List Placed) (start : ℕ) (ops : List Op) (i : ℕ) (d : Op) (found : Option ℕ) → i < length ops
    → FindsOnly (ended_by (get_or ops i d)) placed found → list ≡ map (ended start (take i ops)) placed → (found ≡ None → new ≡ list)
    → ((k : ℕ) (e : Placed) → found ≡ Some k → new ≡ set list k (record (get_or list k e) { end = Some start }))
    → new ≡ map (ended start (take (i + 1) ops)) placed
ended-next placed list new start ops i d found within finds before none some =
    rw (take_more ops i d within) (ended-more placed list new start (take i ops) (get_or ops i d) found finds before none some)
