use Rattle.std.proofs.Common.{◌≡◌, ◌+◌, ◌<◌, ◌≤◌, List, [], length, map, drop, All, AllPairs, ap, sym, ◌∙◌, subst, arith, rules}
use Rattle.std.proofs.lemmas.List.{take_at, length-map}
use Rattle.std.proofs.lemmas.List.Elements.{All-weaker}
use Rattle.async_window.specs.Mailbox.{Mail, left, mail_after}
use Rattle.async_window.specs.Adding.{with_request}
use Rattle.async_window.specs.Tournament.{TellFirsts}
use Rattle.async_window.specs.Sorted.{AreBoxesSorted, IsPlaceTable}
use Rattle.async_window.proofs.Table.{few-rising}
use Rattle.async_window.proofs.Steps.{HasPut, HasPut-none, HasPut-more, IsPlaceTable-put, rising-put}
use Rattle.async_window.proofs.Kept.{AreKept-made, IsMade, greatest-made, known-put, mail_of-put}
use Rattle.async_window.proofs.mailboxes.Mailboxes.new.Goals as goal
use Rattle.async_window.proofs.mailboxes.Mailboxes.new.Goals.{In_ok-sorted}

-- what is given, and the identifiers in their order
is-made : (c : In_ok-sorted) → IsMade c.args.ids.now c.in_ok-sorted.sorted.items c.args.requests.now
is-made c = grind arith

pub places-requires-clause-small : goal.places-requires-clause-small
places-requires-clause-small c =
    let made = is-made (goal.at.places-requires-clause-small c).In_ok-sorted in
    subst (λ xs. All (λ id. id < 2048) xs) (sym c.as_slice.ensures.value)
    (All-weaker (λ id. id ≤ 0x7EF) (λ id. id < 2048) (λ id low. omega arith) c.in_ok-sorted.sorted.items
    (greatest-made c.args.ids.now c.in_ok-sorted.sorted.items c.args.requests.now made))

pub loop-request-init : goal.loop-request-init
loop-request-init c =
    HasPut-none c.in_ok-sorted.sorted.items c.args.requests.now c.in_ok-boxes.boxes.items
    (c.in_ok-boxes.ensures.empty ∙ ap (λ ids. mail_after ids [] []) c.as_slice-3.ensures.value)

pub put-requires-clause-places : goal.put-requires-clause-places
put-requires-clause-places c =
    subst (λ mail. IsPlaceTable mail c.deref.result.now) (sym c.deref_mut.ensures.value)
    (subst (λ table. IsPlaceTable c.loop-request.boxes.items table) (sym c.deref.ensures.value)
    (IsPlaceTable-put c.in_ok-sorted.sorted.items c.args.requests.now c.loop-request.request-index c.loop-request.boxes.items c.loop-request.remaining
    c.in_ok-places.places.items c.loop-request.invariant
    (grind arith)))

pub put-requires-clause-rising : goal.put-requires-clause-rising
put-requires-clause-rising c =
    subst (λ (mail : List Mail). AllPairs (λ one other. one.identifier < other.identifier) mail) (sym c.deref_mut.ensures.value)
    (rising-put c.in_ok-sorted.sorted.items c.args.requests.now c.loop-request.request-index c.loop-request.boxes.items c.loop-request.remaining
    c.in_ok-sorted.ensures.rising c.loop-request.invariant)

pub put-requires-clause-greatest : goal.put-requires-clause-greatest
put-requires-clause-greatest c = grind (arith, is-made, known-put)

pub loop-request-preserved : goal.loop-request-preserved
loop-request-preserved c =
    let old : List Mail = c.loop-request.boxes.items in
    let put : c.put.new.boxes ≡ map (with_request c.request-item.result) old
    = c.in_ok-remaining.ensures.put ∙ ap (λ mail. map (with_request c.request-item.result) mail) c.deref_mut.ensures.value in
    let counted : left c.put.new.boxes ≡ left old + c.in_ok-remaining.field-0
    = c.in_ok-remaining.ensures.counted ∙ ap (λ mail. left mail + c.in_ok-remaining.field-0) c.deref_mut.ensures.value in
    let long : length c.put.new.boxes ≡ c.loop-request.boxes.len
    = ap (λ mail. length mail) put ∙ length-map old (with_request c.request-item.result) ∙ sym c.loop-request.boxes.ok.0 in
    subst (λ mail. HasPut c.in_ok-sorted.sorted.items c.args.requests.now (c.loop-request.request-index + 1) mail
    (c.loop-request.remaining + c.in_ok-remaining.field-0))
    (sym (take_at c.put.new.boxes (drop (length c.put.new.boxes) old) c.loop-request.boxes.len long))
    (HasPut-more c.in_ok-sorted.sorted.items c.args.requests.now c.loop-request.request-index c.request-item.result old c.put.new.boxes
    c.loop-request.remaining c.in_ok-remaining.field-0 c.loop-request-test.true c.request-item.is c.loop-request.invariant put counted
    c.in_ok-remaining.ensures.one c.in_ok-remaining.ensures.short)

pub new-requires : goal.new-requires
new-requires c =
    let made = is-made (goal.at.new-requires c).In_ok-sorted in
    let known = known-put c.args.ids.now c.in_ok-sorted.sorted.items c.args.requests.now made c.loop-request.request-index c.loop-request.remaining c.loop-request.boxes.items c.loop-request.invariant in
    record {
      few = subst (λ (mail : List Mail). length mail ≤ 2048) (sym c.as_slice-5.ensures.value)
          (few-rising c.loop-request.boxes.items
          (rising-put c.in_ok-sorted.sorted.items c.args.requests.now c.loop-request.request-index c.loop-request.boxes.items c.loop-request.remaining
          c.in_ok-sorted.ensures.rising c.loop-request.invariant)
          known.greatest);
    }

pub invariant_of-result : goal.invariant_of-result
invariant_of-result c =
    let made = is-made (goal.at.invariant_of-result c).In_ok-sorted in
    let copied : c.in_ok-to_vec.field-0.items ≡ c.args.ids.now = c.in_ok-to_vec.ensures.items_if_clones_equal (search rules) in
    subst (λ ids. AreBoxesSorted ids c.loop-request.boxes.items c.in_ok-places.places.items c.in_ok-firsts.firsts.arrivals
    c.in_ok-firsts.firsts.lengths c.loop-request.remaining) (sym copied)
    (AreKept-made c.args.ids.now c.in_ok-sorted.sorted.items c.args.requests.now made c.loop-request.request-index c.loop-request.remaining
    c.loop-request.boxes.items c.in_ok-places.places.items c.in_ok-firsts.firsts.arrivals c.in_ok-firsts.firsts.lengths
    c.loop-request-test.false c.loop-request.invariant c.in_ok-places.ensures.length
    (grind arith)
    (subst (λ (mail : List Mail). TellFirsts (length mail) mail c.in_ok-firsts.firsts.arrivals c.in_ok-firsts.firsts.lengths)
    c.as_slice-5.ensures.value c.in_ok-firsts.ensures.firsts))

pub returns : goal.returns
returns c =
    let made = is-made (goal.at.returns c).In_ok-sorted in
    let copied : c.in_ok-to_vec.field-0.items ≡ c.args.ids.now = c.in_ok-to_vec.ensures.items_if_clones_equal (search rules) in
    record {
      mail = grind (arith, mail_of-put);
    }
