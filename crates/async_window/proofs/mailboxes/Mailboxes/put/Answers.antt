use Rattle.std.proofs.Common.{◌≡◌, ◌<◌, true, false, List, length, map, Contains, refl, sym, ap, ◌∙◌, subst, arith}
use Rattle.std.specs.Prelude.{nat_lt, ◌&&◌, slice_index_or}
use Rattle.async_window.specs.Mailbox.{Mail, left, unsent_of}
use Rattle.async_window.specs.Sorted.{IsPlaceOf, mail_of}
use Rattle.std.proofs.lemmas.List.{length-map}
use Rattle.async_window.specs.Adding.{with_request}
use Rattle.async_window.specs.Tournament.{nobody}
use Rattle.async_window.proofs.Kept.{few-boxes, unsent-placed}
use Rattle.async_window.proofs.Table.{place-identifier}
use Rattle.async_window.proofs.Putting.{AreKept-put, among-boxes, among-within, mail-put, room-is, room-none}
use Rattle.async_window.proofs.mailboxes.Mailboxes.put.Goals as goal
use Rattle.async_window.proofs.mailboxes.Mailboxes.put.Goals.{After-place_of-place}

is-place : (c : After-place_of-place) → IsPlaceOf c.self.inside.places.items c.args.request.now.frame.identifier c.place_of-place.result
is-place c = grind arith

is-own : (c : After-place_of-place)
    → Contains (map (λ box. box.identifier) (mail_of c.self.inside.ids.items c.self.inside.boxes.items)) c.args.request.now.frame.identifier
is-own c =
    subst (λ (mail : List Mail). Contains (map (λ box. box.identifier) mail) c.args.request.now.frame.identifier)
    (sym c.self.view_is) c.requires.own

is-within : (c : After-place_of-place) → c.place_of-place.result < length c.self.inside.boxes.items
is-within c =
    among-within c.self.inside.ids.items c.self.inside.boxes.items c.self.inside.places.items c.self.inside.firsts.arrivals
    c.self.inside.firsts.lengths c.self.inside.remaining c.self.invariant c.args.request.now.frame.identifier
    c.place_of-place.result (is-place c)
    (among-boxes c.self.inside.ids.items c.self.inside.boxes.items c.self.inside.places.items c.self.inside.firsts.arrivals
    c.self.inside.firsts.lengths c.self.inside.remaining c.self.invariant c.args.request.now.frame.identifier
    c.place_of-place.result (is-place c) (is-own c))

-- what its mailbox has left
is-unsent : (c : After-place_of-place)
    → (slice_index_or c.self.inside.boxes.items c.place_of-place.result nobody).unsent
    ≡ unsent_of c.args.self.now c.args.request.now.frame.identifier
is-unsent c =
    sym (unsent-placed c.self.inside.ids.items c.self.inside.boxes.items c.self.inside.places.items c.self.inside.firsts.arrivals
    c.self.inside.firsts.lengths c.self.inside.remaining c.self.invariant c.args.request.now.frame.identifier
    c.place_of-place.result nobody (is-place c) (is-within c))
    ∙ ap (λ (mail : List Mail). unsent_of mail c.args.request.now.frame.identifier) c.self.view_is

is-left : (c : After-place_of-place) → c.self.inside.remaining ≡ left c.args.self.now
is-left c = c.self.invariant.counted ∙ ap left c.self.view_is

pub put_at-requires-clause-place : goal.put_at-requires-clause-place
put_at-requires-clause-place c = is-within (goal.at.put_at-requires-clause-place c).After-place_of-place

pub put_at-requires-clause-own : goal.put_at-requires-clause-own
put_at-requires-clause-own c d =
    let here = (goal.at.put_at-requires-clause-own c).After-place_of-place in
    place-identifier c.self.inside.boxes.items c.self.inside.places.items c.args.request.now.frame.identifier
    c.place_of-place.result (few-boxes c.self.inside.ids.items c.self.inside.boxes.items c.self.inside.places.items
    c.self.inside.firsts.arrivals c.self.inside.firsts.lengths c.self.inside.remaining c.self.invariant)
    c.self.invariant.places (is-place here) d (is-within here)

pub returns-then-not-branch-clause-room : goal.returns-then-not-branch-clause-room
returns-then-not-branch-clause-room c =
    let here = (goal.at.returns-then-not-branch-clause-room c).After-place_of-place in
    rw (← is-left here, ← is-unsent here)
    (room-is false c.self.inside.remaining
    (length (slice_index_or c.self.inside.boxes.items c.place_of-place.result nobody).unsent) c.args.room
    (omega (arith, c.if-self-ge-MOST_LEFT.false)) (sym c.if-not-branch.true ∙ c.in_ok-put_at.ensures.room nobody))

pub returns-clause-room : goal.returns-clause-room
returns-clause-room c =
    let here = (goal.at.returns-clause-room c).After-place_of-place in
    rw (← is-left here, ← is-unsent here)
    (room-is true c.self.inside.remaining
    (length (slice_index_or c.self.inside.boxes.items c.place_of-place.result nobody).unsent) c.args.room
    (omega (arith, c.if-self-ge-MOST_LEFT.false)) (sym c.if-not-branch.false ∙ c.in_ok-put_at.ensures.room nobody))

pub note-requires-clause-place : goal.note-requires-clause-place
note-requires-clause-place c =
    let here = is-within (goal.at.note-requires-clause-place c).After-place_of-place in
    grind (arith, length-map)

pub invariant_of-self-2 : goal.invariant_of-self-2
invariant_of-self-2 c =
    let here = (goal.at.invariant_of-self-2 c).After-place_of-place in
    AreKept-put c.self.inside.ids.items c.self.inside.boxes.items c.self.inside.places.items c.self.inside.firsts.arrivals
    c.self.inside.firsts.lengths c.self.inside.remaining c.self.invariant c.args.request.now.frame.identifier
    c.place_of-place.result (is-place here) c.args.request.now refl c.requires.early
    (grind arith) (is-own here) c.put_at.new.boxes.items (c.in_ok-put_at.ensures.put c.if-not-branch.false)
    c.note.new.self.arrivals c.note.new.self.lengths (grind arith) (grind arith)

pub returns-clause-put : goal.returns-clause-put
returns-clause-put c = λ _.
    let here = (goal.at.returns-clause-put c).After-place_of-place in
    mail-put c.self.inside.ids.items c.self.inside.boxes.items c.self.inside.places.items c.self.inside.firsts.arrivals
    c.self.inside.firsts.lengths c.self.inside.remaining c.self.invariant c.args.request.now.frame.identifier
    c.place_of-place.result (is-place here) c.args.request.now refl c.requires.early
    (grind arith) (is-own here) c.put_at.new.boxes.items (c.in_ok-put_at.ensures.put c.if-not-branch.false)
    ∙ ap (λ (mail : List Mail). map (with_request c.args.request.now) mail) c.self.view_is
