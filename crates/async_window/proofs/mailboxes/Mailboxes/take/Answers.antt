use Rattle.std.proofs.Common.{◌≡◌, ◌<◌, false, true, List, length, set, sym, ap, ◌∙◌, subst, arith, rules}
use Rattle.std.specs.List.{slice_get}
use Rattle.std.specs.Option.{IsSome, is_some}
use Rattle.std.proofs.lemmas.List.{length-set}
use Rattle.async_window.specs.Mailbox.{Mail, unsent_of, without_first}
use Rattle.async_window.specs.Tournament.{Notes, first_length}
use Rattle.async_window.specs.Sorted.{IsPlaceOf, mail_of}
use Rattle.async_window.proofs.Unsent.{unsent_of-without}
use Rattle.async_window.proofs.Kept.{AreKept-taken, mail-taken, nothing-taken, place-within, some-left, some-request}
use Rattle.async_window.proofs.mailboxes.Mailboxes.take.Goals as goal
use Rattle.async_window.proofs.mailboxes.Mailboxes.take.Goals.{After-has_request, After-take_first}

-- the place is that of the identifier
is-place : (c : After-has_request) → IsPlaceOf c.self.inside.places.items c.args.id c.place_of-place.result
is-place c = grind arith

-- the test at this place says whether the identifier has a request
is-found : (c : After-has_request)
    → c.has_request.result
    ≡ is_some (slice_get (unsent_of (mail_of c.self.inside.ids.items c.self.inside.boxes.items) c.args.id) 0)
is-found c =
    some-request c.self.inside.ids.items c.self.inside.boxes.items c.self.inside.places.items
    c.self.inside.firsts.arrivals
    c.self.inside.firsts.lengths c.self.inside.remaining c.self.invariant c.args.id c.place_of-place.result c.has_request.result
    c.as_slice-2.result.now (is-place c) c.as_slice-2.ensures.value c.has_request.ensures.within
    c.has_request.ensures.some

-- where it has one, its place is that of a mailbox
is-within : (c : After-has_request) → c.has_request.result ≡ true
    → c.place_of-place.result < length c.self.inside.boxes.items
is-within c found = grind (arith, place-within, is-place, is-found)

-- the mailboxes with the changed one are those without the request
is-taken : (c : After-take_first) → IsPlaceOf c.self.inside.places.items c.args.id c.place_of-place.result
    → IsSome (slice_get (unsent_of (mail_of c.self.inside.ids.items c.self.inside.boxes.items) c.args.id) 0)
    → mail_of c.self.inside.ids.items (set c.self.inside.boxes.items c.place_of-place.result c.take_first.new.self)
    ≡ without_first c.args.id c.args.self.now
is-taken c is some = grind (arith, mail-taken)

pub index_mut-requires : goal.index_mut-requires
index_mut-requires c = grind (arith, is-within, rules)

-- the mailboxes with the changed one are as many
is-long : (c : After-take_first) (mail : List Mail)
    → mail ≡ set c.self.inside.boxes.items c.place_of-place.result c.take_first.new.self
    → length mail ≡ length c.self.inside.boxes.items
is-long c mail is = grind (arith, length-set)

pub note-requires-clause-place : goal.note-requires-clause-place
note-requires-clause-place c = grind (arith, is-within, is-long)

pub note-requires-clause-arrivals : goal.note-requires-clause-arrivals
note-requires-clause-arrivals c = grind (arith, is-long)

pub note-requires-clause-lengths : goal.note-requires-clause-lengths
note-requires-clause-lengths c = grind (arith, is-long)

pub overflow_sub-self : goal.overflow_sub-self
overflow_sub-self c =
    some-left c.self.inside.ids.items c.self.inside.boxes.items c.self.inside.places.items c.self.inside.firsts.arrivals
    c.self.inside.firsts.lengths c.self.inside.remaining c.self.invariant c.args.id
    (sym (is-found (goal.at.overflow_sub-self c).After-has_request) ∙ c.if-not-has_request.false)

pub invariant_of-self : goal.invariant_of-self
invariant_of-self c =
    let tested = (goal.at.invariant_of-self c).After-has_request in
    AreKept-taken c.self.inside.ids.items c.self.inside.boxes.items c.self.inside.places.items
    c.self.inside.firsts.arrivals
    c.self.inside.firsts.lengths c.self.inside.remaining c.self.invariant c.args.id c.place_of-place.result
    c.index_mut.result.now c.take_first.new.self (is-place tested) (sym (is-found tested) ∙ c.if-not-has_request.false)
    c.index_mut.ensures.value c.take_first.ensures.taken c.note.new.self.arrivals c.note.new.self.lengths
    (grind arith)
    (subst (λ mail. Notes first_length mail c.place_of-place.result c.self.inside.firsts.lengths c.note.new.self.lengths)
    c.as_slice-3.ensures.value c.note.ensures.lengths)

pub returns-clause-taken : goal.returns-clause-taken
returns-clause-taken c = grind (arith, is-taken, is-place, is-found)

pub returns-clause-unsent : goal.returns-clause-unsent
returns-clause-unsent c other = grind (arith, returns-clause-taken, unsent_of-without)

pub returns-clause-some : goal.returns-clause-some
returns-clause-some c = grind (arith, is-found)

pub returns-then-not-has_request : goal.returns-then-not-has_request
returns-then-not-has_request c =
    let none : false ≡ is_some (slice_get (unsent_of (mail_of c.self.inside.ids.items c.self.inside.boxes.items) c.args.id) 0)
    = sym c.if-not-has_request.true ∙ is-found (goal.at.returns-then-not-has_request c).After-has_request in
    let nothing : c.args.self.now ≡ without_first c.args.id c.args.self.now
    = grind (arith, nothing-taken) in
    record {
      taken = nothing;
      unsent = λ other. ap (λ mail. unsent_of mail other) nothing ∙ unsent_of-without c.args.id c.args.self.now other;
      some = subst (λ mail. false ≡ is_some (slice_get (unsent_of mail c.args.id) 0)) c.self.view_is none;
    }
