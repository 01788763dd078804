use Rattle.std.proofs.Common.{◌≡◌, ◌<◌, ◌≤◌, List, length, get_or, option_map, sym, ap, ◌∙◌, subst}
use Rattle.std.specs.List.{slice_get}
use Rattle.async_window.specs.declared.request.Request.{Request}
use Rattle.async_window.specs.Mailbox.{Mail, unsent_of}
use Rattle.async_window.specs.Sorted.{IsPlaceOf}
use Rattle.async_window.proofs.Kept.{unsent-nowhere, unsent-placed}
use Rattle.async_window.proofs.mailboxes.Mailboxes.head.Goals as goal

pub returns-then-place-boxes-clause-head : goal.returns-then-place-boxes-clause-head
returns-then-place-boxes-clause-head c =
    let is : IsPlaceOf c.self.inside.places.items c.args.id c.place_of-place.result
    = subst (λ table. IsPlaceOf table c.args.id c.place_of-place.result) c.as_slice.ensures.value c.place_of-place.ensures.place in
    let within : c.place_of-place.result < length c.self.inside.boxes.items
    = subst (λ (mail : List Mail). c.place_of-place.result < length mail) c.as_slice-boxes.ensures.value c.if-place-boxes.true in
    let box : Mail = c.index-boxes-place.result in
    let read : c.index-boxes-place.result ≡ get_or c.self.inside.boxes.items c.place_of-place.result box
    = c.index-boxes-place.is ∙ ap (λ mail. get_or mail c.place_of-place.result box) c.as_slice-boxes.ensures.value in
    c.frame.ensures.frame
    ∙ ap (λ (x : Mail). option_map (λ (request : Request). request.frame) (slice_get x.unsent 0)) read
    ∙ ap (λ xs. option_map (λ (request : Request). request.frame) (slice_get xs 0))
    (sym (unsent-placed c.self.inside.ids.items c.self.inside.boxes.items c.self.inside.places.items c.self.inside.firsts.arrivals c.self.inside.firsts.lengths
    c.self.inside.remaining c.self.invariant c.args.id c.place_of-place.result box is within)
    ∙ ap (λ mail. unsent_of mail c.args.id) c.self.view_is)

pub returns-else-place-boxes-clause-head : goal.returns-else-place-boxes-clause-head
returns-else-place-boxes-clause-head c =
    let is : IsPlaceOf c.self.inside.places.items c.args.id c.place_of-place.result
    = subst (λ table. IsPlaceOf table c.args.id c.place_of-place.result) c.as_slice.ensures.value c.place_of-place.ensures.place in
    let past : length c.self.inside.boxes.items ≤ c.place_of-place.result
    = subst (λ (mail : List Mail). length mail ≤ c.place_of-place.result) c.as_slice-boxes.ensures.value c.if-place-boxes.false in
    ap (λ xs. option_map (λ (request : Request). request.frame) (slice_get xs 0))
    (sym (unsent-nowhere c.self.inside.ids.items c.self.inside.boxes.items c.self.inside.places.items c.self.inside.firsts.arrivals c.self.inside.firsts.lengths
    c.self.inside.remaining c.self.invariant c.args.id c.place_of-place.result is past)
    ∙ ap (λ mail. unsent_of mail c.args.id) c.self.view_is)
