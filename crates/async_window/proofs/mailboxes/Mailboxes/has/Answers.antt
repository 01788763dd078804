use Rattle.std.proofs.Common.{◌≡◌, ◌↔◌, ◌<◌, true, List, length, map, Contains, sym, subst, arith}
use Rattle.std.specs.Prelude.{nat_lt}
use Rattle.std.proofs.lemmas.Bool.Decides.{nat_tests}
use Rattle.async_window.specs.Mailbox.{Mail}
use Rattle.async_window.specs.Sorted.{IsPlaceOf, mail_of}
use Rattle.async_window.proofs.Putting.{has-place}
use Rattle.async_window.proofs.mailboxes.Mailboxes.has.Goals as goal

pub returns : goal.returns
returns c =
    let at : IsPlaceOf c.self.inside.places.items c.args.id c.place_of.result = grind arith in
    let is : (c.place_of.result < length c.self.inside.boxes.items) ↔ Contains (map (λ box. box.identifier) c.args.self.now) c.args.id
    = subst (λ (mail : List Mail). (c.place_of.result < length c.self.inside.boxes.items) ↔ Contains (map (λ box. box.identifier) mail) c.args.id)
    c.self.view_is
    (has-place c.self.inside.ids.items c.self.inside.boxes.items c.self.inside.places.items c.self.inside.firsts.arrivals
    c.self.inside.firsts.lengths c.self.inside.remaining c.self.invariant c.args.id c.place_of.result at) in
    let test : (nat_lt c.place_of.result c.len.result ≡ true) ↔ (c.place_of.result < length c.self.inside.boxes.items)
    = (λ passed. grind (arith, nat_tests), λ within. grind (arith, nat_tests)) in
    record { has = (λ passed. is.0 (test.0 passed), λ among. test.1 (is.1 among)) }
