use Rattle.std.proofs.Common.{arith, ◌∷◌, get_or, reverse, take, ◌≡◌, ◌<◌, false, refl, sym, ap, subst, ◌∙◌, length}
use Rattle.std.proofs.lemmas.List.{reverse-append, take_all}
use Rattle.stuff_bound.specs.Stuffing.{Tracks, with_stuff, at_stuff_place}
use Rattle.stuff_bound.proofs.Stuffs.{with_stuff_more-full, with_stuff_more-below, Stuffs_from_sent}
use Rattle.stuff_bound.proofs.stuffing.stuff.Goals as goal
use Rattle.stuff_bound.proofs.stuffing.stuff.Goals.{then-is_full+in_ok-push-2, else-is_full}

pub loop-bit-preserved : goal.loop-bit-preserved
loop-bit-preserved c =
    let i = c.loop-bit.bit-index in
    let bits = c.args.bits.now in
    let sent = get_or bits i false ∷ with_stuff (reverse (take i bits)) in
    let inside : i < length bits = omega arith in
    let tracked : Tracks c.then-run.result sent = c.then-run.ensures.tracks _ c.loop-bit.invariant.run in
    let full : c.is_full.result ≡ at_stuff_place sent = c.is_full.ensures.full sent tracked in
    elim c.if-is_full.branch [
      | then-is_full+in_ok-push-2 w ↦
          let more = with_stuff_more-full bits i false inside (sym full ∙ w.if-is_full.true) in
          let opposite = w.opposite-opposite.ensures.opposite sent tracked in
          let last = w.then-run-then-is_full.ensures.tracks sent tracked in
          record {
            run = rw (w.run-is, more) (subst (λ bit. Tracks w.then-run-then-is_full.result (bit ∷ sent)) opposite last);
            wire = rw (w.wire-is, more, w.in_ok-push-2.ensures.items, reverse-append, opposite, c.in_ok-push.ensures.items, reverse-append, c.loop-bit.invariant.wire) refl;
          }
      | else-is_full w ↦
          let more = with_stuff_more-below bits i false inside (sym full ∙ w.if-is_full.false) in
          record { run = rw (w.run-is, more) tracked; wire = rw (w.wire-is, more, c.in_ok-push.ensures.items, reverse-append, c.loop-bit.invariant.wire) refl }
    ]

pub returns-clause-stuffs : goal.returns-clause-stuffs
returns-clause-stuffs c = Stuffs_from_sent _ _ (c.loop-bit.invariant.wire ∙ ap (λ sent. with_stuff (reverse sent)) (take_all _ _ c.loop-bit-test.false))
