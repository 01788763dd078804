use Rattle.std.proofs.Common.{arith, ◌∷◌, get_or, reverse, take, ◌≡◌, ◌<◌, ◌≤◌, ℕ, Bool, List, false, sym, ap, subst, ◌∙◌, length}
use Rattle.stuff_bound.specs.Stuffing.{Tracks, with_stuff, at_stuff_place, stuffed}
use Rattle.stuff_bound.proofs.Stuffs.{with_stuff_more-full, with_stuff_more-below, length-stuffed-least, length-stuffed-most}
use Rattle.std.proofs.lemmas.List.{take_all, length-reverse}
use Rattle.stuff_bound.proofs.stuffing.stuffed_len.Goals as goal
use Rattle.stuff_bound.proofs.stuffing.stuffed_len.Goals.{then-is_full, else-is_full}

pub loop-bit-preserved : goal.loop-bit-preserved
loop-bit-preserved c =
    let i = c.loop-bit.bit-index in
    let bits = c.args.bits.now in
    let sent = get_or bits i false ∷ with_stuff (reverse (take i bits)) in
    let inside : i < length bits = omega arith in
    let tracked : Tracks c.then-run.result sent = c.then-run.ensures.tracks _ c.loop-bit.invariant.run in
    let full : c.is_full.result ≡ at_stuff_place sent = c.is_full.ensures.full sent tracked in
    elim c.if-is_full.branch [
      | then-is_full w ↦
          let more = with_stuff_more-full bits i false inside (sym full ∙ w.if-is_full.true) in
          let last = w.then-run-then-is_full.ensures.tracks sent tracked in
          record {
            run = rw (w.run-is, more) (subst (λ bit. Tracks w.then-run-then-is_full.result (bit ∷ sent)) (w.opposite.ensures.opposite sent tracked) last);
            len = rw (w.len-is, more) (omega arith);
            small = omega arith;
          }
      | else-is_full w ↦
          let more = with_stuff_more-below bits i false inside (sym full ∙ w.if-is_full.false) in
          record { run = rw (w.run-is, more) tracked; len = rw (w.len-is, more) (omega arith); small = omega arith }
    ]

-- the whole list was sent
all_sent : (bits : List Bool) (i len : ℕ) → length bits ≤ i → len ≡ length (with_stuff (reverse (take i bits))) → len ≡ length (stuffed bits)
all_sent bits i len end e = e ∙ ap (λ sent. length (with_stuff (reverse sent))) (take_all i bits end) ∙ sym (length-reverse _)

pub returns-clause-at_least : goal.returns-clause-at_least
returns-clause-at_least c = grind (arith, all_sent, length-stuffed-least)

pub returns-clause-at_most : goal.returns-clause-at_most
returns-clause-at_most c some =
    omega (arith, all_sent _ _ _ c.loop-bit-test.false c.loop-bit.invariant.len, length-stuffed-most c.args.bits.now some)

pub returns-clause-frame : goal.returns-clause-frame
returns-clause-frame c bytes bits =
    omega (arith, all_sent _ _ _ c.loop-bit-test.false c.loop-bit.invariant.len, length-stuffed-most c.args.bits.now (omega arith))
