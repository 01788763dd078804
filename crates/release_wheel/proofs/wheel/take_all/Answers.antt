use Rattle.std.proofs.Common.{refl, sym, ◌%◌, get_or, ◌∙◌, ap}
use Rattle.bit_sets.specs.Sets.{has_bit}
use Rattle.release_wheel.proofs.RowCycles.{planned-all, turned-all}
use Rattle.release_wheel.proofs.wheel.take_all.Goals as goal

pub returns : goal.returns
returns c =
    let w = c.args.wheel.now in
    let pending = c.args.state.now.pending in
    let none = c.none-wheel.result in
    record {
      planned = record {
        planned = planned-all c.args.ranked.now pending c.args.w w c.requires.ready c.union.result c.known.ensures.below c.union.ensures.slots c.requires.fits
            none.slots (ap (λ s. s.slots) c.none-wheel.ensures.none);
        next = refl;
        turned = turned-all (has_bit pending) w none c.quiet_until-wheel.result 18446744073709551615 c.requires.ready.released
            c.none-wheel.ensures.none c.quiet_until-wheel.ensures.none_always
            (λ at from less. ap (λ places. get_or places (at % 64) 0) (sym c.as_slice.ensures.value) ∙ c.quiet_until-wheel.ensures.empty at from less);
        table = record { entries = refl; others = refl };
      };
    }
