use Rattle.admission.proofs.Certified.{certificate-from, from-after, from-within, taken-from}
use Rattle.admission.proofs.certifying.certify_from.Goals as goal

pub new-requires-clause-after : goal.new-requires-clause-after
new-requires-clause-after c =
    from-after c.args.rules.now c.args.placed.now c.args.state.now.cycle c.args.state.now.pending c.in_ok-first.first
    c.in_ok-first.masks.items c.requires.well_placed c.requires.valid c.in_ok-first.ensures.planned

pub new-requires-clause-within : goal.new-requires-clause-within
new-requires-clause-within c =
    from-within c.args.rules.now c.args.placed.now c.args.state.now.cycle c.args.state.now.pending c.in_ok-first.first
    c.in_ok-first.masks.items c.requires.well_placed c.requires.valid c.in_ok-first.ensures.planned

pub returns : goal.returns
returns c =
    record {
      certificate = certificate-from c.args.rules.now c.args.placed.now c.args.state.now.cycle c.args.state.now.pending c.in_ok-first.first
          c.in_ok-first.masks.items c.requires.well_placed c.requires.valid c.in_ok-first.ensures.planned
          c.new.result c.new.ensures.from c.new.ensures.pending c.new.ensures.first c.new.ensures.masks;
      taken = taken-from c.args.rules.now c.args.placed.now c.args.state.now.cycle c.args.state.now.pending c.in_ok-first.first
          c.in_ok-first.masks.items c.requires.well_placed c.requires.valid c.in_ok-first.ensures.planned
          c.new.result c.new.ensures.from c.new.ensures.pending c.new.ensures.first c.new.ensures.masks;
      fault = tt;
    }
