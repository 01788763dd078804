use Rattle.std.proofs.Common.{sym, ap, arith, slice_index}
use Rattle.std.proofs.lemmas.Option.{slice_get-get_or}
use Rattle.plan_report.proofs.OneOfSlot.{is-first, current-past, current-none, current-some}
use Rattle.plan_report.proofs.current.SlotPlaces.find.Goals as goal

pub returns-then-place-placed-clause-found : goal.returns-then-place-placed-clause-found
returns-then-place-placed-clause-found c =
    let index = c.from-index.ensures in
    let first = is-first c.args.placed.now c.args.self.now.first c.args.slot c.args.cycle _ c.first_left-place.result c.requires.slot c.requires.passed
    (ap (slice_index c.args.self.now.first) index) c.first_left-place.ensures.over c.first_left-place.ensures.left in
    current-past c.args.placed.now c.args.slot c.args.cycle c.first_left-place.result c.requires.well_placed first (omega arith)

pub returns-in-None-clause-found : goal.returns-in-None-clause-found
returns-in-None-clause-found c =
    let index = c.from-index.ensures in
    let first = is-first c.args.placed.now c.args.self.now.first c.args.slot c.args.cycle _ c.first_left-place.result c.requires.slot c.requires.passed
    (ap (slice_index c.args.self.now.first) index) c.first_left-place.ensures.over c.first_left-place.ensures.left in
    current-none c.args.placed.now c.args.slot c.args.cycle c.first_left-place.result c.requires.well_placed first _
    (slice_get-get_or c.args.placed.now c.first_left-place.result _ c.if-place-placed.false) (sym c.in-None.ensures.number)

pub returns-in-Some-clause-found : goal.returns-in-Some-clause-found
returns-in-Some-clause-found c =
    let index = c.from-index.ensures in
    let first = is-first c.args.placed.now c.args.self.now.first c.args.slot c.args.cycle _ c.first_left-place.result c.requires.slot c.requires.passed
    (ap (slice_index c.args.self.now.first) index) c.first_left-place.ensures.over c.first_left-place.ensures.left in
    current-some c.args.placed.now c.args.slot c.args.cycle c.first_left-place.result c.requires.well_placed first _ c.in-Some.number
    (slice_get-get_or c.args.placed.now c.first_left-place.result _ c.if-place-placed.false) (sym c.in-Some.ensures.number)
