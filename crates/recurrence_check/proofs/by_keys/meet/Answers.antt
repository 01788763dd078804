use Rattle.std.proofs.Common.{◌≡◌, ◌<◌, ◌≤◌, None, Some, length, slice_index_or, set, sym, ap, ◌∙◌, arith}
use Rattle.std.specs.BTreeMap.{get}
use Rattle.std.proofs.lemmas.List.{get_or-set_other, get_or-set_same, get_or_default, get_or_past}
use Rattle.std.proofs.lemmas.Result.{IfOk-weaker}
use Rattle.recurrence_check.specs.Keys.{Meets, table}
use Rattle.recurrence_check.proofs.Noted.{key_cmp}
use Rattle.recurrence_check.proofs.Places.{meets-elsewhere, meets-new, passes-other}
use Rattle.recurrence_check.proofs.by_keys.meet.Goals as goal

pub returns-then-len-place-clause-met : goal.returns-then-len-place-clause-met
returns-then-len-place-clause-met c =
    let old = c.args.row.now.items in
    let place = c.in-Some.place in
    let long = c.in_ok-lengthen.ensures in
    let far : length old ≤ place = omega (arith, c.len.ensures, c.if-len-place.true) in
    rw c.in-Some.is
    (meets-new old c.lengthen.new.row.items (get key_cmp c.args.others.now) c.in-Some.mark place c.args.steps c.requires.sparse
    (get_or_past old place None far) c.if-place-ge-PLACES.false long.stands long.same)

pub returns-in-None-clause-met : goal.returns-in-None-clause-met
returns-in-None-clause-met c =
    let row = c.args.row.now.items in
    let mark = c.in-Some.mark in
    let place = c.in-Some.place in
    let here = Some (mark, c.args.steps) in
    let within : place < length row = omega (arith, c.len.ensures, c.if-len-place.false) in
    let nothing = c.in-None.is in
    let none : slice_index_or row place None ≡ None
    = sym (sym nothing ∙ c.index.ensures ∙ ap (λ d. slice_index_or row place d) nothing) in
    rw c.in-Some.is
    (meets-new row (set row place here) (get key_cmp c.args.others.now) mark place c.args.steps c.requires.sparse none
    c.if-place-ge-PLACES.false (get_or-set_same row place here None within) (λ q apart. get_or-set_other row place q here None apart))

pub returns-else-first-mark-clause-met : goal.returns-else-first-mark-clause-met
returns-else-first-mark-clause-met c =
    let row = c.args.row.now.items in
    let others = get key_cmp c.args.others.now in
    let noted = get key_cmp c.note-else-first-mark.new.others in
    let mark = c.in-Some.mark in
    let place = c.in-Some.place in
    let within : place < length row = omega (arith, c.len.ensures, c.if-len-place.false) in
    let stands : slice_index_or row place None ≡ Some (c.in-Some-index.first, c.in-Some-index.before)
    = get_or_default row place None c.index.result.now within ∙ sym c.index.ensures ∙ c.in-Some-index.is in
    rw c.in-Some.is
    (IfOk-weaker c.note-else-first-mark.result (λ before. Meets others noted (Some (mark, place)) c.args.steps before)
    (λ before. Meets (table row others) (table row noted) (Some (mark, place)) c.args.steps before)
    (λ before met.
    meets-elsewhere row others noted (mark, place) c.args.steps before
    (passes-other row (mark, place) (c.in-Some-index.first, c.in-Some-index.before) stands c.if-first-mark.false) met)
    c.note-else-first-mark.ensures.met)
