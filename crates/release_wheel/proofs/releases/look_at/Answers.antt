use Rattle.std.proofs.Common.{◌≡◌, ◌≢◌, ◌∙◌, ℕ, Option, None, sym, subst, ap, get_or, arith, false, is_some}
use Rattle.requirement_table.specs.declared.entries.Placed.{Placed}
use Rattle.release_wheel.specs.Wheel.{IsRowBegun, IsRowReleased, no_entry}
use Rattle.planner_policies.proofs.Shared.{same-read}
use Rattle.release_wheel.proofs.Releasing.{begin, release, stay}
use Rattle.release_wheel.proofs.releases.look_at.Goals as goal

no-end : (o : Option ℕ) → is_some o ≡ false → o ≡ None
no-end o is = grind arith

pub returns-then-index-cycle-clause-next : goal.returns-then-index-cycle-clause-next
returns-then-index-cycle-clause-next c = λ before rest less g stands made.
    let rows = c.args.rows.now in
    let size = c.requires.room.nexts in
    let row = c.requires.row in
    let read = same-read rows.nexts.items c.args.row 0 c.index.result.now (omega arith) in
    let apart : get_or rows.nexts.items c.args.row 0 ≢ c.args.cycle = λ same. c.if-index-cycle.true (c.index.ensures ∙ sym read ∙ same) in
    stay before c.args.cycle rest less c.args.row rows c.args.dues.now g stands made c.requires.row apart

pub returns-then-is_some-clause-next : goal.returns-then-is_some-clause-next
returns-then-is_some-clause-next c = λ before rest less g stands made.
    let rows = c.args.rows.now in
    let size = c.requires.room.nexts in
    let row = c.requires.row in
    let read = same-read rows.nexts.items c.args.row 0 c.index.result.now (omega arith) in
    let now : get_or rows.nexts.items c.args.row 0 ≡ c.args.cycle = let is = c.index.ensures in let same = c.if-index-cycle.false in omega arith in
    let entry : c.index-2.result.now ≡ get_or rows.entries.items c.args.row no_entry
    = c.index-2.ensures ∙ sym (same-read rows.entries.items c.args.row no_entry c.index-2.result.now row) in
    let P : Placed → Type 0 = λ p. IsRowReleased p c.args.row c.args.cycle rows c.release_row.new.rows c.args.dues.now c.release_row.new.dues in
    release before c.args.cycle rest less c.args.row rows c.args.dues.now g stands made row now c.release_row.new.rows c.release_row.new.dues
    (subst P entry c.release_row.ensures.released) c.requires.cycle

pub returns-then-is_some-clause-entries : goal.returns-then-is_some-clause-entries
returns-then-is_some-clause-entries c = c.release_row.ensures.released.moved.entries

pub returns-then-placed-eq1-clause-next : goal.returns-then-placed-eq1-clause-next
returns-then-placed-eq1-clause-next c = λ before rest less g stands made.
    let rows = c.args.rows.now in
    let size = c.requires.room.nexts in
    let row = c.requires.row in
    let read = same-read rows.nexts.items c.args.row 0 c.index.result.now (omega arith) in
    let now : get_or rows.nexts.items c.args.row 0 ≡ c.args.cycle = let is = c.index.ensures in let same = c.if-index-cycle.false in omega arith in
    let entry : c.index-2.result.now ≡ get_or rows.entries.items c.args.row no_entry
    = c.index-2.ensures ∙ sym (same-read rows.entries.items c.args.row no_entry c.index-2.result.now row) in
    let P : Placed → Type 0 = λ p. IsRowBegun p c.args.row c.args.cycle rows c.begin_row.new.rows c.args.dues.now c.begin_row.new.dues in
    let Q : Placed → Type 0 = λ p. p.entry.period ≡ 1 in
    let R : Placed → Type 0 = λ p. p.end ≡ None in
    begin before c.args.cycle rest less c.args.row rows c.args.dues.now g stands made row now c.begin_row.new.rows c.begin_row.new.dues
    (subst P entry c.begin_row.ensures.begun) (subst Q entry c.if-placed-eq1.true)
    (subst R entry (no-end c.index-2.result.now.end (sym c.is_some.ensures ∙ c.if-is_some.false)))

pub returns-then-placed-eq1-clause-entries : goal.returns-then-placed-eq1-clause-entries
returns-then-placed-eq1-clause-entries c = ap (λ rows. rows.entries.items) c.begin_row.ensures.begun.rows

pub returns-clause-next : goal.returns-clause-next
returns-clause-next c = λ before rest less g stands made.
    let rows = c.args.rows.now in
    let size = c.requires.room.nexts in
    let row = c.requires.row in
    let read = same-read rows.nexts.items c.args.row 0 c.index.result.now (omega arith) in
    let now : get_or rows.nexts.items c.args.row 0 ≡ c.args.cycle = let is = c.index.ensures in let same = c.if-index-cycle.false in omega arith in
    let entry : c.index-2.result.now ≡ get_or rows.entries.items c.args.row no_entry
    = c.index-2.ensures ∙ sym (same-read rows.entries.items c.args.row no_entry c.index-2.result.now row) in
    let P : Placed → Type 0 = λ p. IsRowReleased p c.args.row c.args.cycle rows c.release_row-2.new.rows c.args.dues.now c.release_row-2.new.dues in
    release before c.args.cycle rest less c.args.row rows c.args.dues.now g stands made row now c.release_row-2.new.rows c.release_row-2.new.dues
    (subst P entry c.release_row-2.ensures.released) c.requires.cycle

pub returns-clause-entries : goal.returns-clause-entries
returns-clause-entries c = c.release_row-2.ensures.released.moved.entries
