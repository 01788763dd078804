use Rattle.std.proofs.Common.{◌≡◌, ◌+◌, ℕ, suc, subst, ap, ◌∙◌, arith, get_or, length, refl}
use Rattle.std.proofs.lemmas.List.Sorted.{length_permutation}
use Rattle.bit_sets.specs.Sets.{has_bit}
use Rattle.bit_sets.proofs.Shared.{has_bit-none}
use Rattle.release_wheel.specs.Wheel.{IsFilledTo, no_entry}
use Rattle.release_wheel.proofs.RowFilling.{filled-more, filled-start, filled-whole}
use Rattle.release_wheel.proofs.RowSums.{sum-none}
use Rattle.release_wheel.proofs.filling.fill_rows.Goals as goal

pub clear-requires : goal.clear-requires
clear-requires c = grind (arith, length_permutation)

pub loop-row-init : goal.loop-row-init
loop-row-init c =
    let list = c.rows-entries.result.now in
    let rows = c.clear.new.rows in
    let made = c.clear.ensures in
    let none = c.of_slots-dues.ensures in
    let size = length_permutation c.args.ranked.now.placed list c.rows-entries.ensures.same in
    let few = c.requires.room.few in
    filled-start list c.args.state.now.cycle c.args.state.now.pending rows c.of_slots-dues.result (omega arith) (omega (arith, made.entries))
    (omega (arith, made.nexts)) (omega (arith, made.lasts)) made.places made.empty
    (sum-none rows.entries.items c.of_slots-dues.result.waiting none.rows (λ slot. ap (λ m. has_bit m slot) none.slots ∙ c.empty.ensures.slots slot) none.cost)
    (sum-none rows.entries.items c.of_slots-dues.result.always (ap (λ s. s.rows) none.always)
    (λ slot. ap (λ s. has_bit s.slots slot) none.always ∙ has_bit-none slot) (ap (λ s. s.cost) none.always))

pub loop-row-preserved : goal.loop-row-preserved
loop-row-preserved c =
    let l = c.loop-row in
    let list = c.rows-entries.result.now in
    let cycle = c.args.state.now.cycle in
    let pending = c.args.state.now.pending in
    let f = l.invariant in
    let size = f.size in
    let within = c.loop-row-test.true in
    let P : ℕ → Type 0 = λ n. IsFilledTo list n cycle pending c.set_row-dues.new.rows c.set_row-dues.result in
    let next : suc l.row ≡ l.row + 1 = omega arith in
    subst P next
    (filled-more list l.row cycle pending l.rows c.set_row-dues.new.rows l.dues c.set_row-dues.result (get_or list l.row no_entry) f
    c.set_row-dues.ensures.set (omega arith) (c.rows-entries.ensures.in_range l.row no_entry within) refl)

pub returns : goal.returns
returns c =
    let l = c.loop-row in
    let list = c.rows-entries.result.now in
    let cycle = c.args.state.now.cycle in
    let pending = c.args.state.now.pending in
    let ended = c.loop-row-test.false in
    let end = l.auto.row-end in
    let P : ℕ → Type 0 = λ n. IsFilledTo list n cycle pending l.rows l.dues in
    let whole : l.row ≡ length list = omega arith in
    record {
      filled = filled-whole c.args.ranked.now list cycle pending l.rows l.dues (subst P whole l.invariant) c.rows-entries.ensures.well_placed
          c.rows-entries.ensures.same c.requires.valid c.rows-entries.ensures.order;
    }
