use Rattle.std.proofs.Common.{◌≤◌, None, IsSomeAnd, get_or, take, length-set, sym, ◌∙◌, arith}
use Rattle.std.proofs.lemmas.List.{take_more}
use Rattle.std.proofs.lemmas.List.Elements.{All-nil}
use Rattle.bit_sets.specs.Sets.{most_slots}
use Rattle.requirement_table.specs.Table.{IsInRange}
use Rattle.requirement_table.proofs.FreeSlots.{no_entry, free-start, free-more, free-before, well_placed-more}
use Rattle.requirement_table.proofs.lists.well_placed.Goals as goal
use Rattle.requirement_table.proofs.lists.well_placed.Goals.{then-not-is_in_range-via-then-not-is_in_range, then-not-is_in_range-via-else-not-is_in_range+then-not-is_free}

pub loop-p-init : goal.loop-p-init
loop-p-init c = record {
  well_placed = record { in_range = All-nil IsInRange; in_order = λ i j d before within. absurd (omega arith) };
  room = omega arith;
  free = λ slot. free-start most_slots slot;
}

pub returns-then-not-is_in_range : goal.returns-then-not-is_in_range
returns-then-not-is_in_range c = record {
  well_placed = (
    λ wrong. absurd (cc),
    λ well.
        let placed = c.args.placed.now in
        let i = c.loop-p.p-index in
        let p = get_or placed i no_entry in
        let range : IsInRange p = well.in_range i no_entry c.loop-p-test.true in
        elim c.then-not-is_in_range.branch [
          | then-not-is_in_range-via-then-not-is_in_range w ↦ sym w.if-not-is_in_range.true ∙ c.is_in_range.ensures.1 range
          | then-not-is_in_range-via-else-not-is_in_range+then-not-is_free w ↦
              let free = (c.loop-p.invariant.free p.entry.slot range.entry.slot p.origin).1 (free-before placed i no_entry c.loop-p-test.true well) in
              sym w.if-not-is_free.true ∙ w.is_free.ensures.1 (rw w.from.ensures free)
        ],
  );
}

pub loop-p-preserved : goal.loop-p-preserved
loop-p-preserved c =
    let placed = c.args.placed.now in
    let i = c.loop-p.p-index in
    let p = get_or placed i no_entry in
    let range : IsInRange p = c.is_in_range.ensures.0 c.if-not-is_in_range.false in
    let now : IsSomeAnd (get_or c.loop-p.free_from p.entry.slot None) (λ from. from ≤ p.origin) = rw c.from.ensures at (c.is_free.ensures.0 c.if-not-is_free.false) in
    rw (take_more placed i no_entry c.loop-p-test.true, c.from-in-loop-p.ensures) (record {
      well_placed = well_placed-more (take i placed) p (get_or c.loop-p.free_from p.entry.slot None) c.loop-p.invariant.well_placed range (c.loop-p.invariant.free p.entry.slot range.entry.slot) now;
      room = simp length-set c.loop-p.invariant.room;
      free = free-more most_slots c.loop-p.free_from (take i placed) p c.free_after.result c.loop-p.invariant.room range.entry.slot range c.loop-p.invariant.free now (λ d. rw c.free_after.ensures (λ free. free, λ free. free));
    })
