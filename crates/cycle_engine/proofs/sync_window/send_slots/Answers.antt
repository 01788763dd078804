use Rattle.std.proofs.Common.{◌≡◌, ℕ, ◌++◌, ◌+◌, ◌||◌, drop, nat_eq, length, sym, ap, arith, append-nil, subst, ◌∷◌, []}
use Rattle.std.proofs.lemmas.List.{drop_all, length-append}
use Rattle.can_frame.specs.declared.data_frame.TimedFrame.{TimedFrame}
use Rattle.cycle_engine.specs.SyncWindow.{back_to_back, by_slots, due_among, is_among}
use Rattle.bit_sets.proofs.Shared.{least-of, without-less}
use Rattle.bit_sets.specs.Sets.{most_slots}
use Rattle.cycle_engine.proofs.Sent.{among-more, apart-more, due-identifier, left-before, left-more}
use Rattle.cycle_engine.proofs.BySlots.{among-first, among-none, put-late, put-more}
use Rattle.cycle_engine.proofs.sync_window.send_slots.Goals as goal

pub loop-slot-init : goal.loop-slot-init
loop-slot-init c = grind (arith, drop_all)

pub returns-then-at-until : goal.returns-then-at-until
returns-then-at-until c = grind (arith, put-late, append-nil)

pub due_frame-frame-requires-clause-slot : goal.due_frame-frame-requires-clause-slot
due_frame-frame-requires-clause-slot c = (least-of c.loop-slot.left c.in-Some.slot (sym c.in-Some.ensures.least)).0

pub due_frame-frame-requires-clause-due : goal.due_frame-frame-requires-clause-due
due_frame-frame-requires-clause-due c = grind (arith, least-of)

pub push_reserved-requires : goal.push_reserved-requires
push_reserved-requires c = grind arith

pub loop-slot-smaller : goal.loop-slot-smaller
loop-slot-smaller c =
    let least = least-of c.loop-slot.left c.in-Some.slot (sym c.in-Some.ensures.least) in
    without-less most_slots c.loop-slot.left c.without_least-left.result c.in-Some.slot least.0 c.known.ensures.below c.known-in-Some.ensures.below least.1
    (c.without_least-left.ensures.slots c.in-Some.slot (sym c.in-Some.ensures.least))

pub loop-slot-preserved : goal.loop-slot-preserved
loop-slot-preserved c =
    let so_far = c.loop-slot.invariant in
    let nodes = c.args.node.now.state ∷ [] in
    let until = c.args.until in
    let total = c.args.out.now.items ++ back_to_back (by_slots (due_among nodes c.args.set)) c.args.from until in
    let later = by_slots (due_among nodes c.without_least-left.result) in
    let without = c.without_least-left.ensures.slots c.in-Some.slot (sym c.in-Some.ensures.least) in
    let least = least-of c.loop-slot.left c.in-Some.slot (sym c.in-Some.ensures.least) in
    let first = among-first nodes c.loop-slot.left c.without_least-left.result c.in-Some.slot c.due_frame-frame.result (sym c.in-Some.ensures.least)
    without c.due_frame-frame.ensures.frame in
    let sent : TimedFrame = record { start = c.loop-slot.at; len = c.wire_len-len.result; frame = c.due_frame-frame.result } in
    let put = c.push_reserved.ensures.items in
    let behind : (slot : ℕ) → is_among slot (drop (length c.args.out.now.items) c.push_reserved.new.self.items)
    ≡ (is_among slot (drop (length c.args.out.now.items) c.loop-slot.out.items) || nat_eq slot c.in-Some.slot) = grind (arith, among-more, due-identifier) in
    record {
      all = subst (λ n. c.push_reserved.new.self.items ++ back_to_back later (c.loop-slot.at + n) until ≡ total) (sym c.from-at.ensures)
          (put-more c.loop-slot.out.items c.push_reserved.new.self.items total (by_slots (due_among nodes c.loop-slot.left)) later c.due_frame-frame.result
          c.loop-slot.at c.wire_len-len.result until first c.if-at-until.false c.wire_len-len.ensures.value put so_far.all);
      among = λ slot has. so_far.among slot (left-before c.loop-slot.left c.without_least-left.result slot c.in-Some.slot (without slot) has);
      left = λ slot. left-more c.args.set c.loop-slot.left c.without_least-left.result slot c.in-Some.slot _ _ least.1 (behind slot) (without slot) (so_far.left slot);
      apart = λ slot. apart-more c.loop-slot.left c.without_least-left.result slot c.in-Some.slot _ _ (behind slot) (without slot) (so_far.apart slot);
      long = omega (arith, so_far.long, ap length put, length-append c.loop-slot.out.items (sent ∷ []));
      few = omega (arith, so_far.few, c.wire_len-len.ensures.at_least, c.from-at.ensures, c.push_reserved.ensures.len);
      more = omega (arith, so_far.more, c.push_reserved.ensures.len);
      capacity = omega (arith, so_far.capacity, c.push_reserved.ensures.capacity);
    }

pub returns : goal.returns
returns c = grind (arith, among-none, append-nil)

pub bounds-fronts-from : goal.bounds-fronts-from
bounds-fronts-from c = omega (arith, c.from.ensures, (least-of c.loop-slot.left c.in-Some.slot (sym c.in-Some.ensures.least)).0)

pub listed : goal.listed
listed c = omega (arith, c.from.ensures, c.type_inv.fronts, (least-of c.loop-slot.left c.in-Some.slot (sym c.in-Some.ensures.least)).0)
