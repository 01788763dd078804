use Rattle.std.proofs.Common.{◌<◌, ℕ, arith, subst}
use Rattle.std.proofs.lemmas.Option.{get_or_from_slice_get, slice_get_within}
use Rattle.bit_sets.specs.Sets.{most_slots}
use Rattle.master_core.specs.Openings.{openings_of}
use Rattle.replay_run.proofs.Shared.{is_rules}
use Rattle.sporadic_poll.specs.declared.stream.Stream.{Stream}
use Rattle.sporadic_poll.specs.Polled.{lengths_of}
use Rattle.poll_run.proofs.SentOnce.{sent-in_order, sent-once}
use Rattle.poll_run.proofs.laws.sent_once.Goals as goal

pub returns-clause-once : goal.returns-clause-once
returns-clause-once c = λ system streams history carried trace place release other cycle again is legal polled one two.
    let stream : Stream = one.stream in
    let few = (is_rules system is).few_slots in
    let below = (legal.each place stream (slice_get_within streams place stream one.at)).known in
    let known : stream.slot < most_slots = subst (λ (s : Stream). s.slot < most_slots) (get_or_from_slice_get streams place stream stream one.at) (omega (arith, below, few)) in
    sent-once (record {
      well_placed = c.legal_histories.ensures.well_placed;
      in_time = c.legal_histories.ensures.in_time;
      masks = c.opened_cycles.ensures.masks;
      instances = c.opened_cycles.ensures.instances;
      good = c.keeping.ensures.good;
      within = c.waiting_slots.ensures.within;
      once = c.in_order.ensures.once;
      order = c.in_order.ensures.order;
    })
    system.rules history polled.plain.legal system.layout.cycle streams carried (lengths_of (openings_of history) stream.slot)
    stream place release other cycle again (polled.rides stream.slot known) known one.at one two

pub returns-clause-order : goal.returns-clause-order
returns-clause-order c = λ system streams history carried trace slot before behind release later cycle again is legal polled first second less one two.
    let few = (is_rules system is).few_slots in
    let stream : Stream = first.stream in
    let below = (legal.each before stream (slice_get_within streams before stream first.at)).known in
    let known : stream.slot < most_slots = subst (λ (s : Stream). s.slot < most_slots) (get_or_from_slice_get streams before stream stream first.at) (omega (arith, below, few)) in
    let here : slot < most_slots = subst (λ (n : ℕ). n < most_slots) first.its_slot known in
    sent-in_order (record {
      well_placed = c.legal_histories.ensures.well_placed;
      in_time = c.legal_histories.ensures.in_time;
      masks = c.opened_cycles.ensures.masks;
      instances = c.opened_cycles.ensures.instances;
      good = c.keeping.ensures.good;
      within = c.waiting_slots.ensures.within;
      once = c.in_order.ensures.once;
      order = c.in_order.ensures.order;
    })
    system.rules history polled.plain.legal system.layout.cycle streams carried (lengths_of (openings_of history) slot)
    slot before behind release later cycle again first.stream second.stream (polled.rides slot here) first.at first.its_slot second.at second.its_slot less one two
