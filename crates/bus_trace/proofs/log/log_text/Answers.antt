use Rattle.std.proofs.Common.{arith, refl, length, ◌<◌, ◌^◌, ◌≡◌, cond, ◌∙◌, sym, subst, rules}
use Rattle.std.proofs.lemmas.List.{take_rest}
use Rattle.std.proofs.lemmas.List.Elements.{All-nil}
use Rattle.master_core.specs.History.{is_open}
use Rattle.bus_trace.specs.Logged.{IsLeft}
use Rattle.log_reader.specs.Row.{IsLogRow}
use Rattle.bus_trace.proofs.LogTrace.{IsLeft-first}
use Rattle.bus_trace.proofs.LogHistory.{one_or_none, ready-at, written-more}
use Rattle.bus_trace.proofs.log.log_text.Goals as goal

pub loop-event-init : goal.loop-event-init
loop-event-init c = (
  record {
    text_is = c.behind-rows.ensures.text ∙ c.new.ensures.items;
    in_range = All-nil IsLogRow;
    entries = c.new-entries.ensures.entries;
    next_is = refl;
    left_is = rw (take_rest c.args.trace.now c.until_trigger.result, c.until_trigger.ensures.place) (IsLeft-first c.args.trace.now);
  },
  omega arith,
)

pub push_event-requires-clause-near : goal.push_event-requires-clause-near
push_event-requires-clause-near c =
    let few : length c.args.history.now < 2 ^ 63 = omega arith in
    let ready = ready-at _ _ _ _ _ _ _ _ c.loop-event-test.true c.event-item.is c.loop-event.invariant.0 c.requires.legal.0 c.requires.legal.1 c.requires.legal.2 (omega arith) in
    ready.near

pub place_event-requires-clause-formed : goal.place_event-requires-clause-formed
place_event-requires-clause-formed c =
    let few : length c.args.history.now < 2 ^ 63 = omega arith in
    let ready = ready-at _ _ _ _ _ _ _ _ c.loop-event-test.true c.event-item.is c.loop-event.invariant.0 c.requires.legal.0 c.requires.legal.1 c.requires.legal.2 (omega arith) in
    ready.formed

pub loop-event-preserved : goal.loop-event-preserved
loop-event-preserved c =
    let is = c.loop-event.invariant.0 in
    let few : length c.args.history.now < 2 ^ 63 = omega arith in
    let ready = ready-at _ _ _ _ _ _ _ _ c.loop-event-test.true c.event-item.is is c.requires.legal.0 c.requires.legal.1 c.requires.legal.2 (omega arith) in
    let step : c.from-next.result ≡ cond (is_open c.event-item.result) 1 0 = search rules in (
      written-more _ _ _ _ _ _ _ _ c.loop-event-test.true c.event-item.is is _ c.split_at.result.0.now _ _ _ ready.in_turn c.in_ok-push_event.ensures.ok c.in_ok-push_event.ensures.in_range
          (c.split_at.ensures.front ∙ c.frame_count.ensures.frames _ _ is.left_is ready.in_turn)
          (c.in_ok-place_event.ensures.entries _ is.entries) step
          (subst (IsLeft _ _) (sym c.split_at.ensures.back) (c.frame_count.ensures.left _ _ is.left_is)),
      omega (arith, step, one_or_none (is_open c.event-item.result)),
    )
