use Rattle.std.proofs.Common.{◌≡◌, ◌+◌, ◌∙◌, ◌++◌, ◌∷◌, [], ℕ, Some, refl, ap, subst, sym, arith}
use Rattle.std.proofs.lemmas.Grind.{common_steps}
use Rattle.admission_rules.specs.declared.Rules.{Rules}
use Rattle.bit_sets.specs.Sets.{has_bit}
use Rattle.requirement_table.specs.Table.{width_in}
use Rattle.master_core.specs.Cores.{IsStateOf}
use Rattle.master_core.specs.declared.event.Event.TheVariants.{Open}
use Rattle.trigger_codec.specs.declared.heard.Heard.{Heard}
use Rattle.trigger_codec.specs.Heard.{heard_of}
use Rattle.fttcan_c.specs.Following.{due_frames, planned_of, sum_of}
use Rattle.c_values.specs.Plain.{frames_of}
use Rattle.fttcan_c.proofs.DueFrames.{due-heard, slots-heard}
use Rattle.fttcan_c.proofs.hearing.heard_by.Goals as goal

pub returns-then-ne-clause-heard : goal.returns-then-ne-clause-heard
returns-then-ne-clause-heard c =
    let slots = ap (λ (r : Rules). heard_of r.slots c.next-cycle.result (frames_of c.args.frames.now)) c.rules-rules.ensures.rules in
    let cycle = ap (λ (n : ℕ). heard_of c.args.core.now.rules.slots n (frames_of c.args.frames.now)) c.next-cycle.ensures.next in
    let heard = sym cycle ∙ sym slots ∙ sym c.in_ok-heard.ensures.heard ∙ c.in-Some.is in (
      (
        c.next-cycle.ensures.next,
        c.upcoming-upcoming.ensures.upcoming.order.mask,
        λ same. let ne = c.if-ne.ensures in grind (arith, common_steps),
        (c.in-Some.heard.l, heard),
      ),
      refl,
    )

pub returns-then-ne-clause-due : goal.returns-then-ne-clause-due
returns-then-ne-clause-due c tells due =
    let slots = ap (λ (r : Rules). heard_of r.slots c.next-cycle.result (frames_of c.args.frames.now)) c.rules-rules.ensures.rules in
    let cycle = ap (λ (n : ℕ). heard_of c.args.core.now.rules.slots n (frames_of c.args.frames.now)) c.next-cycle.ensures.next in
    let heard = sym cycle ∙ sym slots ∙ sym c.in_ok-heard.ensures.heard ∙ c.in-Some.is in
    let said = due-heard c.triggers_are_heard.ensures.heard c.args.reserve c.args.core.now c.upcoming-upcoming.result c.known.ensures.core c.upcoming-upcoming.ensures.upcoming tells in
    let same = ap slots-heard (sym heard ∙ ap (heard_of c.args.core.now.rules.slots c.args.core.now.cycle) due ∙ said) in
    absurd (let ne = c.if-ne.ensures in grind (arith, common_steps))

pub returns-clause-heard : goal.returns-clause-heard
returns-clause-heard c =
    let slots = ap (λ (r : Rules). heard_of r.slots c.next-cycle.result (frames_of c.args.frames.now)) c.rules-rules.ensures.rules in
    let cycle = ap (λ (n : ℕ). heard_of c.args.core.now.rules.slots n (frames_of c.args.frames.now)) c.next-cycle.ensures.next in
    let heard = sym cycle ∙ sym slots ∙ sym c.in_ok-heard.ensures.heard ∙ c.in-Some.is in
    let flags : c.in-Some.heard.mask ≡ c.upcoming-upcoming.result.mask = let ne = c.if-ne.ensures in grind (arith, common_steps) in
    let mask : c.upcoming-upcoming.result.mask ≡ planned_of c.args.core.now = c.upcoming-upcoming.ensures.upcoming.order.mask in
    let window : c.in-Some.heard.l ≡ c.args.reserve + c.upcoming-upcoming.result.l =
    let ne = c.if-from-wanted.false in let one = c.from.ensures in let two = c.from-2.ensures in let three = c.from-3.ensures in
    grind (arith, common_steps) in
    let sum : c.upcoming-upcoming.result.l ≡ sum_of c.args.core.now = c.upcoming-upcoming.ensures.upcoming.order.window
    ∙ ap (λ (m : ℕ). width_in c.args.core.now.placed c.args.core.now.cycle (has_bit m)) mask in
    record {
      heard = heard
          ∙ ap (λ (m : ℕ). Some (record { l = c.in-Some.heard.l; mask = m })) (flags ∙ mask)
          ∙ ap (λ (l : ℕ). Some (record { l = l; mask = planned_of c.args.core.now }))
          (window ∙ ap (λ (l : ℕ). c.args.reserve + l) sum);
      after = c.open_upcoming.ensures.state;
      safe = c.known.ensures.core.safe.safe;
      history = λ history is. subst (λ (m : ℕ). IsStateOf (history ++ Open c.args.core.now.cycle m ∷ []) c.open_upcoming.new.self) c.open_upcoming.ensures.order.mask
          (subst (λ (n : ℕ). IsStateOf (history ++ Open n c.open_upcoming.result.mask ∷ []) c.open_upcoming.new.self) c.open_upcoming.ensures.order.cycle
          (c.open_upcoming.ensures.history history is));
    }
