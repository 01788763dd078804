use Rattle.std.proofs.Common.{◌∙◌}
use Rattle.sporadic_poll.proofs.Taking.{length_other, next_of, none_arrived, none_current, none_released, none_taken_at}
use Rattle.sporadic_poll.proofs.rides.take_from.Goals as goal

pub returns-then-not-has_arrived-clause-ride : goal.returns-then-not-has_arrived-clause-ride
returns-then-not-has_arrived-clause-ride c = λ layout_cycle lengths carried at ride released taken.
    none_taken_at layout_cycle _ _ lengths carried _ _ ride taken (none_arrived layout_cycle _ lengths _ _ _ at (c.has_arrived.ensures.none c.if-not-has_arrived.true))

pub returns-in_err-current-clause-ride : goal.returns-in_err-current-clause-ride
returns-in_err-current-clause-ride c = λ layout_cycle lengths carried at ride released taken.
    let none = c.in_err-current.ensures.value in
    rw c.from_residual.ensures (none_taken_at layout_cycle _ _ lengths carried _ _ ride taken
    (none_released layout_cycle _ lengths _ _ (released ∙ none_current c.args.placed.now c.args.slot c.args.cycle none)))

pub returns-then-current-cycle-clause-next : goal.returns-then-current-cycle-clause-next
returns-then-current-cycle-clause-next c = next_of _ _ _ _ c.take.result c.take.ensures.value

pub returns-else-current-cycle-clause-ride : goal.returns-else-current-cycle-clause-ride
returns-else-current-cycle-clause-ride c = λ layout_cycle lengths carried at ride released taken.
    none_taken_at layout_cycle _ _ lengths carried _ _ ride taken (none_released layout_cycle _ lengths _ _ (released ∙ length_other c.args.placed.now c.args.slot c.args.cycle c.in_ok-current.current c.in_ok-current.ensures.value c.if-current-cycle.false))
