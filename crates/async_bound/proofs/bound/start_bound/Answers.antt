use Rattle.std.proofs.Common.{◌≡◌, ◌+◌, ◌-◌, ◌*◌, ◌/◌, ◌%◌, ◌∙◌, ap, subst}
use Rattle.async_bound.specs.Room.{room_of_cycle}
use Rattle.async_bound.specs.Bound.{longest_up_to, own_before}
use Rattle.async_bound.proofs.Steps.{step-fits, step-more, step-none}
use Rattle.async_bound.proofs.bound.start_bound.Goals as goal
use Rattle.async_bound.proofs.bound.start_bound.Goals.{After-least_row}

pub returns-then-need-stream-clause-none : goal.returns-then-need-stream-clause-none
returns-then-need-stream-clause-none c = λ other within fits.
    step-none c.args.layout.now c.args.streams.now c.args.stream.now c.own_before-own.result c.loop-span.span (c.demand.result + c.own_before-own.result + 1)
    c.room_of_cycle-room.ensures.known c.requires.known (c.own_before-own.ensures.value ∙ ap (λ n. own_before c.args.stream.now n) c.longest_up_to-longest.ensures.value) (ap (λ n. n + c.own_before-own.result + 1) c.demand.ensures.value)
    c.args.stream.now.gap other c.if-need-stream.true fits (c.loop-span.invariant other fits) within

-- the room of a cycle, and the row that is looked for, in the words of the definitions
room-is : (c : After-least_row) → c.room_of_cycle-room.result ≡ room_of_cycle c.args.layout.now (longest_up_to c.args.streams.now c.args.stream.now.id)
room-is c = c.room_of_cycle-room.ensures.value ∙ ap (λ n. room_of_cycle c.args.layout.now n) c.longest_up_to-longest.ensures.value

row-is : (c : After-least_row) → c.least_row.result ≡ (c.demand.result + c.own_before-own.result + 1 - 1) / c.room_of_cycle-room.result * c.args.layout.now.cycle
    + (c.args.layout.now.cycle - c.room_of_cycle-room.result) + (c.demand.result + c.own_before-own.result + 1 - 1) % c.room_of_cycle-room.result + 1
row-is c =
    subst (λ n. c.least_row.result ≡ (c.demand.result + c.own_before-own.result + 1 - 1) / c.room_of_cycle-room.result * n
    + (n - c.room_of_cycle-room.result) + (c.demand.result + c.own_before-own.result + 1 - 1) % c.room_of_cycle-room.result + 1)
    (c.from.ensures ∙ c.cycle.ensures.value) c.least_row.ensures.value

pub returns-then-next-span-clause-some : goal.returns-then-next-span-clause-some
returns-then-next-span-clause-some c =
    let here = (goal.at.returns-then-next-span-clause-some c).After-least_row in
    record {
      within = c.loop-span-test.true;
      fits =
          step-fits c.args.layout.now c.args.streams.now c.args.stream.now c.own_before-own.result c.loop-span.span c.blocking-blocking.result c.room_of_cycle-room.result (c.demand.result + c.own_before-own.result + 1) c.least_row.result
          c.room_of_cycle-room.ensures.known c.requires.known (c.own_before-own.ensures.value ∙ ap (λ n. own_before c.args.stream.now n) c.longest_up_to-longest.ensures.value) c.blocking-blocking.ensures.value (room-is here) c.if-room-eq0.false (ap (λ n. n + c.own_before-own.result + 1) c.demand.ensures.value) (row-is here) c.if-next-span.true;
      least = c.loop-span.invariant;
    }

pub loop-span-preserved : goal.loop-span-preserved
loop-span-preserved c =
    let here = (goal.at.loop-span-preserved c).After-least_row in
    λ other fits.
    step-more c.args.layout.now c.args.streams.now c.args.stream.now c.own_before-own.result c.loop-span.span c.blocking-blocking.result c.room_of_cycle-room.result (c.demand.result + c.own_before-own.result + 1) c.least_row.result
    c.room_of_cycle-room.ensures.known c.requires.known (c.own_before-own.ensures.value ∙ ap (λ n. own_before c.args.stream.now n) c.longest_up_to-longest.ensures.value) c.blocking-blocking.ensures.value (room-is here) c.if-room-eq0.false (ap (λ n. n + c.own_before-own.result + 1) c.demand.ensures.value) (row-is here)
    other fits (c.loop-span.invariant other fits)
