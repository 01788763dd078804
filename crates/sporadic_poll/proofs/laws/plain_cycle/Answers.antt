use Rattle.std.proofs.Common.{◌+◌, ◌*◌, [], arith}
use Rattle.requirement_table.specs.Instance.{bytes_of}
use Rattle.sporadic_poll.proofs.Carry.{agree, fresh_trace}
use Rattle.sporadic_poll.proofs.laws.plain_cycle.Goals as goal

pub returns : goal.returns
returns c = record {
  runs = λ layout opening frames known plain.
      let follows = c.same_along.ensures.along (bytes_of, layout, [], opening) (bytes_of, layout, [], opening) plain.past [] (opening.cycle * layout.cycle) ((opening.cycle + 1) * layout.cycle) frames
      (agree layout opening frames plain.past plain.before) plain.follows in
      c.next_cycle.ensures.runs bytes_of layout [] [] opening [] frames known (fresh_trace layout opening frames follows) c.numbers_are_whole.ensures.whole
      (λ k d within. absurd (omega (arith, within))) plain.fits;
}
