use Rattle.replay_run.proofs.Going.{still}
use Rattle.replay_run.proofs.bus.Bus.make_ready.Goals as goal

pub returns-clause-still : goal.returns-clause-still
returns-clause-still c =
    still c.args.self.now
    (record c.args.self.now { master = c.reserve.new.self; segment = c.give_room.new.self; room = c.give_room.new.list; nodes = c.make_spare.new.nodes; spare = c.make_spare.new.spare; trace = c.make_room.new.trace })
    c.reserve.ensures.rules c.reserve.ensures.history c.reserve.ensures.keeps c.make_room.ensures.same c.make_room.ensures.kept
    c.make_spare.ensures.layout c.make_spare.ensures.same (λ setting trace going. c.make_spare.ensures.spare)
