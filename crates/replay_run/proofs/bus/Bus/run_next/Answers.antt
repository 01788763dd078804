use Rattle.std.proofs.Common.{◌≤◌, ◌++◌, ◌∙◌, length, subst, sym}
use Rattle.requirement_table.specs.Instance.{bytes_of}
use Rattle.replay_run.specs.Progress.{BeginWithTriggers, CanTellLast, IsBroughtOn, IsRunNext, KeepsFrames}
use Rattle.replay_run.proofs.Going.{begin-with-triggers, few, its-frames, ran}
use Rattle.replay_run.proofs.RunNext.{run-next}
use Rattle.replay_run.proofs.bus.Bus.run_next.Goals as goal

pub keep-requires-clause-few : goal.keep-requires-clause-few
keep-requires-clause-few c =
    subst (λ l. length l ≤ 2128) (sym (c.frames.ensures.list ∙ c.exchange.ensures.taken))
    (few c.args.self.now c.run_cycle_into.new.frames.items c.requires.going c.run_cycle_into.ensures.few)

pub returns-clause-on : goal.returns-clause-on
returns-clause-on c = λ setting trace going.
    subst (λ frames. IsBroughtOn setting trace c.args.self.now
    (record c.args.self.now { master = c.open-order.new.self; nodes = c.run_cycle_into.new.nodes; segment = c.exchange.new.self; room = c.exchange.new.list; trace = c.keep.new.trace }) frames) (sym c.exchange.ensures.taken)
    (ran (record {
      run = record { before = c.orders.ensures.before; same_offers = c.cycles_run.ensures.same_offers; under_way = c.cycles_run.ensures.under_way; ready = c.cycles_run.ensures.ready };
      fits = c.orders.ensures.fits;
      cycles = c.opened_cycles.ensures.cycles;
      sends = λ layout requests openings opening trace frames known behind.
          c.next_cycle.ensures.runs bytes_of layout requests openings opening trace frames known behind c.numbers_are_whole.ensures.whole;
    })
    setting trace c.args.self.now
    (record c.args.self.now { master = c.open-order.new.self; nodes = c.run_cycle_into.new.nodes; segment = c.exchange.new.self; room = c.exchange.new.list; trace = c.keep.new.trace })
    c.open-order.result c.run_cycle_into.new.frames.items c.open-order.ensures.order
    (record {
      layout = c.run_cycle_into.ensures.layout;
      heard = c.run_cycle_into.ensures.heard;
      runs = c.run_cycle_into.ensures.runs;
      stand = c.run_cycle_into.ensures.stand;
    })
    c.open-order.ensures.rules c.open-order.ensures.event c.open-order.ensures.plain
    (λ kept. subst (λ l. KeepsFrames c.keep.new.trace (trace ++ l)) (c.frames.ensures.list ∙ c.exchange.ensures.taken) (c.keep.ensures.frames trace kept))
    (c.run_cycle_into.ensures.spare c.args.self.now.spare) c.open-order.ensures.keeps c.keep.ensures.kept
    going)

pub returns-clause-last : goal.returns-clause-last
returns-clause-last c =
    subst (λ frames. CanTellLast c.open-order.new.self.history frames) (sym c.exchange.ensures.taken)
    (its-frames (record {
      run = record { before = c.orders.ensures.before; same_offers = c.cycles_run.ensures.same_offers; under_way = c.cycles_run.ensures.under_way; ready = c.cycles_run.ensures.ready };
      fits = c.orders.ensures.fits;
      cycles = c.opened_cycles.ensures.cycles;
      sends = λ layout requests openings opening trace frames known behind.
          c.next_cycle.ensures.runs bytes_of layout requests openings opening trace frames known behind c.numbers_are_whole.ensures.whole;
    })
    c.args.self.now c.run_cycle_into.new.nodes c.open-order.result c.run_cycle_into.new.frames.items c.open-order.new.self.history c.requires.going c.open-order.ensures.order
    (record {
      layout = c.run_cycle_into.ensures.layout;
      heard = c.run_cycle_into.ensures.heard;
      runs = c.run_cycle_into.ensures.runs;
      stand = c.run_cycle_into.ensures.stand;
    })
    c.open-order.ensures.event)

pub returns-clause-triggers : goal.returns-clause-triggers
returns-clause-triggers c =
    subst (λ frames. BeginWithTriggers c.args.self.now.master.rules c.args.self.now.master.history frames) (sym c.exchange.ensures.taken)
    (begin-with-triggers (record {
      run = record { before = c.orders.ensures.before; same_offers = c.cycles_run.ensures.same_offers; under_way = c.cycles_run.ensures.under_way; ready = c.cycles_run.ensures.ready };
      fits = c.orders.ensures.fits;
      cycles = c.opened_cycles.ensures.cycles;
      sends = λ layout requests openings opening trace frames known behind.
          c.next_cycle.ensures.runs bytes_of layout requests openings opening trace frames known behind c.numbers_are_whole.ensures.whole;
    })
    c.args.self.now c.run_cycle_into.new.nodes c.open-order.result c.run_cycle_into.new.frames.items c.requires.going c.open-order.ensures.order
    (record {
      layout = c.run_cycle_into.ensures.layout;
      heard = c.run_cycle_into.ensures.heard;
      runs = c.run_cycle_into.ensures.runs;
      stand = c.run_cycle_into.ensures.stand;
    }))

pub returns-clause-follows : goal.returns-clause-follows
returns-clause-follows c = λ setting trace going.
    subst (λ frames. IsRunNext setting trace c.args.self.now
    (record c.args.self.now { master = c.open-order.new.self; nodes = c.run_cycle_into.new.nodes; segment = c.exchange.new.self; room = c.exchange.new.list; trace = c.keep.new.trace }) frames) (sym c.exchange.ensures.taken)
    (run-next (record { before = c.orders.ensures.before; same_offers = c.cycles_run.ensures.same_offers; under_way = c.cycles_run.ensures.under_way; ready = c.cycles_run.ensures.ready })
    setting trace c.args.self.now
    (record c.args.self.now { master = c.open-order.new.self; nodes = c.run_cycle_into.new.nodes; segment = c.exchange.new.self; room = c.exchange.new.list; trace = c.keep.new.trace })
    c.open-order.result c.run_cycle_into.new.frames.items c.open-order.ensures.order
    (record {
      layout = c.run_cycle_into.ensures.layout;
      heard = c.run_cycle_into.ensures.heard;
      runs = c.run_cycle_into.ensures.runs;
      stand = c.run_cycle_into.ensures.stand;
    })
    c.open-order.ensures.event going)

pub returns-clause-few : goal.returns-clause-few
returns-clause-few c = subst (λ l. length l ≤ 2128) (sym c.exchange.ensures.taken) (few c.args.self.now c.run_cycle_into.new.frames.items c.requires.going c.run_cycle_into.ensures.few)
