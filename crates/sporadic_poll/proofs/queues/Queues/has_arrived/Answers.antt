use Rattle.std.proofs.Common.{◌<◌, length}
use Rattle.sporadic_poll.proofs.Linking.{read_at}
use Rattle.sporadic_poll.proofs.queues.Queues.has_arrived.Goals as goal

pub returns : goal.returns
returns c =
    let known : c.args.slot < length c.self.inside.next.items = rw (← c.self.view_is) at c.requires.known in
    let here = read_at c.self.inside.next.items c.from.result c.args.slot c.index-next.result.now c.index-next.ensures c.from.ensures known in
    record {
      arrived = rw (← c.self.view_is, ← here, ← c.as_slice.ensures.value) c.has_arrived.ensures.arrived;
      none = rw (← c.self.view_is, ← here, ← c.as_slice.ensures.value) c.has_arrived.ensures.none;
    }
