use Rattle.async_window.proofs.Shared.{IsMail-put}
use Rattle.node_model.proofs.node.Node.put.Goals as goal

pub invariant_of-self : goal.invariant_of-self
invariant_of-self c =
    let old = c.self.invariant in
    record {
      node = record {
        layout = old.node.layout;
        entries = old.node.entries;
        mail = IsMail-put c.put.result c.args.request.now c.self.inside.mailboxes c.put.new.self old.node.mail c.requires.early
            c.put.ensures.put c.put.ensures.full c.put.ensures.same;
        opened = old.node.opened;
        next = old.node.next;
        frames = old.node.frames;
        noted = old.node.noted;
      };
      own_slots = old.own_slots;
      placed = old.placed;
      instances = old.instances;
      ready = old.ready;
      due = old.due;
      instances_due = old.instances_due;
      ahead = tt;
    }
