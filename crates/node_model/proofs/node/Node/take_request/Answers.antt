use Rattle.std.proofs.Common.{◌≡◌, refl, sym, ◌∙◌}
use Rattle.async_window.proofs.Shared.{IsMail-without}
use Rattle.node_model.proofs.Mail.{no-first, without_first-none}
use Rattle.node_model.proofs.node.Node.take_request.Goals as goal

pub invariant_of-self-2 : goal.invariant_of-self-2
invariant_of-self-2 c =
    let old = c.self.invariant in
    record {
      node = record {
        layout = old.node.layout;
        entries = old.node.entries;
        mail = rw c.take.ensures.taken (IsMail-without c.args.id c.self.inside.mailboxes old.node.mail);
        opened = old.node.opened;
        next = old.node.next;
        frames = old.node.frames;
        noted = old.node.noted;
      };
      own_slots = old.own_slots;
      placed = old.placed;
      instances = old.instances;
      ready = old.ready;
      due = old.due;
      instances_due = old.instances_due;
      ahead = tt;
    }

same-mail : (c : goal.Then-not-take) → c.take.new.self ≡ c.self.inside.mailboxes
same-mail c =
    c.take.ensures.taken
    ∙ without_first-none c.args.id c.self.inside.mailboxes c.self.invariant.node.mail
    (no-first _ (sym c.take.ensures.some ∙ c.if-not-take.true))

pub invariant_of-self : goal.invariant_of-self
invariant_of-self c = rw (same-mail c) c.self.invariant

pub returns-then-not-take-clause-taken : goal.returns-then-not-take-clause-taken
returns-then-not-take-clause-taken c = rw (← c.self.view_is, c.take.ensures.taken) refl

pub returns-then-not-take-clause-none : goal.returns-then-not-take-clause-none
returns-then-not-take-clause-none c = λ _. rw (← c.self.view_is, same-mail c) refl
