-- Where not all was known, it is so of all slots; where all was, each of these slots has its instance.
use Rattle.std.proofs.Common.{sym, ◌∙◌}
use Rattle.node_model.proofs.Ready.{is_some-known}
use Rattle.node_model.proofs.entries.sendable_among.Goals as goal

pub returns-then-turn_all : goal.returns-then-turn_all
returns-then-turn_all c =
    let known = c.turn_all.ensures.sendable c.if-turn_all.true in
    let ready = c.turn_all.ensures.ready c.args.entries.now c.requires.ready in
    record {
      slots = λ slot has. has ∙ sym (is_some-known c.args.entries.now _ slot c.args.cycle ready (known slot has));
      sendable = known;
      ready = ready;
    }
