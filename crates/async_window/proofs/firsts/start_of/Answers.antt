use Rattle.async_window.proofs.Soonest.{CanStart-late, CanStart-same}
use Rattle.async_window.proofs.firsts.start_of.Goals as goal

pub returns : goal.returns
returns c = record {
  start = CanStart-same c.args.window.opened c.args.window.closed c.args.at c.args.arrival c.bytes.result c.args.mailbox.now.unsent
      c.earliest.result c.requires.arrival c.bytes.ensures.bytes c.earliest.ensures.earliest;
}

pub returns-then-window-arrival : goal.returns-then-window-arrival
returns-then-window-arrival c = record {
  start = CanStart-late c.args.window.opened c.args.window.closed c.args.at c.args.arrival c.args.mailbox.now.unsent
      c.requires.arrival c.if-window-arrival.true;
}
