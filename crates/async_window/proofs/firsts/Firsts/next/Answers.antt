use Rattle.async_window.proofs.firsts.Firsts.next.Goals as goal

pub returns-in-Some : goal.returns-in-Some
returns-in-Some c = record { next = c.in-Some.ensures.next c.args.boxes.now c.requires.firsts }
