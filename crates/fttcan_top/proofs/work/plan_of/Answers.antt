use Rattle.std.proofs.Common.{refl, sym}
use Rattle.fttcan_top.proofs.work.plan_of.Goals as goal

pub returns : goal.returns
returns c =
    let rules = c.in_ok-master.ensures.rules in
    record {
      plan = record {
        history = c.in_ok-master.master.history;
        answers = rw (sym c.as_slice.ensures.list) c.in_ok-master.ensures.answers;
        plain = rw (sym rules) c.in_ok-master.ensures.plain;
        certificate = c.in_ok-certificate.certificate;
        made = rw (sym rules) c.in_ok-certificate.ensures.certificate;
        taken = rw (sym rules) c.in_ok-certificate.ensures.taken;
        ended = rw (c.status_when.ensures.status, c.all_accepted.ensures.test, c.history.ensures.list) refl;
        written = c.in_ok-text.ensures.text;
      };
      done = c.status_when.ensures.done;
    }
