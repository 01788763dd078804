use Rattle.std.proofs.Common.{◌+◌, ◌*◌, arith}
use Rattle.stuff_bound.proofs.Sent.{step_at-small}
use Rattle.stuff_bound.proofs.Table.{step_is, step-few}
use Rattle.stuff_bound.proofs.sender.step.Goals as goal

pub returns : goal.returns
returns c =
    let is = step_is (16 * c.args.marked + c.args.state) (omega arith) in
    record {
      value = is;
      state = rw is (step_at-small c.args.marked c.args.state c.requires.state);
      few = step-few (16 * c.args.marked + c.args.state) (omega arith);
    }
