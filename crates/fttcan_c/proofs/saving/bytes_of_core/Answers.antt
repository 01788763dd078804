-- One state alone has these bytes.
use Rattle.fttcan_c.proofs.Saved.{bytes_of_one}
use Rattle.fttcan_c.proofs.saving.bytes_of_core.Goals as goal

pub returns : goal.returns
returns c = record {
  bytes = bytes_of_one
      c.one_state.ensures.cores
      _
      c.in_ok-saved.saved
      c.args.core.now
      c.in_ok-saved.ensures.saved
      c.in_ok-saved.ensures.core
      c.in_ok-bytes.ensures.bytes
      c.in_ok-bytes.ensures.count;
}
