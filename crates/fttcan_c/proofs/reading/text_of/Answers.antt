-- The checker takes the text.
use Rattle.fttcan_c.proofs.Taken.{text_of_core}
use Rattle.fttcan_c.proofs.reading.text_of.Goals as goal

pub returns : goal.returns
returns c = record {
  text = text_of_core
      _
      c.args.core.now
      c.in_ok-certificate.certificate
      c.in_ok-certificate.ensures.core
      c.in_ok-certificate.ensures.certificate
      c.in_ok-certificate.ensures.taken
      c.in_ok-certificate.ensures.cycles
      c.in_ok-certificate.ensures.read
      c.in_ok-text.ensures.text;
}
