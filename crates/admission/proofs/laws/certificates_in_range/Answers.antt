use Rattle.admission.proofs.InRange.{cycles-from, cycles-within, masks-below, nothing-pending, pending-from, text-read}
use Rattle.admission.proofs.Listed.{masks-length}
use Rattle.admission.proofs.laws.certificates_in_range.Goals as goal

pub returns : goal.returns
returns c = record {
  count = masks-length;
  masks = masks-below;
  pending = nothing-pending;
  cycles = λ rules placed opened state certificate ranges low made whole.
      cycles-within rules placed opened state certificate made ranges whole low;
  read = λ rules placed opened state certificate ranges low made whole.
      text-read rules placed opened state certificate made ranges whole low;
  pending_from = pending-from;
  cycles_from = cycles-from;
}
