use Rattle.text_fields.proofs.MaskDigits.{digits-of_mask, mask_of-digits}
use Rattle.text_fields.proofs.masks.masks_are_read.Goals as goal

pub returns-clause-written : goal.returns-clause-written
returns-clause-written c = mask_of-digits

pub returns-clause-one_text : goal.returns-clause-one_text
returns-clause-one_text c = λ field mask read. (digits-of_mask field mask read).0
