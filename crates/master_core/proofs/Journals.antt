-- What is kept of a history.
use Rattle.std.proofs.Common.{◌≡◌, ℕ, ◌+◌, ◌-◌, ◌≤◌, Bool, List, [], ◌∷◌, get_or, length, ap, ◌∙◌, arith}
use Rattle.std.proofs.Math.Seq.{get_or-append_right, get_or-append_seam}
use Rattle.std.proofs.lemmas.List.{length-append}
use Rattle.master_core.specs.declared.event.Event.{Event}
use Rattle.master_core.specs.Journals.{AreRecent, IsLast}

-- the last one of the last events is the last one of all
pub last-is : (keeps : Bool) (history recent : List Event) (event : Event) (count : ℕ) → AreRecent keeps history recent → 1 ≤ length history
    → count ≡ length recent → event ≡ get_or recent (count - 1) event → IsLast history event
last-is keeps history recent event count is some counted at before last ends =
    let whole : length history ≡ length before + 1 = ap length ends ∙ length-append before (last ∷ []) in
    let parts : length history ≡ length is.before + length recent = ap length is.is ∙ length-append is.before recent in
    let early : length is.before ≤ length before = omega arith in
    let place : length before - length is.before ≡ count - 1 = omega arith in
    grind (arith, get_or-append_right, get_or-append_seam)
