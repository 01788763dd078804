use Rattle.std.proofs.Common.{◌++◌, List, ℕ, encode_utf8, sym, ap, ◌∙◌, append_assoc, append-nil, rules}
use Rattle.std.proofs.Output.{has_written_append, has_written_of_eq}
use Rattle.std.proofs.lemmas.Str.{IsUtf8-past_char}
use Rattle.system_file.proofs.SystemPaths.{shown_nothing, shown_step}
use Rattle.system_file.proofs.system_fault.PathTextDisplay.fmt.Goals as goal

pub loop-character-preserved : goal.loop-character-preserved
loop-character-preserved g c =
    let held = c.loop-character.invariant in
    let parts = c.in-Some.ensures.steps.0 in (
      IsUtf8-past_char _ _ c.in-Some.character held.0 parts,
      λ plain.
          let so_far = held.1 plain in (
            so_far.0 ++ encode_utf8 c.shown.result,
            has_written_append _ _ _ _ _ _ so_far.1 (search rules),
            append_assoc so_far.0 (encode_utf8 c.shown.result) _
                ∙ ap (λ (text : List ℕ). so_far.0 ++ text) (rw c.shown.ensures.shown (sym (shown_step _ _ c.in-Some.character held.0 parts)))
                ∙ so_far.2,
          ),
    )

pub returns-clause-writes : goal.returns-clause-writes
returns-clause-writes g c = λ plain _.
    let so_far = c.loop-character.invariant.1 plain in
    has_written_of_eq _ _ _ _ _
    (sym (append-nil so_far.0) ∙ ap (λ (text : List ℕ). so_far.0 ++ text) (sym (shown_nothing _ c.in-None.ensures.steps.0.0)) ∙ so_far.2) so_far.1
