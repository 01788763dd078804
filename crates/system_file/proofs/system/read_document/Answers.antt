use Rattle.std.proofs.Common.{refl, inl, inr}
use Rattle.std.proofs.lemmas.Bool.{cases_Bool, false≢true}
use Rattle.std.proofs.lemmas.Str.{IsUtf8-from_is_utf8, is_utf8-from_IsUtf8}
use Rattle.std.specs.Str.{is_utf8}
use Rattle.system_file.proofs.system.read_document.Goals as goal

pub returns-in-Ok-clause-ok : goal.returns-in-Ok-clause-ok
returns-in-Ok-clause-ok c = rw (is_utf8-from_IsUtf8 c.args.bytes.now c.in-Ok.ensures.ok.0) c.in-Ok.ensures.ok.1

pub returns-else-is_memory-clause-refused : goal.returns-else-is_memory-clause-refused
returns-else-is_memory-clause-refused c _ =
    elim (cases_Bool (is_utf8 c.args.bytes.now)) [
      | inl text ↦ rw text (c.in-Err.ensures.refused (λ memory. false≢true (c.if-is_memory.ensures.1 memory)) (IsUtf8-from_is_utf8 c.args.bytes.now text))
      | inr other ↦ rw other refl
    ]
