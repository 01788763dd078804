use Rattle.std.proofs.Common.{◌≡◌, ◌<◌, ◌⊎◌, ◌≤◌, inl, inr, length, true, sym, rules, arith}
use Rattle.text_fields.proofs.PlainCuts.{no-part, part-at}
use Rattle.text_fields.proofs.records.Record.field.Goals.{else-place-self-via-then-place-self+else-place-parts, else-place-self-via-else-place-self}
use Rattle.text_fields.proofs.records.Record.field.Goals as goal

pub returns-then-place-parts : goal.returns-then-place-parts
returns-then-place-parts c =
    let row = c.args.self.now in
    let plain : row.is_plain ≡ true = search (rules, c.if-not-self.false) in
    let inside : c.args.place < length row.parts = search (rules, c.if-place-parts.true) in
    record { value = rw plain (sym (part-at row.parts row.count c.args.place _ c.if-place-self.true inside)) }

pub returns-else-place-self : goal.returns-else-place-self
returns-else-place-self c =
    let row = c.args.self.now in
    let plain : row.is_plain ≡ true = search (rules, c.if-not-self.false) in
    let none : (row.count ≤ c.args.place) ⊎ (length row.parts ≤ c.args.place)
    = elim c.else-place-self.branch [
      | else-place-self-via-then-place-self+else-place-parts w ↦ inr (search (rules, w.if-place-parts.false))
      | else-place-self-via-else-place-self w ↦ inl (omega (arith, w.if-place-self.false))
    ] in
    record { value = rw plain (sym (no-part row.parts row.count c.args.place none)) }
