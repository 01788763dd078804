use Rattle.std.proofs.Common.{◌≡◌, ◌+◌, ◌-◌, ◌&&◌, nat_lt, ap, ◌∙◌}
use Rattle.std.proofs.lemmas.Bool.{lt-ltb}
use Rattle.plan_check.specs.Blocks.{ends_by, meets}
use Rattle.plan_check.proofs.Entries.{ends-meets}
use Rattle.plan_check.proofs.Marks.{marked-as}
use Rattle.plan_check.proofs.blocks.mark_ends.Goals as goal

pub returns : goal.returns
returns c =
    let p = c.args.p.now in
    let count = c.args.count in
    let first : p.origin + c.from.result + c.from-2.result - 1 ≡ p.origin + p.entry.phase + p.entry.deadline - 1
    = ap (λ n. p.origin + n + c.from-2.result - 1) c.from.ensures ∙ ap (λ n. p.origin + p.entry.phase + n - 1) c.from-2.ensures in
    record {
      marked = marked-as count (λ i. nat_lt i count && meets c.offset.result c.from-period.result i) (λ i. ends_by p (c.args.from + i)) c.args.one
          c.args.sets.now c.mark.new.sets c.requires.few
          (λ i below.
          ap (λ b. b && meets c.offset.result c.from-period.result i) (lt-ltb i count below)
          ∙ c.offset.ensures.meets i
          ∙ ap (λ n. meets n c.from-period.result (c.args.from + i)) first
          ∙ ap (λ n. meets (p.origin + p.entry.phase + p.entry.deadline - 1) n (c.args.from + i)) c.from-period.ensures
          ∙ ends-meets p (c.args.from + i) c.requires.in_range (c.requires.not_over i below))
          c.mark.ensures.marked;
    }
