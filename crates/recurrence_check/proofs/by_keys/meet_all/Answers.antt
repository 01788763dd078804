use Rattle.std.proofs.Common.{sym, subst}
use Rattle.std.specs.BTreeMap.{get}
use Rattle.recurrence_check.specs.Keys.{MeetsRun, table}
use Rattle.recurrence_check.proofs.Noted.{key_cmp}
use Rattle.recurrence_check.proofs.Stretched.{run-none}
use Rattle.recurrence_check.proofs.by_keys.meet_all.Goals as goal

pub returns-in_default-clause-met : goal.returns-in_default-clause-met
returns-in_default-clause-met c =
    let old = table c.args.row.now.items (get key_cmp c.args.others.now) in
    subst (λ key. MeetsRun old old key c.args.steps c.args.count) (sym c.in_default.is) (run-none old c.args.steps c.args.count)

pub returns-then-len-place-clause-met : goal.returns-then-len-place-clause-met
returns-then-len-place-clause-met c =
    let others = get key_cmp c.args.others.now in
    subst (λ key. MeetsRun (table c.args.row.now.items others) (table c.append.new.row.items others) key c.args.steps c.args.count)
    (sym c.in-Some.is) (c.in_ok-append.ensures.met others c.requires.sparse)

pub returns-then-len-place-clause-sparse : goal.returns-then-len-place-clause-sparse
returns-then-len-place-clause-sparse c = λ _. c.in_ok-append.ensures.sparse (get key_cmp c.args.others.now) c.requires.sparse
