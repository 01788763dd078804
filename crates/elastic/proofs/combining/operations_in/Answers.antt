-- What is left behind an operation, and the operation that it becomes.
use Rattle.std.proofs.Common.{◌≡◌, ◌+◌, ◌<◌, ◌/◌, ◌++◌, ◌∷◌, [], true, length, drop, sym, ap, ◌∙◌, rules, append_assoc}
use Rattle.std.specs.Result.{is_ok}
use Rattle.elastic.specs.Combination.{choices, combinations, operation_in, operations_in}
use Rattle.elastic.proofs.Products.{drop_item, some_other, without_factor}
use Rattle.elastic.proofs.combining.operations_in.Goals as goal

pub loop-op-preserved : goal.loop-op-preserved
loop-op-preserved c =
    let so_far = c.loop-op.invariant in
    let op = c.op-item.result in
    let all = c.args.ops.now in
    let number = c.args.number in
    let inside : c.loop-op.op-index < length all = search rules in
    let split : drop c.loop-op.op-index all ≡ op ∷ drop (c.loop-op.op-index + 1) all = drop_item all c.loop-op.op-index op inside c.op-item.is in
    let behind = drop (c.loop-op.op-index + 1) all in
    let product = so_far.behind ∙ ap combinations split in
    let left : c.loop-op.behind / choices op ≡ combinations behind = without_factor (choices op) (combinations behind) c.loop-op.behind product so_far.some in
    let good : is_ok c.push.result ≡ true = search rules in
    let items = rw good at c.push.ensures.items in
    let becomes : c.operation_in.result ≡ operation_in number (combinations behind) op
    = c.operation_in.ensures.value ∙ ap (λ n. operation_in number n op) (rw c.choices-behind.ensures.value left) in
    record {
      behind = rw c.choices-behind.ensures.value left;
      some = rw (c.choices-behind.ensures.value, left) (some_other (choices op) (combinations behind) (rw product at so_far.some));
      taken = ap (λ xs. xs ++ operations_in number behind) (items ∙ ap (λ x. c.loop-op.taken.items ++ x ∷ []) becomes)
          ∙ append_assoc c.loop-op.taken.items (operation_in number (combinations behind) op ∷ []) (operations_in number behind)
          ∙ ap (λ xs. c.loop-op.taken.items ++ operations_in number xs) (sym split) ∙ so_far.taken;
    }
