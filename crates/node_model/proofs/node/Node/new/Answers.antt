use Rattle.std.proofs.Common.{◌≢◌, ℕ, ◌≤◌, List, All, AllPairs, sym, ◌∙◌, subst}
use Rattle.node_model.proofs.Known.{identifiers_of-all, identifiers_of-distinct}
use Rattle.node_model.proofs.node.Node.new.Goals as goal

pub new-requires-clause-distinct : goal.new-requires-clause-distinct
new-requires-clause-distinct c =
    let ids = c.as_slice.ensures.value ∙ c.in_ok-ids.ensures.identifiers in
    subst (λ (l : List ℕ). AllPairs (λ one other. one ≢ other) l) (sym ids) (identifiers_of-distinct c.args.number c.args.owners.now c.requires.owners.distinct)

pub new-requires-clause-least : goal.new-requires-clause-least
new-requires-clause-least c =
    let ids = c.as_slice.ensures.value ∙ c.in_ok-ids.ensures.identifiers in
    subst (λ (l : List ℕ). All (λ id. 0x200 ≤ id) l) (sym ids) (identifiers_of-all (λ id. 0x200 ≤ id) c.args.number c.args.owners.now c.requires.owners.least)

pub new-requires-clause-greatest : goal.new-requires-clause-greatest
new-requires-clause-greatest c =
    let ids = c.as_slice.ensures.value ∙ c.in_ok-ids.ensures.identifiers in
    subst (λ (l : List ℕ). All (λ id. id ≤ 0x7EF) l) (sym ids) (identifiers_of-all (λ id. id ≤ 0x7EF) c.args.number c.args.owners.now c.requires.owners.greatest)
