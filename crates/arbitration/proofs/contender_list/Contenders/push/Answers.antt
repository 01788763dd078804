use Rattle.std.proofs.Common.{◌≢◌, ◌∙◌, ◌<◌, ℕ, ◌∷◌, [], ◌++◌, List, Contains, arith}
use Rattle.std.proofs.lemmas.Grind.{common_steps}
use Rattle.std.proofs.lemmas.List.{take_more_set, get_or_default}
use Rattle.std.proofs.lemmas.List.Quantifiers.{all_pairs_push}
use Rattle.arbitration.specs.Arbitration.{AreDistinct}
use Rattle.arbitration.proofs.contender_list.Contenders.push.Goals as goal

AreDistinct-push : (ids : List ℕ) (id : ℕ) → AreDistinct ids → (Contains ids id → ⊥) → AreDistinct (ids ++ id ∷ [])
AreDistinct-push ids id distinct other =
    all_pairs_push (λ one two. one ≢ two) ids id distinct (λ k d within same. other (k, within, get_or_default ids k id d within ∙ same))

pub invariant_of-self : goal.invariant_of-self
invariant_of-self c =
    let fields = c.self.inside in
    let room : fields.count < 32 = grind (arith, common_steps) in
    (omega arith, rw (take_more_set fields.ids fields.count c.args.id (omega arith), c.self.view_is) (AreDistinct-push c.args.self.now c.args.id (rw (← c.self.view_is) c.self.invariant.1) c.requires.other))
