use Rattle.std.proofs.Common.{◌∙◌, sym, rules, tests, nat_eq}
use Rattle.std.proofs.lemmas.Iterator.{YieldsList-from_slice}
use Rattle.std.proofs.lemmas.Iterator.Search.{any_from_yields_List}
use Rattle.async_window.specs.declared.request.Owner.{Owner}
use Rattle.system_file.proofs.SystemKeys.{list_any-map}
use Rattle.system_file.specs.SystemParts.{id_of_owner}
use Rattle.system_file.proofs.system.has_owner.Goals as goal

pub returns : goal.returns
returns c = record {
  among =
      any_from_yields_List (λ (owner : Owner). nat_eq c.args.id owner.id) _ _ c.any.result c.any.ensures.ran (YieldsList-from_slice c.args.owners.now cc) (λ x b q k. search (rules, tests))
      ∙ sym (list_any-map (nat_eq c.args.id) id_of_owner c.args.owners.now);
}
