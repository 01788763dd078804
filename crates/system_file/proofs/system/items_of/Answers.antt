use Rattle.std.proofs.Common.{◌∙◌, ap, map}
use Rattle.toml.specs.View.{view}
use Rattle.system_file.proofs.SystemElements.{elements_of_found}
use Rattle.system_file.proofs.system.items_of.Goals as goal

pub returns-in-Some : goal.returns-in-Some
returns-in-Some c = record
    { items = ap (map view) c.as_slice.ensures.value ∙ elements_of_found (view c.args.value.now) _ _ c.as_array.ensures c.in-Some.is }
