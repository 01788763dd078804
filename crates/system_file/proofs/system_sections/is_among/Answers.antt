use Rattle.std.proofs.Common.{◌∙◌, List, ℕ, Bor, sym, rules, tests}
use Rattle.std.proofs.lemmas.Iterator.{YieldsList-from_slice}
use Rattle.std.proofs.lemmas.Iterator.Search.{any_from_yields_List}
use Rattle.std.specs.Str.{bytes_eq}
use Rattle.system_file.proofs.SystemKeys.{list_any-map}
use Rattle.system_file.proofs.system_sections.is_among.Goals as goal

pub returns : goal.returns
returns c = record {
  among =
      any_from_yields_List (λ (known : Bor (List ℕ)). bytes_eq c.args.key.now known.now) _ _ c.any.result c.any.ensures.ran (YieldsList-from_slice c.args.keys.now cc) (λ x b q k. search (rules, tests))
      ∙ sym (list_any-map (bytes_eq c.args.key.now) (λ (known : Bor (List ℕ)). known.now) c.args.keys.now);
}
