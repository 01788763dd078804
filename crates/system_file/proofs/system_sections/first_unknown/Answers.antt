use Rattle.std.proofs.Common.{◌∙◌, not, List, ℕ, Bor, String, Global, Option, map, option_map, string_bytes, ap, rules, tests}
use Rattle.std.proofs.lemmas.Iterator.Consumers.{YieldsList-from_rest}
use Rattle.std.proofs.lemmas.Iterator.Search.{find_from_yields_List}
use Rattle.system_file.specs.SystemFile.{is_among}
use Rattle.system_file.proofs.SystemKeys.{first_of_keys, map-twice}
use Rattle.system_file.proofs.system_sections.first_unknown.Goals as goal

pub returns : goal.returns
returns c =
    let known = map (λ (k : Bor (List ℕ)). k.now) c.args.known.now in
    let found = find_from_yields_List (λ (key : String Global). not (is_among known (string_bytes key))) _ _ c.find.result c.find.ensures.ran (YieldsList-from_rest _ cc) (λ x b q k. search (rules, tests)) in
    record {
      key = map-twice (λ (k : Bor (String Global)). k.now) string_bytes c.find.result
          ∙ ap (λ (k : Option (String Global)). option_map string_bytes k) found
          ∙ first_of_keys known c.args.table.now.entries c.keys.ensures.ordered;
    }
