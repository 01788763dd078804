use Rattle.std.proofs.Common.{◌∙◌, ap, bytes_eq, codes, false}
use Rattle.std.specs.Option.{option_map_or}
use Rattle.std.specs.Str.Parse.{ParsesBool}
use Rattle.clap.specs.Words.{found_of, one_text}
use Rattle.clap.proofs.WalkLemmas.{one_text-rows}
use Rattle.command_words.proofs.WordLemmas.{read_flag}
use Rattle.command_words.proofs.words.is_set.Goals as goal

pub returns : goal.returns
returns c =
    let found = found_of c.args.matches.now in
    record {
      set = c.unwrap_or.ensures
          ∙ read_flag (λ t x. ParsesBool t x) (one_text found c.args.id.now) c.get_one.result (λ t x is. is) c.get_one.ensures.none c.get_one.ensures.value
          ∙ ap (λ text. option_map_or (λ t. bytes_eq t (codes "true")) text false) (one_text-rows found c.args.id.now);
    }
