use Rattle.std.proofs.Common.{◌≡◌, ◌∙◌, ap, subst, sym}
use Rattle.clap.specs.Words.{found_of, is_simple_and_free, rows_of}
use Rattle.command_words.specs.Words.{IsOfRow, command_meant, verb_app}
use Rattle.command_words.specs.WordsRead.{command_read}
use Rattle.command_words.proofs.WordLemmas.{asked_for, meant-verb, refused}
use Rattle.command_words.proofs.words.command_named.Goals as goal

pub parsed-requires : goal.parsed-requires
parsed-requires c = record { simple = ap is_simple_and_free c.in_ok-command.ensures.app ∙ c.requires.simple }

pub returns : goal.returns
returns c =
    let matches = c.in_ok-matches.ensures in
    let verb = c.args.verb in
    let rows = rows_of (found_of c.in_ok-matches.matches) in
    let command = c.in_ok-command-2.command in
    let meant = c.in_ok-command-2.ensures.command in
    let same : command.verb ≡ verb = ap (λ it. it.verb) meant ∙ meant-verb verb rows in
    record {
      ok = asked_for (verb_app verb) (command_meant verb) _ _ _ _ c.in_ok-command.ensures.app matches.taken matches.rows
          meant;
      row = subst (λ it. IsOfRow it (command_read command)) (sym same) (rows, meant);
      verb = same;
      stop = tt;
    }

pub returns-in_err-matches-clause-stop : goal.returns-in_err-matches-clause-stop
returns-in_err-matches-clause-stop c =
    refused (verb_app c.args.verb) (command_meant c.args.verb) _ _ _ _ c.in_ok-command.ensures.app
    c.from_residual-in_err-matches.ensures.1 c.in_err-matches.ensures.stop
