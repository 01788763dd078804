use Rattle.std.proofs.Common.{rules}
use Rattle.command_words.proofs.WordLemmas.{named_simple}
use Rattle.command_words.proofs.table.Verb.named.Goals as goal

pub returns-then-is_named-clause-simple : goal.returns-then-is_named-clause-simple
returns-then-is_named-clause-simple c = named_simple c.args.threads c.args.name.now c.in-Some.verb.now (search rules)
