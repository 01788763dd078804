use Rattle.system_file.proofs.SystemFirst.{read_described}
use Rattle.toml.specs.View.{table_view}
use Rattle.system_file.proofs.system.read_system.Goals as goal

pub returns-clause-ok : goal.returns-clause-ok
returns-clause-ok c =
    read_described c.args.bytes.now (table_view c.in_ok-document.document) c.read_tables.result c.in_ok-document.ensures.ok
    c.read_tables.ensures.ok c.read_tables.ensures.system
