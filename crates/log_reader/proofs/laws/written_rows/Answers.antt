use Rattle.std.proofs.Common.{refl}
use Rattle.log_reader.specs.Row.{text_of_rows}
use Rattle.log_reader.proofs.RowLines.{records-text}
use Rattle.log_reader.proofs.laws.written_rows.Goals as goal

pub returns : goal.returns
returns c = record { back = λ rows legal. (legal, records-text (text_of_rows rows) rows legal refl) }
