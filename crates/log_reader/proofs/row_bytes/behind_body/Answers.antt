use Rattle.std.proofs.Common.{sym, subst}
use Rattle.log_reader.specs.RowBytes.{BeginsWithBody}
use Rattle.log_reader.proofs.FieldBytes.{body-full}
use Rattle.log_reader.proofs.row_bytes.behind_body.Goals as goal

pub returns-then-are_full : goal.returns-then-are_full
returns-then-are_full c =
    let yes = c.if-are_full.true in
    let is = c.are_full.ensures in
    record {
      body = subst (BeginsWithBody c.args.bytes.now) (sym c.bytes_from.ensures.rest)
          (body-full c.args.bytes.now (is.enough yes) (is.first yes) (is.digits yes) (is.comma yes) (is.least yes) (is.most yes)
          (is.later yes) (is.second yes) (is.content yes) (is.feed yes));
    }
