use Rattle.std.proofs.Common.{rules}
use Rattle.log_reader.proofs.RowLines.{reads-behind}
use Rattle.log_reader.proofs.reader.LogReader.behind.Goals as goal

pub returns : goal.returns
returns c = record {
  behind = λ rows legal is counted. record {
    legal = legal;
    reads = reads-behind c.args.bytes.now c.args.rest.now c.records_in.result rows legal is c.requires.no_mark c.records_in.ensures.reads;
    counted = counted;
    few = search rules;
  };
}
