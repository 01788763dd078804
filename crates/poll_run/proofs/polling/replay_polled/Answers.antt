use Rattle.std.proofs.Common.{rules}
use Rattle.replay_run.specs.Whole.{IsLogOf}
use Rattle.replay_run.specs.Written.{Took, TookFront}
use Rattle.replay_run.proofs.Shared.{cut-as, heard-as}
use Rattle.poll_run.specs.Whole.{IsPollLog, IsPolledRunBegun, IsRunWithFates}
use Rattle.poll_run.proofs.Puttings.{cut-end, cut-in_log, written-end}
use Rattle.poll_run.proofs.polling.replay_polled.Goals as goal

pub returns-in_err-polled-clause-cut : goal.returns-in_err-polled-clause-cut
returns-in_err-polled-clause-cut g c =
    let told = g.O.Sink.told_bytes in
    let system = c.args.system.now in
    let steps = c.args.steps.now in
    let streams = c.args.streams.items in
    let why = c.in_err-polled.field-0.0 in
    let all = cut-in_log system steps streams (told c.args.out.now) _ why
    (cut-as _ _ Took TookFront (λ sink. told sink.out.now) (λ one rows other is. is.1.puts) (λ one rows other is. is.1.puts)
    (IsPolledRunBegun system steps streams) (IsLogOf (IsRunWithFates system steps streams)) _ c.log_polled.new.listener why c.in_err-polled.ensures.cut) in
    search (rules, all)

pub returns-clause-written : goal.returns-clause-written
returns-clause-written g c =
    let told = g.O.Sink.told_bytes in
    let system = c.args.system.now in
    let steps = c.args.steps.now in
    let streams = c.args.streams.items in
    let polled = c.in_ok-polled.polled in
    let all = c.put_end.ensures.all in
    written-end system steps streams (told c.args.out.now) polled c.put_end.result _ _
    (heard-as _ Took (λ sink. told sink.out.now) (λ one rows other is. is.1.puts)
    (IsPollLog system steps streams polled) _ c.log_polled.new.listener c.in_ok-polled.ensures.heard) (search (rules, all)) c.put_end.ensures.quiet

pub returns-clause-cut : goal.returns-clause-cut
returns-clause-cut g c =
    let told = g.O.Sink.told_bytes in
    let system = c.args.system.now in
    let steps = c.args.steps.now in
    let streams = c.args.streams.items in
    let polled = c.in_ok-polled.polled in
    let prefix = c.put_end.ensures.prefix in
    cut-end system steps streams (told c.args.out.now) polled c.put_end.result _ _
    (heard-as _ Took (λ sink. told sink.out.now) (λ one rows other is. is.1.puts)
    (IsPollLog system steps streams polled) _ c.log_polled.new.listener c.in_ok-polled.ensures.heard) (search (rules, prefix)) c.put_end.ensures.write
