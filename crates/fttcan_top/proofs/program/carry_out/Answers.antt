use Rattle.fttcan_top.proofs.program.carry_out.Goals as goal

pub returns-then-is_streamed-clause-carried : goal.returns-then-is_streamed-clause-carried
returns-then-is_streamed-clause-carried g c =
    c.as_answer.ensures.carried c.args.task _ _ _ _ c.write_streamed.ensures.tells c.write_streamed.ensures.cut
    c.write_streamed.ensures.failed

pub returns-else-is_streamed-clause-carried : goal.returns-else-is_streamed-clause-carried
returns-else-is_streamed-clause-carried g c = c.put_answer.ensures.carried c.args.task c.answer_of.ensures.output
