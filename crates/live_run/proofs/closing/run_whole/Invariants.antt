use Rattle.live_run.proofs.closing.run_whole.Given as goal

abbrev pub ghost-run_live : goal.ghost-run_live
ghost-run_live g a = g.setting
