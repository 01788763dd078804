use Rattle.std.proofs.Common.{◌≡◌, ◌++◌, map, take}
use Rattle.live_master.specs.Passes.{IsPassOf}
use Rattle.master_core.specs.Calls.{asked, call_of}
use Rattle.live_run.proofs.operating.operate.Given as goal

abbrev pub invariant-loop-act : goal.invariant-loop-act
invariant-loop-act g l = record {
  answered : map call_of l.pass.view.mine ≡ map call_of l.initial.pass.view.mine ++ map (asked l.initial.pass.view.number) (take l.act-index l.acts);
  number : l.pass.view.number ≡ l.initial.pass.view.number;
  standing : IsPassOf l.shared l.pass;
}
