-- The rule by which nodes offer requests keeps the guard.
use Rattle.std.proofs.Common.{ℕ, ◌+◌, ◌≤◌, List, length, subst, sym, arith}
use Rattle.stuff_bound.specs.Stuffing.{worst}
use Rattle.cycle_layout.specs.Layout.{CycleLayout}
use Rattle.async_window.specs.declared.request.Request.{Request}
use Rattle.cycle_engine.specs.Offered.{AreAsynchronous}
use Rattle.cycle_engine.proofs.Shared.{is_asynchronous}
use Rattle.disturbed_runs.specs.Offered.{AreGuarded, AreGuardedBy, AreOfRequests, Asks, Late, first_from}

pub keep-guard : (reserve guard : ℕ) (late : Late) (layout : CycleLayout) (requests : List Request) (asks : Asks) → AreAsynchronous requests
    → AreOfRequests (reserve + guard) layout requests asks → AreGuarded reserve late layout asks
keep-guard reserve guard late layout requests asks all are opening past at frame asked =
    let is = are opening past at frame asked in
    let id = is_asynchronous requests past frame.identifier is.request all is.may_start.waiting.first in
    record {
      identifier = subst (λ f. 0x200 ≤ f.identifier) (sym is.its_frame) id;
      opened = is.may_start.allowed.opened;
      within = omega (arith, is.may_start.allowed.whole);
      whole = subst (λ f. at + worst (length f.bytes) ≤ first_from reserve late layout opening) (sym is.its_frame) (omega (arith, is.may_start.allowed.whole));
    }

pub keep-free : (reserve guard : ℕ) (late : Late) (layout : CycleLayout) (requests : List Request) (asks : Asks)
    → AreOfRequests (reserve + guard) layout requests asks → AreGuardedBy guard reserve late layout asks
keep-free reserve guard late layout requests asks are opening past at frame asked =
    let is = are opening past at frame asked in
    subst (λ f. at + worst (length f.bytes) + guard ≤ first_from reserve late layout opening) (sym is.its_frame) (omega (arith, is.may_start.allowed.whole))
