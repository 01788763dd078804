use Rattle.std.proofs.Common.{◌≡◌, Bool, true, false, if◌then◌else◌, Some, None, sym, ap, refl}
use Rattle.std.specs.Prelude.{IsSome}
use Rattle.can_frame.specs.DataFrame.{DataFrame}
use Rattle.node_model.specs.Window.{due_frame, is_due_slot}
use Rattle.cycle_engine.proofs.sync_window.due_frame.Goals as goal

is-chosen : (b : Bool) (frame : DataFrame) → IsSome (if b then Some frame else None) → b ≡ true
is-chosen true frame some = refl
is-chosen false frame some = absurd (cc)

pub due_frame-requires-clause-due : goal.due_frame-requires-clause-due
due_frame-requires-clause-due c =
    let node = c.args.node.now.state in
    is-chosen (is_due_slot node c.args.slot) (due_frame node c.args.slot) c.requires.due

pub returns : goal.returns
returns c =
    let node = c.args.node.now.state in
    let due : is_due_slot node c.args.slot ≡ true = is-chosen (is_due_slot node c.args.slot) (due_frame node c.args.slot) c.requires.due in
    record { frame = rw due (ap Some (sym c.due_frame.ensures.frame)) }
