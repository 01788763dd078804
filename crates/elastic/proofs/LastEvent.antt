-- What holds of each event after those before it holds of the last one.
use Rattle.std.proofs.Common.{◌++◌, ◌∷◌, [], List, append_assoc}
use Rattle.std.proofs.lemmas.List.{append-nil}
use Rattle.master_core.specs.declared.event.Event.{Event}
use Rattle.master_core.specs.History.{AllAfter}

pub last_holds : (holds : List Event → Event → Type 0) (before history : List Event) (event : Event) → AllAfter holds before (history ++ event ∷ []) → holds (before ++ history) event
last_holds holds before [] event all = rw (append-nil before) all.0
last_holds holds before (first ∷ history) event all =
    rw append_assoc at (last_holds holds (before ++ first ∷ []) history event all.1)
