use Rattle.std.proofs.Common.{◌≡◌, ◌++◌, All, take}
use Rattle.saved_state.specs.Bytes.{IsTypedPlaced, list_numbers}
use Rattle.saved_state.proofs.numbers.push_list.Given as goal

abbrev pub invariant-loop-p : goal.invariant-loop-p
invariant-loop-p l = record {
  put : l.numbers.items ≡ l.initial.numbers.items ++ list_numbers (take l.p-index l.placed);
  typed : All IsTypedPlaced (take l.p-index l.placed);
}
