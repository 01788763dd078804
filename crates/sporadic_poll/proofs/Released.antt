-- The releases of a slot in a well placed list.
use Rattle.std.proofs.Common.{◌≡◌, ℕ, Bool, true, false, if◌then◌else◌, List, Contains, Option, Some, None, option_and_then, nat_eq, refl, arith}
use Rattle.std.proofs.lemmas.Bool.{eqb-true}
use Rattle.std.proofs.lemmas.Option.{none-some, same_Some}
use Rattle.requirement_table.specs.declared.entries.Placed.{Placed}
use Rattle.requirement_table.specs.Instance.{Instance, IsReleasedIn, MaySend, release_of}
use Rattle.requirement_table.specs.Table.{IsInRange, IsWellPlaced, instance_in}
use Rattle.requirement_table.proofs.Shared.{found-in, found-of}
use Rattle.sporadic_poll.specs.Ride.{Releases, length_at, length_released}

-- an instance may be sent in the cycle of its release
sends : (p : Placed) (k cycle : ℕ) → IsInRange p → IsReleasedIn p k cycle → MaySend p k cycle
sends p k cycle range released = grind arith

pub released-complete : (placed : List Placed) (p : Placed) (k cycle : ℕ) → IsWellPlaced placed → Contains placed p → IsReleasedIn p k cycle → length_released placed p.entry.slot cycle ≡ Some p.entry.length
released-complete placed p k cycle well stands released = grind (arith, found-of, sends)

of_test : (placed : List Placed) (slot cycle entry_length : ℕ) (i : Instance) (test : Bool) → IsWellPlaced placed → instance_in placed slot cycle ≡ Some i → nat_eq (release_of i.placed i.number) cycle ≡ test
    → (if test then Some i.placed.entry.length else None) ≡ Some entry_length → Releases placed slot cycle entry_length
of_test placed slot cycle entry_length i true well found is some =
    let it = found-in placed slot cycle i well found in
    grind (arith, eqb-true, same_Some, sends)
of_test placed slot cycle entry_length i false well found is some = absurd (none-some entry_length some)

of_found : (placed : List Placed) (slot cycle entry_length : ℕ) (found : Option Instance) → IsWellPlaced placed → instance_in placed slot cycle ≡ found
    → option_and_then (length_at cycle) found ≡ Some entry_length → Releases placed slot cycle entry_length
of_found placed slot cycle entry_length found well is some = grind (arith, none-some, of_test)

pub released-sound : (placed : List Placed) (slot cycle entry_length : ℕ) → IsWellPlaced placed → length_released placed slot cycle ≡ Some entry_length → Releases placed slot cycle entry_length
released-sound placed slot cycle entry_length well some = of_found placed slot cycle entry_length (instance_in placed slot cycle) well refl some
