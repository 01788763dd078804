-- What the instance of a slot takes that is released in a cycle, by the instance that may be sent in it.
use Rattle.std.proofs.Common.{◌≡◌, ◌≢◌, ℕ, ◌+◌, ◌*◌, if◌then◌else◌, List, Option, Some, None, IfSome, option_map, option_and_then, nat_eq, refl, sym, ap, ◌∙◌}
use Rattle.std.proofs.lemmas.Bool.{ne_eqb}
use Rattle.requirement_table.specs.declared.entries.Placed.{Placed}
use Rattle.requirement_table.specs.Instance.{Instance}
use Rattle.requirement_table.specs.Table.{instance_in}
use Rattle.sporadic_poll.specs.declared.current.Current.{Current}
use Rattle.sporadic_poll.specs.declared.stream.Stream.{Stream}
use Rattle.sporadic_poll.specs.Current.{current_of}
use Rattle.sporadic_poll.specs.Ride.{IsRide, length_at, length_released}
use Rattle.sporadic_poll.specs.Waiting.{HasTaken, taken_at, taken_from}
use Rattle.sporadic_poll.proofs.Taken.{from_shape, still_taken, takes_at}

-- the length that is released, by what is found
length_by : (found : Option Instance) (cycle : ℕ) (current : Option Current) → current ≡ option_map current_of found
    → option_and_then (length_at cycle) found ≡ option_and_then (λ it. if nat_eq it.release cycle then Some it.length else None) current
length_by None cycle current is = rw is refl
length_by (Some i) cycle current is = rw is refl

pub length_current : (placed : List Placed) (slot cycle : ℕ) (current : Option Current) → current ≡ option_map current_of (instance_in placed slot cycle)
    → length_released placed slot cycle ≡ option_and_then (λ it. if nat_eq it.release cycle then Some it.length else None) current
length_current placed slot cycle current is = length_by (instance_in placed slot cycle) cycle current is

pub length_other : (placed : List Placed) (slot cycle : ℕ) (current : Current) → Some current ≡ option_map current_of (instance_in placed slot cycle) → current.release ≢ cycle
    → length_released placed slot cycle ≡ None
length_other placed slot cycle current is other = length_current placed slot cycle (Some current) is ∙ (rw (ne_eqb current.release cycle other) refl)

pub none_taken_at : (layout_cycle : ℕ) (streams : List Stream) (slot : ℕ) (lengths carried : ℕ → Option ℕ) (cycle next : ℕ) → IsRide layout_cycle streams slot lengths carried
    → HasTaken streams slot carried cycle next → taken_at layout_cycle streams lengths cycle next ≡ None
    → (carried cycle ≡ None) × HasTaken streams slot carried (cycle + 1) next
none_taken_at layout_cycle streams slot lengths carried cycle next ride taken none =
    let it : carried cycle ≡ None = takes_at streams slot carried layout_cycle lengths ride cycle next taken ∙ none in
    (it, still_taken streams slot carried cycle next taken it)

pub none_arrived : (layout_cycle : ℕ) (streams : List Stream) (lengths : ℕ → Option ℕ) (time cycle next : ℕ) → time ≡ cycle * layout_cycle
    → ((entry_length : ℕ) → taken_from streams time entry_length next ≡ None) → taken_at layout_cycle streams lengths cycle next ≡ None
none_arrived layout_cycle streams lengths time cycle next at none = by_length (lengths cycle)
  where
    by_length : (released : Option ℕ) → option_and_then (λ entry_length. taken_from streams (cycle * layout_cycle) entry_length next) released ≡ None
    by_length None = refl
    by_length (Some entry_length) = ap (λ t. taken_from streams t entry_length next) (sym at) ∙ none entry_length

pub none_released : (layout_cycle : ℕ) (streams : List Stream) (lengths : ℕ → Option ℕ) (cycle next : ℕ) → lengths cycle ≡ None → taken_at layout_cycle streams lengths cycle next ≡ None
none_released layout_cycle streams lengths cycle next none = rw none refl

-- what is taken is the next request
pub next_of : (streams : List Stream) (time entry_length next : ℕ) (taken : Option ℕ) → taken ≡ taken_from streams time entry_length next → IfSome taken (λ place. place ≡ next)
next_of streams time entry_length next None is = tt
next_of streams time entry_length next (Some place) is = (from_shape streams time entry_length next place (sym is)).same

-- where no instance may be sent in the cycle, none is released
pub none_current : (placed : List Placed) (slot cycle : ℕ) → None ≡ option_map current_of (instance_in placed slot cycle) → length_released placed slot cycle ≡ None
none_current placed slot cycle is = length_current placed slot cycle None is
