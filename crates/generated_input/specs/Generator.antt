-- The generator: a stream of draws that one number sets off, and the input that they make, each list of it whole.
use Rattle.std.specs.Prelude.{ℕ, zero, suc, ◌+◌, ◌*◌, ◌/◌, ◌%◌, ◌^◌, ◌==◌}
use Rattle.std.specs.Prelude.{if◌then◌else◌, List, [], ◌∷◌, ◌++◌, map, get_or, sum_by}
use Rattle.std.specs.List.{range_with_len}
use Rattle.profile.specs.Limits.{least_asynchronous}
use Rattle.requirement_table.specs.declared.entries.Entry.{Entry}
use Rattle.change_protocol.specs.declared.operations.Op.TheVariants.{Add}
use Rattle.change_protocol.specs.declared.operations.Act.TheVariants.{Ask}
use Rattle.planner_policies.specs.declared.Fill.TheVariants.{Prefix}
use Rattle.planner_policies.specs.declared.Policy.{Policy}
use Rattle.planner_policies.specs.declared.Policy.TheVariants.{Rm, Dm, Edf}
use Rattle.async_window.specs.declared.request.Owner.{Owner}
use Rattle.async_window.specs.declared.request.Request.{Request}
use Rattle.system_file.specs.declared.system.System.{System}
use Rattle.steps_file.specs.declared.steps.Step.{Step}
use Rattle.steps_file.specs.declared.steps.Step.TheVariants as step
use Rattle.generated_input.specs.declared.generating.Generated.{Generated}

-- what f makes of each number below n, the least first
unfoldable pub each_below : {Item : Type 0} → ℕ → (ℕ → Item) → List Item
each_below n f = map f (range_with_len 0 n)

-- the draws

-- the state behind this many draws, a number of 64 bits; it starts at the number
unfoldable pub state_after : ℕ → ℕ → ℕ
state_after number zero = number
state_after number (suc count) = (state_after number count * 6364136223846793005 + 1442695040888963407) % 2 ^ 64

-- the draw of this place, the first of which is 1: the state behind it without its lowest 33 bits
unfoldable pub draw : ℕ → ℕ → ℕ
draw number place = state_after number place / 2 ^ 33

-- the system

abbrev pub policy_made : ℕ → Policy
policy_made number = if number % 3 == 0 then Rm else if number % 3 == 1 then Dm else Edf

abbrev pub owner_made : ℕ → Owner
owner_made place = record { id = least_asynchronous + place; node = place % 8 }

-- how many slots a generated system has
abbrev pub generated_slots : ℕ
generated_slots = 40

-- a cycle of 2,000 bit times, a turnaround of 10, a window of 810, 40 slots, eight nodes, and 32 owned identifiers
unfoldable pub system_made : ℕ → System
system_made number = record {
  layout = record { cycle = 2000; turnaround = 10; window = 810; slots = generated_slots };
  rules = record {
    nodes = 8;
    slots = generated_slots;
    policy = policy_made number;
    fill = Prefix;
    window = 810;
    horizon = 10000;
  };
  owners = each_below 32 owner_made;
}

-- the steps

-- the period, in cycles, that a draw picks
abbrev pub period_of : ℕ → ℕ
period_of drawn = get_or (2 ∷ 3 ∷ 4 ∷ 5 ∷ 6 ∷ 8 ∷ 10 ∷ 12 ∷ []) (drawn % 8) 0

-- the entry of a slot, by the six draws behind this many
unfoldable pub entry_made : ℕ → ℕ → ℕ → Entry
entry_made number before slot = record {
  slot = slot;
  node = draw number (before + 1) % 8;
  length = draw number (before + 2) % 9;
  phase = draw number (before + 3) % 8;
  period = period_of (draw number (before + 4));
  deadline = 1 + draw number (before + 5) % period_of (draw number (before + 4));
  priority = draw number (before + 6) % 4;
}

-- the change of a slot: operator 1 asks from the start of time on for one entry more; each slot has six draws
abbrev pub change_made : ℕ → ℕ → Step
change_made number slot = step.Act 1 (Ask (record { start = 0; ops = Add (entry_made number (6 * slot) slot) ∷ [] }))

-- a change for each of the 40 slots, and 5,000 cycles
unfoldable pub steps_made : ℕ → List Step
steps_made number = each_below generated_slots (change_made number) ++ step.Cycle 5000 ∷ []

-- the requests: what a request takes of the draws behind this many

-- the bit times from the arrival of the request before
abbrev pub gap_made : ℕ → ℕ → ℕ
gap_made number before = draw number (before + 1) % 1000

abbrev pub identifier_made : ℕ → ℕ → ℕ
identifier_made number before = least_asynchronous + draw number (before + 2) % 32

-- how many bytes it has
abbrev pub size_made : ℕ → ℕ → ℕ
size_made number before = draw number (before + 3) % 9

abbrev pub byte_made : ℕ → ℕ → ℕ → ℕ
byte_made number before place = draw number (before + 4 + place) % 256

unfoldable pub bytes_made : ℕ → ℕ → List ℕ
bytes_made number before = each_below (size_made number before) (byte_made number before)

-- how many draws stand before those of the request of this place, from 0: those of the 40 changes, and three and one
-- for each byte of each request before it
unfoldable pub draws_before : ℕ → ℕ → ℕ
draws_before number zero = 6 * generated_slots
draws_before number (suc place) = draws_before number place + 3 + size_made number (draws_before number place)

-- the arrival of the request of this place: the sum of the gaps up to it, its own included
unfoldable pub arrival_made : ℕ → ℕ → ℕ
arrival_made number place =
    sum_by (λ gap. gap) (each_below (place + 1) (λ earlier. gap_made number (draws_before number earlier)))

unfoldable pub request_made : ℕ → ℕ → Request
request_made number place = record {
  at = arrival_made number place;
  frame = record {
    identifier = identifier_made number (draws_before number place);
    bytes = bytes_made number (draws_before number place);
  };
}

unfoldable pub requests_made : ℕ → List Request
requests_made number = each_below 20000 (request_made number)

-- the input that a number makes
abbrev pub generated : ℕ → Generated
generated number = record { system = system_made number; steps = steps_made number; requests = requests_made number }
