-- What numbers stand for, where they are those of a state. Numbers above a range are taken modulo it.
use Rattle.std.specs.Prelude.{ℕ, ◌+◌, ◌*◌, ◌/◌, length, zero, suc, ◌%◌, ◌^◌, nat_eq, Bool, List, [], ◌∷◌, take, drop, get_or, Option, None, Some, if◌then◌else◌}
use Rattle.std.specs.Int.{from_le_bytes, w64}
use Rattle.requirement_table.specs.declared.entries.Placed.{Placed}
use Rattle.planner_policies.specs.declared.Policy.{Policy}
use Rattle.planner_policies.specs.declared.Policy.TheVariants.{Rm, Dm, Edf}
use Rattle.planner_policies.specs.declared.Fill.{Fill}
use Rattle.planner_policies.specs.declared.Fill.TheVariants.{Prefix, Skip}
use Rattle.master_core.specs.declared.saved.Saved.{Saved}

abbrev pub policy_in : ℕ → Policy
policy_in n = if nat_eq n 0 then Rm else if nat_eq n 1 then Dm else Edf

abbrev pub fill_in : ℕ → Fill
fill_in n = if nat_eq n 0 then Prefix else Skip

abbrev pub bool_in : ℕ → Bool
bool_in n = nat_eq n 1

abbrev pub end_in : ℕ → ℕ → Option ℕ
end_in has end = if nat_eq has 1 then Some end else None

-- the placed entry of ten numbers
unfoldable pub placed_in : List ℕ → Placed
placed_in ns = record {
  entry = record {
    slot = get_or ns 0 0 % 2 ^ 8;
    node = get_or ns 1 0 % 2 ^ 8;
    length = get_or ns 2 0 % 2 ^ 8;
    phase = get_or ns 3 0 % 2 ^ 16;
    period = get_or ns 4 0 % 2 ^ 16;
    deadline = get_or ns 5 0 % 2 ^ 16;
    priority = get_or ns 6 0 % 2 ^ 8;
  };
  origin = get_or ns 7 0;
  end = end_in (get_or ns 8 0) (get_or ns 9 0);
}

-- so many entries
abbrev pub places_in : ℕ → List ℕ → List Placed
places_in zero ns = []
places_in (suc n) ns = placed_in (take 10 ns) ∷ places_in n (drop 10 ns)

-- the state of at least 13 numbers
unfoldable pub state_in : List ℕ → Saved
state_in ns = record {
  rules = record {
    nodes = get_or ns 1 0 % 2 ^ 8;
    slots = get_or ns 2 0 % 2 ^ 8;
    policy = policy_in (get_or ns 3 0);
    fill = fill_in (get_or ns 4 0);
    window = get_or ns 5 0 % 2 ^ 32;
    horizon = get_or ns 6 0;
  };
  placed = places_in (length (drop 13 ns) / 10) (drop 13 ns);
  state = record { cycle = get_or ns 7 0; pending = get_or ns 9 0 % 2 ^ 32 * 2 ^ 64 + get_or ns 8 0 };
  accepted = get_or ns 10 0;
  forgets = bool_in (get_or ns 11 0);
  learns = bool_in (get_or ns 12 0);
}

-- so many numbers of eight bytes each
abbrev pub numbers_in : ℕ → List ℕ → List ℕ
numbers_in zero bytes = []
numbers_in (suc n) bytes = from_le_bytes w64 (take 8 bytes) ∷ numbers_in n (drop 8 bytes)
