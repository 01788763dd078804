-- The input that a number makes has each number in its range.
use Rattle.std.proofs.Common.{inl, ◌≡◌, ◌∙◌, ap, refl, ℕ, zero, suc, ◌+◌, ◌*◌, ◌%◌, ◌<◌, ◌≤◌, List, [], ◌∷◌, ◌++◌, All, AllPairs, arith, length, length-append, sum_by, true, nat_eq, lit≤, rules, subst, ◌-◌}
use Rattle.std.specs.List.{list_any}
use Rattle.std.proofs.lemmas.Nat.{mod_below}
use Rattle.std.proofs.lemmas.List.Elements.{All-from_recursion, All-nil, All-push}
use Rattle.std.proofs.lemmas.List.Folds.{list_any_at}
use Rattle.std.proofs.lemmas.List.Sums.{count_by-le-length, sum_by-le, sum_by_push}
use Rattle.can_frame.specs.DataFrame.{IsFrame}
use Rattle.async_window.specs.Owners.{AreOwners}
use Rattle.generated_input.specs.Generator.{arrival_made, byte_made, bytes_made, change_made, draw, draws_before, each_below, entry_made, identifier_made, owner_made, period_of, request_made, requests_made, size_made, steps_made, system_made}
use Rattle.requests_file.specs.RequestRow.{IsRequest}
use Rattle.requests_file.specs.RequestsFile.{AreLegal}
use Rattle.steps_file.specs.StepsFile.{AreLegalSteps, FitsEntry, FitsOperation, IsStep, count_of, is_change, is_look}
use Rattle.system_file.specs.SystemFile.{IsSystem}
use Rattle.steps_file.specs.declared.steps.Step.{Step}
use Rattle.steps_file.specs.declared.steps.Step.TheVariants.{Cycle}
use Rattle.generated_input.proofs.GeneratorDraws.{get_or-each_below, length-each_below}
use Rattle.generated_input.proofs.GeneratorRequests.{gap_at, gaps_more}

-- what holds of each of the items that are made
all_made : {Item : Type 0} (P : Item → Type 0) (n : ℕ) (f : ℕ → Item) → ((place : ℕ) → place < n → P (f place)) → All P (each_below n f)
all_made P n f each place d inside =
    let below : place < n = omega (arith, inside, length-each_below n f) in
    rw (get_or-each_below n f place d below) (each place below)

pairs_made : {Item : Type 0} (R : Item → Item → Type 0) (n : ℕ) (f : ℕ → Item) → ((one other : ℕ) → one < other → other < n → R (f one) (f other)) → AllPairs R (each_below n f)
pairs_made R n f each one other d before inside =
    let below : other < n = omega (arith, inside, length-each_below n f) in
    rw (get_or-each_below n f one d (omega (arith, before, below)), get_or-each_below n f other d below) (each one other before below)

-- the system

are_owners : AreOwners (each_below 32 owner_made)
are_owners =
    record {
      distinct = pairs_made (λ one other. one.id ≡ other.id → ⊥) 32 owner_made (λ one other before inside same. omega (arith, before, same));
      least = all_made (λ owner. 0x200 ≤ owner.id) 32 owner_made (λ place inside. omega arith);
      greatest = all_made (λ owner. owner.id ≤ 2031) 32 owner_made (λ place inside. omega (arith, inside));
    }

pub system_is : (number : ℕ) → IsSystem (system_made number)
unfolding system_made
system_is number =
    record {
      layout = record {
        cycle_range = record { above = lit≤ tt; below = lit≤ tt };
        turnaround_range = record { above = lit≤ tt; below = lit≤ tt };
        window_range = record { above = lit≤ tt; below = lit≤ tt };
        slots_range = inl refl;
        room = lit≤ tt;
      };
      same_window = refl;
      same_slots = refl;
      some_nodes = lit≤ tt;
      few_nodes = lit≤ tt;
      some_horizon = lit≤ tt;
      near_horizon = lit≤ tt;
      are_owners = are_owners;
      known_nodes = all_made (λ owner. owner.node < 8) 32 owner_made (λ place inside. mod_below place 8 (lit≤ tt));
    }

-- the steps

period_in_range : (drawn : ℕ) → (2 ≤ period_of drawn) × (period_of drawn ≤ 12)
period_in_range drawn =
    All-from_recursion (λ period. (2 ≤ period) × (period ≤ 12)) (2 ∷ 3 ∷ 4 ∷ 5 ∷ 6 ∷ 8 ∷ 10 ∷ 12 ∷ [])
    ((lit≤ tt, lit≤ tt), ((lit≤ tt, lit≤ tt), ((lit≤ tt, lit≤ tt), ((lit≤ tt, lit≤ tt), ((lit≤ tt, lit≤ tt), ((lit≤ tt, lit≤ tt), ((lit≤ tt, lit≤ tt), ((lit≤ tt, lit≤ tt), tt))))))))
    (drawn % 8) 0 (mod_below drawn 8 (lit≤ tt))

entry_fits : (number before slot : ℕ) → slot < 256 → FitsEntry (entry_made number before slot)
unfolding entry_made
entry_fits number before slot inside =
    let period = period_in_range (draw number (before + 4)) in
    let late : draw number (before + 5) % period_of (draw number (before + 4)) < period_of (draw number (before + 4)) = mod_below _ _ (omega (arith, period.0)) in
    record {
      slot = inside;
      node = omega (arith, mod_below (draw number (before + 1)) 8 (lit≤ tt));
      length = omega (arith, mod_below (draw number (before + 2)) 9 (lit≤ tt));
      phase = omega (arith, mod_below (draw number (before + 3)) 8 (lit≤ tt));
      period = omega (arith, period.1);
      deadline = omega (arith, period.1, late);
      priority = omega (arith, mod_below (draw number (before + 6)) 4 (lit≤ tt));
    }

change_fits : (number slot : ℕ) → slot < 40 → IsStep (change_made number slot)
change_fits number slot inside = (
  lit≤ tt,
  lit≤ tt,
  record {
    early = lit≤ tt;
    some = lit≤ tt;
    each = All-push FitsOperation [] _ (All-nil FitsOperation) (entry_fits number (6 * slot) slot (omega (arith, inside)));
  },
)

few_steps : (number : ℕ) → length (each_below 40 (change_made number) ++ Cycle 5000 ∷ []) ≡ 41
few_steps number = length-append (each_below 40 (change_made number)) (Cycle 5000 ∷ []) ∙ ap (λ n. n + 1) (length-each_below 40 (change_made number))

pub steps_are : (number : ℕ) → AreLegalSteps (steps_made number)
unfolding steps_made
steps_are number =
    let changes : List Step = each_below 40 (change_made number) in
    let none : sum_by count_of changes ≤ length changes * 0 = sum_by-le count_of 0 changes (all_made (λ step. count_of step ≤ 0) 40 (change_made number) (λ slot inside. lit≤ tt)) in
    record {
      each = All-push IsStep changes (Cycle 5000) (all_made IsStep 40 (change_made number) (change_fits number)) (lit≤ tt);
      changes = omega (arith, few_steps number, count_by-le-length is_change (changes ++ Cycle 5000 ∷ []));
      looks = omega (arith, few_steps number, count_by-le-length is_look (changes ++ Cycle 5000 ∷ []));
      cycles = omega (arith, none, sum_by_push count_of changes (Cycle 5000));
    }

-- the requests

gaps_in_range : (number count : ℕ) → sum_by (λ gap. gap) (each_below count (gap_at number)) ≤ 1000 * count
gaps_in_range number count =
    let each : All (λ gap. gap ≤ 1000) (each_below count (gap_at number)) = all_made (λ gap. gap ≤ 1000) count (gap_at number) (λ place inside. omega (arith, mod_below (draw number (draws_before number place + 1)) 1000 (lit≤ tt))) in
    omega (arith, sum_by-le (λ gap. gap) 1000 (each_below count (gap_at number)) each, length-each_below count (gap_at number))

gaps_rise : (number count more : ℕ) → sum_by (λ gap. gap) (each_below count (gap_at number)) ≤ sum_by (λ gap. gap) (each_below (count + more) (gap_at number))
gaps_rise number count zero = let same : count + 0 ≡ count = omega arith in rw same (omega arith)
gaps_rise number count (suc more) =
    let back : count + suc more ≡ count + more + 1 = omega arith in
    rw back (omega (arith, gaps_rise number count more, gaps_more number (count + more)))

is_owned_identifier : (number before : ℕ) → list_any (λ owner. nat_eq owner.id (identifier_made number before)) (each_below 32 owner_made) ≡ true
is_owned_identifier number before =
    let place : ℕ = draw number (before + 2) % 32 in
    let inside : place < 32 = mod_below (draw number (before + 2)) 32 (lit≤ tt) in
    list_any_at (λ owner. nat_eq owner.id (0x200 + place)) (each_below 32 owner_made) place (owner_made place) (omega (arith, inside, length-each_below 32 owner_made))
    (rw (get_or-each_below 32 owner_made place (owner_made place) inside) (search rules))

frame_is : (number before : ℕ) → IsFrame (record { identifier = identifier_made number before; bytes = bytes_made number before })
unfolding bytes_made
frame_is number before =
    record {
      identifier = omega (arith, mod_below (draw number (before + 2)) 32 (lit≤ tt));
      few = omega (arith, mod_below (draw number (before + 3)) 9 (lit≤ tt), length-each_below (size_made number before) (byte_made number before));
      bytes = all_made (λ byte. byte < 256) (size_made number before) (byte_made number before) (λ place inside. mod_below _ 256 (lit≤ tt));
    }

request_is : (number place : ℕ) → place < 20000 → IsRequest (each_below 32 owner_made) (request_made number place)
unfolding request_made arrival_made
request_is number place inside =
    record {
      early = omega (arith, inside, gaps_in_range number (place + 1));
      asynchronous = omega arith;
      legal = frame_is number (draws_before number place);
      owned = is_owned_identifier number (draws_before number place);
    }

in_their_order : (number one other : ℕ) → one < other → (request_made number one).at ≤ (request_made number other).at
unfolding request_made arrival_made
in_their_order number one other before =
    let more : ℕ = other - (one + 1) in
    let sum : one + 1 + (more + 1) ≡ other + 1 = omega (arith, before) in
    subst (λ count. sum_by (λ gap. gap) (each_below (one + 1) (gap_at number)) ≤ sum_by (λ gap. gap) (each_below count (gap_at number))) sum (gaps_rise number (one + 1) (more + 1))

pub requests_are_legal : (number : ℕ) → AreLegal (each_below 32 owner_made) (requests_made number)
unfolding requests_made
requests_are_legal number =
    record {
      each = all_made (IsRequest (each_below 32 owner_made)) 20000 (request_made number) (request_is number);
      in_order = pairs_made (λ earlier later. earlier.at ≤ later.at) 20000 (request_made number) (λ one other before inside. in_their_order number one other before);
      few = omega (arith, length-each_below 20000 (request_made number));
    }
