-- A block that repeats: the slots do the same in as many cycles right after it.
use Rattle.std.proofs.Common.{◌≡◌, ℕ, ◌+◌, ◌-◌, ◌%◌, ◌≤◌, ◌&&◌, true, nat_eq, nat_le, Option, IsSome, option_map, List, All, get_or, sym, ap, ◌∙◌, arith}
use Rattle.std.specs.Option.{option_map_or}
use Rattle.std.proofs.lemmas.Bool.{and_from, and_parts, le-leb, leb-true}
use Rattle.requirement_table.specs.declared.entries.Placed.{Placed}
use Rattle.requirement_table.specs.Table.{IsWellPlaced, instance_in, is_last_in, releases_in, worst_in}
use Rattle.requirement_table.proofs.Shared.{GoesRound, instance-again, later, same-again}
use Rattle.plan_check.specs.declared.blocks.Block.{Block}
use Rattle.plan_check.specs.Blocks.{IsFilled}
use Rattle.plan_check.specs.PlanKept.{goes_round}
use Rattle.plan_check.proofs.Rounds.{GoesRound-from_test}

round-with : (b c d : ℕ) (p : Placed) (end : Option ℕ) → b ≤ c
    → option_map_or (λ free. nat_le free b) (option_map (λ e. e + p.entry.deadline - 1) end) (nat_le (p.origin + p.entry.phase) b && nat_eq (d % p.entry.period) 0) ≡ true
    → option_map_or (λ free. nat_le free c) (option_map (λ e. e + p.entry.deadline - 1) end) (nat_le (p.origin + p.entry.phase) c && nat_eq (d % p.entry.period) 0) ≡ true
round-with b c d p end after test = grind (arith, and_parts, leb-true, and_from, le-leb)

-- an entry that goes round goes round later
round-later : (b c d : ℕ) (p : Placed) → b ≤ c → goes_round b d p ≡ true → goes_round c d p ≡ true
round-later b c d p after test = round-with b c d p p.end after test

pub rounds-later : (placed : List Placed) (b c d : ℕ) → b ≤ c → All (λ p. goes_round b d p ≡ true) placed → All (λ p. goes_round c d p ≡ true) placed
rounds-later placed b c d after rounds = λ k e within. round-later b c d (get_or placed k e) after (rounds k e within)

some-mapped : {A B : Type 0} (f : A → B) (o : Option A) → IsSome (option_map f o) → IsSome o
some-mapped f o some = grind arith

-- fewer cycles
pub filled-fewer : (placed : List Placed) (from count fewer : ℕ) (block : Block) → fewer ≤ count → IsFilled placed from count block
    → IsFilled placed from fewer block
filled-fewer placed from count fewer block less filled = λ slot known. record {
  released = λ i below. (filled slot known).released i (omega arith);
  ends = λ i below. (filled slot known).ends i (omega arith);
  cost = λ i below some. (filled slot known).cost i (omega arith) some;
}

-- what the block says of its cycles it says of as many cycles right after them
pub filled-again : (placed : List Placed) (from count : ℕ) (block : Block) → IsWellPlaced placed → All (λ p. goes_round from count p ≡ true) placed
    → IsFilled placed from count block → IsFilled placed (from + count) count block
filled-again placed from count block well tests filled = λ slot known.
    let rounds : All (GoesRound from count) placed = λ k e within. GoesRound-from_test from count (get_or placed k e) (tests k e within) in
    let here = filled slot known in
    record {
      released = λ i below.
          let at : from + count + i ≡ from + i + count = omega arith in
          here.released i below ∙ sym (same-again placed from count (from + i) slot well rounds (omega arith)).releases
          ∙ ap (λ c. releases_in placed c slot) (sym at);
      ends = λ i below.
          let at : from + count + i ≡ from + i + count = omega arith in
          here.ends i below ∙ sym (same-again placed from count (from + i) slot well rounds (omega arith)).last
          ∙ ap (λ c. is_last_in placed c slot) (sym at);
      cost = λ i below some.
          let at : from + count + i ≡ from + i + count = omega arith in
          let again = instance-again placed from count (from + i) slot well rounds (omega arith) in
          let there : IsSome (option_map (later count) (instance_in placed slot (from + i))) = rw (at, again) at some in
          here.cost i below (some-mapped (later count) (instance_in placed slot (from + i)) there)
          ∙ sym (same-again placed from count (from + i) slot well rounds (omega arith)).cost
          ∙ ap (λ c. worst_in placed c slot) (sym at);
    }
