-- Each entry of the table of steps is what the definitions say.
use Rattle.std.proofs.Common.{◌≡◌, ℕ, ◌<◌, true, List, length, get_or, refl, arith}
use Rattle.std.proofs.lemmas.Grind.{common_steps}
use Rattle.std.specs.List.{list_all}
use Rattle.std.proofs.Math.Dec.{ltb}
use Rattle.std.proofs.lemmas.Bool.{and_parts, ltb-true}
use Rattle.stuff_bound.specs.declared.steps.TheConstants.{STEPS}
use Rattle.stuff_bound.specs.Sending.{behind_run, bit_step, one_more, steps, step_at}
use Rattle.stuff_bound.proofs.Entries.{are_entries, entry-is}

all_steps : are_entries step_at 0 STEPS ≡ true
unfolding behind_run bit_step one_more steps step_at
all_steps = refl

pub step_is : (place : ℕ) → place < 8192 → get_or STEPS place 0 ≡ step_at place
step_is place inside = entry-is step_at place STEPS all_steps inside

-- no entry has more than two stuff bits
all_few : list_all (λ entry. ltb entry 48) STEPS ≡ true
all_few = refl

few-from : (entries : List ℕ) (place : ℕ) → list_all (λ entry. ltb entry 48) entries ≡ true → place < length entries → get_or entries place 0 < 48
few-from entries place all inside = grind (arith, common_steps, ltb-true, and_parts)

pub step-few : (place : ℕ) → place < 8192 → get_or STEPS place 0 < 48
step-few place inside = few-from STEPS place all_few inside
