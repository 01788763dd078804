-- Draws behind draws, and lists of what is made of each number.
use Rattle.std.proofs.Common.{◌≡◌, ◌∙◌, ap, refl, sym, ℕ, zero, suc, ◌+◌, ◌*◌, ◌/◌, ◌%◌, ◌^◌, ◌<◌, List, [], ◌∷◌, ◌++◌, arith, length, get_or}
use Rattle.std.proofs.Math.Nat.{mod-add-mod}
use Rattle.std.proofs.lemmas.List.FromFn.{get_or-map-range_with_len, length-map-range_with_len, map-range_with_len_more}
use Rattle.requirement_table.specs.declared.entries.Entry.{Entry}
use Rattle.change_protocol.specs.declared.operations.Op.TheVariants.{Add}
use Rattle.generated_input.specs.Generator.{bytes_made, change_made, draw, each_below, entry_made, period_of, size_made, state_after}
use Rattle.steps_file.specs.StepsReading.{asking}
use Rattle.steps_file.specs.declared.steps.Step.{Step}

-- one draw, as it is computed
pub one_after : (state : ℕ) → (state * 6364136223846793005 % 2 ^ 64 + 1442695040888963407) % 2 ^ 64 ≡ state_after state 1
unfolding state_after
one_after state = mod-add-mod (state * 6364136223846793005) (2 ^ 64) 1442695040888963407

pub one_drawn : (state : ℕ) → state_after state 1 / 2 ^ 33 ≡ draw state 1
unfolding draw
one_drawn state = refl

pub none_after : (number : ℕ) → state_after number 0 ≡ number
unfolding state_after
none_after number = refl

-- the states and draws of a number behind some of its draws
pub after_again : (number before count : ℕ) → state_after (state_after number before) count ≡ state_after number (before + count)
unfolding state_after
after_again number before zero = ap (state_after number) (omega arith)
after_again number before (suc count) =
    let back : suc (before + count) ≡ before + suc count = omega arith in
    ap (λ state. (state * 6364136223846793005 + 1442695040888963407) % 2 ^ 64) (after_again number before count) ∙ ap (state_after number) back

pub draw_again : (number before place : ℕ) → draw (state_after number before) place ≡ draw number (before + place)
unfolding draw
draw_again number before place = ap (λ state. state / 2 ^ 33) (after_again number before place)

-- what is made of the numbers below one more
pub each_none : {Item : Type 0} (f : ℕ → Item) → each_below 0 f ≡ []
unfolding each_below
each_none f = refl

pub each_more : {Item : Type 0} (n : ℕ) (f : ℕ → Item) → each_below (n + 1) f ≡ each_below n f ++ f n ∷ []
unfolding each_below
each_more n f = map-range_with_len_more f 0 n n (omega arith)

pub length-each_below : {Item : Type 0} (n : ℕ) (f : ℕ → Item) → length (each_below n f) ≡ n
unfolding each_below
length-each_below n f = length-map-range_with_len f 0 n

pub get_or-each_below : {Item : Type 0} (n : ℕ) (f : ℕ → Item) (place : ℕ) (d : Item) → place < n → get_or (each_below n f) place d ≡ f place
unfolding each_below
get_or-each_below n f place d inside = get_or-map-range_with_len f 0 n place place d inside (omega arith)

-- what is made of the draws behind some draws

pub entry_behind : (number before slot : ℕ) → entry_made (state_after number before) 0 slot ≡ entry_made number before slot
unfolding entry_made
entry_behind number before slot =
    let drawn : (place : ℕ) → draw (state_after number before) place ≡ draw number (before + place) = draw_again number before in
    λ i. record {
      slot = slot;
      node = drawn 1 i % 8;
      length = drawn 2 i % 9;
      phase = drawn 3 i % 8;
      period = period_of (drawn 4 i);
      deadline = 1 + drawn 5 i % period_of (drawn 4 i);
      priority = drawn 6 i % 4;
    }

pub bytes_behind : (number before : ℕ) → bytes_made (state_after number before) 0 ≡ bytes_made number before
unfolding bytes_made
bytes_behind number before =
    let drawn : (place : ℕ) → draw (state_after number before) place ≡ draw number (before + place) = draw_again number before in
    let further : (place : ℕ) → before + (4 + place) ≡ before + 4 + place = λ place. omega arith in
    λ i. each_below (drawn 3 i % 9) (λ place. (drawn (4 + place) ∙ ap (draw number) (further place)) i % 256)

-- the bytes of a frame, behind the draws of an arrival and an identifier, and the state behind them
pub bytes_framed : (number : ℕ) → each_below (draw (state_after number 2) 1 % 9) (λ place. draw (state_after number 2) (2 + place) % 256) ≡ bytes_made number 0
unfolding bytes_made
bytes_framed number =
    let further : (place : ℕ) → 2 + (2 + place) ≡ 4 + place = λ place. omega arith in
    λ i. each_below (draw_again number 2 1 i % 9) (λ place. (draw_again number 2 (2 + place) ∙ ap (draw number) (further place)) i % 256)

pub state_framed : (number : ℕ) → state_after (state_after number 2) (1 + draw (state_after number 2) 1 % 9) ≡ state_after number (3 + size_made number 0)
state_framed number =
    let further : 2 + (1 + draw number 3 % 9) ≡ 3 + draw number 3 % 9 = omega arith in
    ap (λ drawn. state_after (state_after number 2) (1 + drawn % 9)) (draw_again number 2 1)
    ∙ after_again number 2 (1 + draw number 3 % 9)
    ∙ ap (state_after number) further

-- the draw of one byte more
pub byte_drawn : (number state place byte : ℕ) → state ≡ state_after number (1 + place) → byte ≡ draw state 1 % 256 → byte ≡ draw number (2 + place) % 256
byte_drawn number state place byte state_is byte_is =
    let further : 1 + place + 1 ≡ 2 + place = omega arith in
    byte_is ∙ ap (λ s. draw s 1 % 256) state_is ∙ ap (λ d. d % 256) (draw_again number (1 + place) 1 ∙ ap (draw number) further)

pub byte_state : (number state after place : ℕ) → state ≡ state_after number (1 + place) → after ≡ state_after state 1 → after ≡ state_after number (1 + (place + 1))
byte_state number state after place state_is after_is =
    let further : 1 + place + 1 ≡ 1 + (place + 1) = omega arith in
    after_is ∙ ap (λ s. state_after s 1) state_is ∙ after_again number (1 + place) 1 ∙ ap (state_after number) further

-- one change more
pub change_more : (number state slot : ℕ) (entry : Entry) (step : Step) (before after : List Step) → state ≡ state_after number (6 * slot) → entry ≡ entry_made state 0 slot
    → step ≡ asking 1 0 (Add entry ∷ []) → before ≡ each_below slot (change_made number) → after ≡ before ++ step ∷ []
    → after ≡ each_below (slot + 1) (change_made number)
change_more number state slot entry step before after state_is entry_is step_is before_is after_is =
    let is : entry ≡ entry_made number (6 * slot) slot = entry_is ∙ ap (λ s. entry_made s 0 slot) state_is ∙ entry_behind number (6 * slot) slot in
    let asked : step ≡ change_made number slot = step_is ∙ ap (λ entry. asking 1 0 (Add entry ∷ [])) is in
    after_is ∙ (λ i. before_is i ++ asked i ∷ []) ∙ sym (each_more slot (change_made number))

pub state_more : (number state after slot : ℕ) → state ≡ state_after number (6 * slot) → after ≡ state_after state 6 → after ≡ state_after number (6 * (slot + 1))
state_more number state after slot state_is after_is =
    let further : 6 * slot + 6 ≡ 6 * (slot + 1) = omega arith in
    after_is ∙ ap (λ s. state_after s 6) state_is ∙ after_again number (6 * slot) 6 ∙ ap (state_after number) further
