-- The recursion over what was sent and the form by places say the same.
use Rattle.std.proofs.Common.{◌≡◌, ℕ, zero, suc, ◌+◌, ◌-◌, ◌<◌, ◌≤◌, Bool, true, false, not, cond, leb, List, [], ◌∷◌, ◌++◌, length, take, map, reverse, refl, sym, ap, subst, ◌∙◌, inl, inr, arith, add-one, le_refl}
use Rattle.std.proofs.lemmas.Grind.{common_steps}
use Rattle.std.specs.Bool.{beq}
use Rattle.std.specs.List.{list_all, range_with_len, filter}
use Rattle.std.proofs.lemmas.Bool.{cases_lt, and_parts, and_from, leb-true, le-leb, false_from_ne_true}
use Rattle.std.proofs.lemmas.Bool.Decides.{same_from_decides}
use Rattle.std.proofs.lemmas.List.{length-reverse, length-take-le, take-take, take_all, append-nil, reverse-append, reverse-reverse, map-append}
use Rattle.std.proofs.lemmas.List.Elements.{filter-append}
use Rattle.stuff_bound.specs.Stuffing.{run, at_stuff_place, HasNoSix, without_stuff, Stuffs}
use Rattle.stuff_bound.specs.ByPlace.{bit_at, are_equal, is_stuff_place, other_places, StuffsByPlace, HasFirstSixthByPlace, EndsInFiveByPlace}
use Rattle.stuff_bound.specs.StuffFault.{HasFirstSixth, EndsInFive}
use Rattle.stuff_bound.proofs.Stuffs.{reverse-take_more, run-more, run_positive}
use Rattle.stuff_bound.proofs.Faults.{HasNoSix-take, run-below_six}

-- a test of each number from `a` on
each_in_range : (p : ℕ → Bool) (a n : ℕ) → list_all p (range_with_len a n) ≡ true → (k : ℕ) → a ≤ k → k < a + n → p k ≡ true
each_in_range p a zero all k low high = absurd (omega arith)
each_in_range p a (suc n) all k low high =
    let here : p a ≡ true = (and_parts (p a) _ all).0 in
    elim (cases_lt a k) [
      | inl above ↦ each_in_range p (a + 1) n (and_parts (p a) _ all).1 k (omega arith) (omega arith)
      | inr not_above ↦ let same : k ≡ a = omega arith in rw same here
    ]

range_from_each : (p : ℕ → Bool) (a n : ℕ) → ((k : ℕ) → a ≤ k → k < a + n → p k ≡ true) → list_all p (range_with_len a n) ≡ true
range_from_each p a zero each = refl
range_from_each p a (suc n) each =
    and_from (p a) _ (each a (omega arith) (omega arith))
    (range_from_each p (a + 1) n (λ k low high. each k (omega arith) (omega arith)))

beq-true : (x y : Bool) → beq x y ≡ true → x ≡ y
beq-true x y same = grind arith

-- what the test of equal neighbours says
abbrev pub Equal : List Bool → ℕ → ℕ → Type 0
Equal wire start count = (k : ℕ) → k < count → bit_at wire (start + k) ≡ bit_at wire start

pub equal_from_test : (wire : List Bool) (start count : ℕ) → are_equal wire start count ≡ true → (start + count ≤ length wire) × Equal wire start count
equal_from_test wire start count test =
    let parts = and_parts (leb (start + count) (length wire)) _ test in
    let as_first : ℕ → Bool = λ k. beq (bit_at wire (start + k)) (bit_at wire start) in
    (leb-true _ _ parts.0, λ k below. beq-true _ _ (each_in_range as_first 0 count parts.1 k (omega arith) (omega arith)))

pub test_from_equal : (wire : List Bool) (start count : ℕ) → start + count ≤ length wire → Equal wire start count → are_equal wire start count ≡ true
test_from_equal wire start count inside equal = grind (arith, and_from, le-leb, range_from_each)

-- the run behind `p` bits
abbrev pub run_at : List Bool → ℕ → ℕ
run_at wire p = run (reverse (take p wire))

run_at_positive : (wire : List Bool) (p : ℕ) → p < length wire → 0 < run_at wire (p + 1)
run_at_positive wire p inside = rw (reverse-take_more wire p false inside) (run_positive (bit_at wire p) (reverse (take p wire)))

pub run-le-length : (sent : List Bool) → run sent ≤ length sent
run-le-length [] = omega arith
run-le-length (bit ∷ sent) = omega (arith, run-more bit sent, run-le-length sent)

pub run_at-le : (wire : List Bool) (p : ℕ) → p ≤ length wire → run_at wire p ≤ p
run_at-le wire p inside = omega (arith, run-le-length (reverse (take p wire)), length-reverse (take p wire), length-take-le p wire inside)

-- one more bit makes the run longer where it is the one before, and only there
run-same : (bit last : Bool) (sent : List Bool) → bit ≡ last → run (bit ∷ last ∷ sent) ≡ run (last ∷ sent) + 1
run-same bit last sent same = grind arith

run-long : (bit last : Bool) (sent : List Bool) → 2 ≤ run (bit ∷ last ∷ sent) → bit ≡ last
run-long bit last sent long = grind arith

two_more : (wire : List Bool) (p : ℕ) → p + 1 < length wire → reverse (take (p + 1 + 1) wire) ≡ bit_at wire (p + 1) ∷ bit_at wire p ∷ reverse (take p wire)
two_more wire p inside = grind (arith, reverse-take_more)

run_at-same : (wire : List Bool) (p : ℕ) → p + 1 < length wire → bit_at wire (p + 1) ≡ bit_at wire p → run_at wire (p + 1 + 1) ≡ run_at wire (p + 1) + 1
run_at-same wire p inside same = grind (arith, two_more, run-same, reverse-take_more)

run_at-long : (wire : List Bool) (p : ℕ) → p + 1 < length wire → 2 ≤ run_at wire (p + 1 + 1) → bit_at wire (p + 1) ≡ bit_at wire p
run_at-long wire p inside long = grind (arith, run-long, two_more)

-- the run that ends at a place is as long as the equal neighbours there, and no longer
pub run_from_equal : (wire : List Bool) (start count end : ℕ) → end ≡ start + count → end ≤ length wire → Equal wire start count → count ≤ run_at wire end
run_from_equal wire start zero end at inside equal = omega arith
run_from_equal wire start (suc zero) end at inside equal = let e : end ≡ start + 1 = omega arith in rw e (run_at_positive wire start (omega arith))
run_from_equal wire start (suc (suc k)) end at inside equal =
    let e : end ≡ start + k + 1 + 1 = omega arith in
    let place : start + k + 1 ≡ start + suc k = omega arith in
    let last : bit_at wire (start + k + 1) ≡ bit_at wire (start + k) = rw place (equal (suc k) (omega arith) ∙ sym (equal k (omega arith))) in
    let before : suc k ≤ run_at wire (start + k + 1) = run_from_equal wire start (suc k) (start + k + 1) (omega arith) (omega arith) (λ n below. equal n (omega arith)) in
    rw e (omega (arith, run_at-same wire (start + k) (omega arith) last, before))

pub equal_from_run : (wire : List Bool) (start count end : ℕ) → end ≡ start + count → end ≤ length wire → count ≤ run_at wire end → Equal wire start count
equal_from_run wire start zero end at inside long k below = absurd (omega arith)
equal_from_run wire start (suc zero) end at inside long k below = let e : start + k ≡ start = omega arith in rw e refl
equal_from_run wire start (suc (suc n)) end at inside long k below =
    let e : end ≡ start + n + 1 + 1 = omega arith in
    let last : bit_at wire (start + n + 1) ≡ bit_at wire (start + n) = run_at-long wire (start + n) (omega arith) (rw (← e) (omega arith)) in
    let there : suc (suc n) ≤ run_at wire (start + n + 1 + 1) = rw (← e) long in
    let shorter : suc n ≤ run_at wire (start + n + 1) = omega (arith, run_at-same wire (start + n) (omega arith) last, there) in
    let before : Equal wire start (suc n) = equal_from_run wire start (suc n) (start + n + 1) (omega arith) (omega arith) shorter in
    grind (arith, cases_lt)

-- the test of equal neighbours is the length of the run behind them
pub run_from_test : (wire : List Bool) (start count end : ℕ) → end ≡ start + count → are_equal wire start count ≡ true → (end ≤ length wire) × (count ≤ run_at wire end)
run_from_test wire start count end at test =
    let said = equal_from_test wire start count test in
    let inside : end ≤ length wire = omega (arith, said.0) in
    (inside, run_from_equal wire start count end at inside said.1)

pub test_from_run : (wire : List Bool) (start count end : ℕ) → end ≡ start + count → end ≤ length wire → count ≤ run_at wire end → are_equal wire start count ≡ true
test_from_run wire start count end at inside long =
    test_from_equal wire start count (omega arith) (equal_from_run wire start count end at inside long)

-- no six equal neighbours up to a place, by runs
HasNoSix_from_runs : (wire : List Bool) (n : ℕ) → n ≤ length wire → ((p : ℕ) → p ≤ n → run_at wire p < 6) → HasNoSix (reverse (take n wire))
HasNoSix_from_runs wire zero inside short = tt
HasNoSix_from_runs wire (suc n) inside short =
    let more : reverse (take (suc n) wire) ≡ bit_at wire n ∷ reverse (take n wire) = rw (← add-one) (reverse-take_more wire n false (omega arith)) in
    let last : run_at wire (suc n) < 6 = short (suc n) (omega arith) in
    rw more (subst (λ sent. run sent < 6) more last, HasNoSix_from_runs wire n (omega arith) (λ p below. short p (omega arith)))

pub run_at-below_six : (wire : List Bool) (n p : ℕ) → p ≤ n → HasNoSix (reverse (take n wire)) → run_at wire p < 6
run_at-below_six wire n p before no_six =
    run-below_six (reverse (take p wire)) (subst (λ seen. HasNoSix (reverse seen)) (take-take p n wire before) (HasNoSix-take (take n wire) p no_six))

pub no_six_up_to : (wire : List Bool) (n : ℕ) → HasNoSix (reverse (take n wire)) → (start : ℕ) → start + 6 ≤ n → are_equal wire start 6 ≡ false
no_six_up_to wire n no_six start before =
    false_from_ne_true _ (λ test.
    omega (arith, (run_from_test wire start 6 (start + 6) refl test).1, run_at-below_six wire n (start + 6) before no_six))

pub no_six_from_places : (wire : List Bool) (n : ℕ) → n ≤ length wire → ((start : ℕ) → start + 6 ≤ n → are_equal wire start 6 ≡ false) → HasNoSix (reverse (take n wire))
no_six_from_places wire n inside none =
    HasNoSix_from_runs wire n inside (λ p before.
    elim (cases_lt (run_at wire p) 6) [
      | inl below ↦ below
      | inr long ↦
          let enough : 6 ≤ p = omega (arith, run_at-le wire p (omega arith), long) in
          let six : are_equal wire (p - 6) 6 ≡ true = test_from_run wire (p - 6) 6 p (omega arith) (omega arith) long in
          let not_six : are_equal wire (p - 6) 6 ≡ false = none (p - 6) (omega arith) in
          absurd (cc)
    ])

-- a place is a stuff place in both forms
stuff_place_is : (wire : List Bool) (n : ℕ) → n ≤ length wire → at_stuff_place (reverse (take n wire)) ≡ is_stuff_place wire n
stuff_place_is wire n inside =
    grind (arith, common_steps, same_from_decides, leb-true, le-leb, and_parts, leb, run_from_test, run_at-le, and_from, test_from_run)

range-more : (a n last : ℕ) → a + n ≡ last → range_with_len a (suc n) ≡ range_with_len a n ++ last ∷ []
range-more a zero last at = let same : a ≡ last = omega arith in ap (λ x. x ∷ []) same
range-more a (suc n) last at = ap (λ rest. a ∷ rest) (range-more (a + 1) n last (omega arith))

-- what is left of one more bit
left_more : (stuff : Bool) (bit : Bool) (left : List Bool) (f : ℕ → Bool) (places : List ℕ) (n : ℕ) → f n ≡ bit → reverse left ≡ map f places → reverse (cond stuff left (bit ∷ left)) ≡ map f (places ++ cond (not stuff) (n ∷ []) [])
left_more stuff bit left f places n same before = grind (arith, common_steps, append-nil, reverse-append, map-append)

pub left_up_to : (wire : List Bool) (n : ℕ) → n ≤ length wire → reverse (without_stuff (reverse (take n wire))) ≡ map (bit_at wire) (filter (λ place. not (is_stuff_place wire place)) (range_with_len 0 n))
left_up_to wire zero inside = refl
left_up_to wire (suc n) inside =
    let seen = reverse (take n wire) in
    let is_other : ℕ → Bool = λ place. not (is_stuff_place wire place) in
    let places = filter is_other (range_with_len 0 n) in
    let more : reverse (take (suc n) wire) ≡ bit_at wire n ∷ seen = rw (← add-one) (reverse-take_more wire n false (omega arith)) in
    let step = left_more (at_stuff_place seen) (bit_at wire n) (without_stuff seen) (bit_at wire) places n refl (left_up_to wire n (omega arith)) in
    let range : filter is_other (range_with_len 0 (suc n)) ≡ places ++ cond (is_other n) (n ∷ []) [] =
    ap (filter is_other) (range-more 0 n n (omega arith)) ∙ filter-append is_other (range_with_len 0 n) (n ∷ [])
    in
    grind (arith, stuff_place_is)

-- the whole list
taken : (wire : List Bool) → take (length wire) wire ≡ wire
taken wire = take_all (length wire) wire (le_refl (length wire))

no_six_places : (wire : List Bool) → HasNoSix (reverse wire) → (start : ℕ) → are_equal wire start 6 ≡ false
no_six_places wire no_six start =
    let all : HasNoSix (reverse (take (length wire) wire)) = rw taken no_six in
    grind (arith, false_from_ne_true, run_from_test, no_six_up_to)

no_six_bits : (wire : List Bool) → ((start : ℕ) → are_equal wire start 6 ≡ false) → HasNoSix (reverse wire)
no_six_bits wire none = rw taken at (no_six_from_places wire (length wire) (le_refl (length wire)) (λ start _. none start))

run_of_all : (wire : List Bool) → run_at wire (length wire) ≡ run (reverse wire)
run_of_all wire = ap (λ bits. run (reverse bits)) (taken wire)

last_five : (wire : List Bool) → 5 ≤ run (reverse wire) → (start : ℕ) × (start + 5 ≡ length wire) × (are_equal wire start 5 ≡ true)
last_five wire five =
    let long : 5 ≤ run_at wire (length wire) = omega (arith, run_of_all wire) in
    let enough : 5 ≤ length wire = omega (arith, run_at-le wire (length wire) (le_refl (length wire)), long) in
    (length wire - 5, omega arith, test_from_run wire (length wire - 5) 5 (length wire) (omega arith) (le_refl (length wire)) long)

run_of_last_five : (wire : List Bool) (start : ℕ) → start + 5 ≡ length wire → are_equal wire start 5 ≡ true → 5 ≤ run (reverse wire)
run_of_last_five wire start end five = grind (arith, common_steps, run_from_test, run_of_all)

left_of_all : (wire : List Bool) → reverse (without_stuff (reverse wire)) ≡ map (bit_at wire) (other_places wire)
left_of_all wire = ap (λ bits. reverse (without_stuff (reverse bits))) (sym (taken wire)) ∙ left_up_to wire (length wire) (le_refl (length wire))

pub StuffsByPlace_from_Stuffs : (wire plain : List Bool) → Stuffs wire plain → StuffsByPlace wire plain
StuffsByPlace_from_Stuffs wire plain h = record {
  no_six = no_six_places wire h.no_six;
  ended = λ start end. false_from_ne_true _ (λ five. omega (arith, h.ended, run_of_last_five wire start end five));
  left = sym (left_of_all wire) ∙ ap reverse h.left ∙ reverse-reverse plain;
}

pub Stuffs_from_StuffsByPlace : (wire plain : List Bool) → StuffsByPlace wire plain → Stuffs wire plain
Stuffs_from_StuffsByPlace wire plain h = record {
  no_six = no_six_bits wire h.no_six;
  ended = grind (arith, cases_lt, last_five);
  left = sym (reverse-reverse (without_stuff (reverse wire))) ∙ ap reverse (left_of_all wire ∙ h.left);
}

pub EndsInFiveByPlace_from_EndsInFive : (wire : List Bool) → EndsInFive wire → EndsInFiveByPlace wire
EndsInFiveByPlace_from_EndsInFive wire h = record { no_six = no_six_places wire h.no_six; five = last_five wire (omega (arith, h.five)) }

pub EndsInFive_from_EndsInFiveByPlace : (wire : List Bool) → EndsInFiveByPlace wire → EndsInFive wire
EndsInFive_from_EndsInFiveByPlace wire h = grind (arith, no_six_bits, run_of_last_five, run-below_six)

pub HasFirstSixthByPlace_from_HasFirstSixth : (wire : List Bool) (place : ℕ) → HasFirstSixth wire place → HasFirstSixthByPlace wire place
HasFirstSixthByPlace_from_HasFirstSixth wire place h =
    let enough : 5 ≤ place = omega (arith, run_at-le wire (place + 1) (omega arith), h.sixth) in
    record {
      sixth = (place - 5, omega arith, test_from_run wire (place - 5) 6 (place + 1) (omega arith) (omega arith) h.sixth);
      first = λ start before. no_six_up_to wire place h.none_before start (omega arith);
    }

pub HasFirstSixth_from_HasFirstSixthByPlace : (wire : List Bool) (place : ℕ) → HasFirstSixthByPlace wire place → HasFirstSixth wire place
HasFirstSixth_from_HasFirstSixthByPlace wire place h = grind (arith, common_steps, run_from_test, no_six_from_places)
