-- Requests so far, and one more.
use Rattle.std.proofs.Common.{◌≡◌, ◌∙◌, ap, refl, sym, ℕ, suc, ◌+◌, ◌*◌, ◌%◌, List, [], ◌∷◌, ◌++◌, arith, sum_by}
use Rattle.std.proofs.lemmas.List.Sums.{sum_by_push}
use Rattle.async_window.specs.declared.request.Request.{Request}
use Rattle.generated_input.specs.Generator.{arrival_made, bytes_made, draws_before, each_below, gap_made, identifier_made, request_made, size_made, state_after}
use Rattle.generated_input.proofs.GeneratorDraws.{after_again, bytes_behind, draw_again, each_more}

-- the bit times before the arrival of the request of a place
abbrev pub gap_at : ℕ → ℕ → ℕ
gap_at number place = gap_made number (draws_before number place)

-- behind the requests of the first places: the state, the last arrival, and the requests
pub record Made (number count state last : ℕ) (requests : List Request) : Type 0 where
  pub state_is : state ≡ state_after number (draws_before number count)
  pub last_is : last ≡ sum_by (λ gap. gap) (each_below count (gap_at number))
  pub requests_are : requests ≡ each_below count (request_made number)

pub none_made : (number state : ℕ) (requests : List Request) → state ≡ state_after number (6 * 40) → requests ≡ [] → Made number 0 state 0 requests
unfolding draws_before each_below
none_made number state requests state_is none = record { state_is = state_is; last_is = refl; requests_are = none }

draws_more : (number count : ℕ) → draws_before number (count + 1) ≡ draws_before number count + 3 + size_made number (draws_before number count)
unfolding draws_before
draws_more number count = let more : count + 1 ≡ suc count = omega arith in ap (draws_before number) more

pub gaps_more : (number count : ℕ) → sum_by (λ gap. gap) (each_below (count + 1) (gap_at number)) ≡ sum_by (λ gap. gap) (each_below count (gap_at number)) + gap_at number count
gaps_more number count = ap (sum_by (λ gap. gap)) (each_more count (gap_at number)) ∙ sum_by_push (λ gap. gap) (each_below count (gap_at number)) (gap_at number count)

-- where the next request is made of the draws behind that state
pub one_made : (number count state last after : ℕ) (request : Request) (requests more : List Request) → Made number count state last requests
    → request.at ≡ last + gap_made state 0 → request.frame.identifier ≡ identifier_made state 0 → request.frame.bytes ≡ bytes_made state 0
    → after ≡ state_after state (3 + size_made state 0) → more ≡ requests ++ request ∷ []
    → Made number (count + 1) after request.at more
unfolding arrival_made request_made
one_made number count state last after request requests more made at identifier bytes after_is more_is =
    let before : ℕ = draws_before number count in
    let size : size_made state 0 ≡ size_made number before = ap (λ s. size_made s 0) made.state_is ∙ ap (λ drawn. drawn % 9) (draw_again number before 3) in
    let further : before + (3 + size_made number before) ≡ before + 3 + size_made number before = omega arith in
    let gap : gap_made state 0 ≡ gap_at number count = ap (λ s. gap_made s 0) made.state_is ∙ ap (λ drawn. drawn % 1000) (draw_again number before 1) in
    let arrives : request.at ≡ sum_by (λ gap. gap) (each_below (count + 1) (gap_at number)) = at ∙ (λ i. made.last_is i + gap i) ∙ sym (gaps_more number count) in
    let named : request.frame.identifier ≡ identifier_made number before = identifier ∙ ap (λ s. identifier_made s 0) made.state_is ∙ ap (λ drawn. 512 + drawn % 32) (draw_again number before 2) in
    let written : request.frame.bytes ≡ bytes_made number before = bytes ∙ ap (λ s. bytes_made s 0) made.state_is ∙ bytes_behind number before in
    let is : request ≡ request_made number count = λ i. record { at = arrives i; frame = record { identifier = named i; bytes = written i } } in
    record {
      state_is = after_is ∙ (λ i. state_after (made.state_is i) (3 + size i)) ∙ after_again number before (3 + size_made number before) ∙ ap (state_after number) (further ∙ sym (draws_more number count));
      last_is = arrives;
      requests_are = more_is ∙ (λ i. made.requests_are i ++ is i ∷ []) ∙ sym (each_more count (request_made number));
    }
