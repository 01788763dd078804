-- Requests by their arrivals, and what the frames of a bus leave of those that have arrived.
use Rattle.std.proofs.Common.{◌≡◌, ◌≢◌, ℕ, zero, suc, ◌+◌, ◌^◌, ◌<◌, ◌≤◌, Bool, true, false, cond, eqb, Some, List, [], ◌∷◌, ◌++◌, length, get_or, drop, filter, map, All, AllPairs, inl, inr, refl, sym, ap, ◌∙◌, subst, arith}
use Rattle.std.proofs.lemmas.Grind.{common_steps}
use Rattle.std.specs.Prelude.{nat_le, nat_lt}
use Rattle.std.specs.List.{slice_get}
use Rattle.std.specs.Option.{is_some}
use Rattle.std.proofs.lemmas.Bool.{cases_Bool, cases_lt, eq-eqb, ne_eqb, false≢true}
use Rattle.std.proofs.lemmas.Bool.Decides.{eqb_tells, nat_tests}
use Rattle.std.proofs.lemmas.List.Elements.{All-map, filter_passes}
use Rattle.can_frame.specs.declared.data_frame.TimedFrame.{TimedFrame}
use Rattle.async_window.specs.declared.request.Request.{Request}
use Rattle.async_window.specs.Waiting.{frames_with, requests_of, unsent_after}
use Rattle.async_window.specs.Mailbox.{IsMail, Mail, mail_after, unsent_of}
use Rattle.async_window.specs.Online.{ComeLater, HaveArrived, WereRequests, arrived_by, coming_after, forgotten, forgotten_mail}
use Rattle.async_window.proofs.Unsent.{IsMail-after, frames_with-next, unsent_of-here, unsent_of-later}
use Rattle.async_window.proofs.Online.{map-drop}

-- requests in the order of their arrivals
abbrev pub InOrder : List Request → Type 0
InOrder requests = AllPairs (λ one other. one.at ≤ other.at) requests

none-arrived : (at : ℕ) (requests : List Request) → All (λ r. at < r.at) requests
    → (arrived_by at requests ≡ []) × (coming_after at requests ≡ requests)
none-arrived at [] late = (refl, refl)
none-arrived at (first ∷ requests) late =
    let here : at < first.at = late 0 first (omega arith) in
    let rest = none-arrived at requests (λ k d within. late (suc k) d (omega arith)) in
    let no : nat_le first.at at ≡ false = grind (arith, nat_tests) in
    let yes : nat_lt at first.at ≡ true = grind (arith, nat_tests) in (
      ap (λ b. cond b (first ∷ arrived_by at requests) (arrived_by at requests)) no ∙ rest.0,
      ap (λ b. cond b (first ∷ coming_after at requests) (coming_after at requests)) yes ∙ ap (λ xs. first ∷ xs) rest.1,
    )

pub split-arrived : (at : ℕ) (requests : List Request) → InOrder requests → requests ≡ arrived_by at requests ++ coming_after at requests
split-arrived at [] order = refl
split-arrived at (first ∷ requests) order =
    elim (cases_lt at first.at) [
      | inl late ↦
          let all = none-arrived at (first ∷ requests) (λ k d within. later k d within late) in
          sym (ap (λ xs. xs ++ coming_after at (first ∷ requests)) all.0 ∙ all.1)
      | inr early ↦
          let yes : nat_le first.at at ≡ true = grind (arith, nat_tests) in
          let no : nat_lt at first.at ≡ false = grind (arith, nat_tests) in
          ap (λ xs. first ∷ xs) (split-arrived at requests (λ i j d before within. order (suc i) (suc j) d (omega arith) (omega arith)))
          ∙ ap (λ b. (first ∷ arrived_by at requests) ++ cond b (first ∷ coming_after at requests) (coming_after at requests)) (sym no)
          ∙ ap (λ b. cond b (first ∷ arrived_by at requests) (arrived_by at requests) ++ coming_after at (first ∷ requests)) (sym yes)
    ]
  where
    later : (k : ℕ) (d : Request) → k < length (first ∷ requests) → at < first.at → at < (get_or (first ∷ requests) k d).at
    later zero d within late = late
    later (suc k) d within late =
        let rises : first.at ≤ (get_or requests k d).at = order 0 (suc k) d (omega arith) within in
        omega arith

pub arrived-arrived : (at : ℕ) (requests : List Request) → HaveArrived at (arrived_by at requests)
arrived-arrived at requests = λ k d within.
    let passed = filter_passes (λ (r : Request). nat_le r.at at) requests k d within in
    grind (arith, nat_tests)

pub coming-late : (at : ℕ) (requests : List Request) → ComeLater at (coming_after at requests)
coming-late at requests = λ k d within.
    let passed = filter_passes (λ (r : Request). nat_lt at r.at) requests k d within in
    grind (arith, nat_tests)

-- as time goes on there are no fewer
pub more-arrived : (early late : ℕ) → early ≤ late → (requests : List Request) (id : ℕ)
    → length (requests_of (arrived_by early requests) id) ≤ length (requests_of (arrived_by late requests) id)
more-arrived early late before [] id = omega arith
more-arrived early late before (first ∷ requests) id =
    let rest = more-arrived early late before requests id in
    elim (cases_lt early first.at) [
      | inl not_yet ↦
          let no : nat_le first.at early ≡ false = grind (arith, nat_tests) in
          let here : length (requests_of (arrived_by early (first ∷ requests)) id) ≡ length (requests_of (arrived_by early requests) id)
          = ap (λ b. length (requests_of (cond b (first ∷ arrived_by early requests) (arrived_by early requests)) id)) no in
          let there = one-more (nat_le first.at late) (arrived_by late requests) in
          omega arith
      | inr arrived ↦
          let yes : nat_le first.at early ≡ true = grind (arith, nat_tests) in
          let too : nat_le first.at late ≡ true = grind (arith, nat_tests) in
          let here : length (requests_of (arrived_by early (first ∷ requests)) id) ≡ length (requests_of (first ∷ arrived_by early requests) id)
          = ap (λ b. length (requests_of (cond b (first ∷ arrived_by early requests) (arrived_by early requests)) id)) yes in
          let there : length (requests_of (arrived_by late (first ∷ requests)) id) ≡ length (requests_of (first ∷ arrived_by late requests) id)
          = ap (λ b. length (requests_of (cond b (first ∷ arrived_by late requests) (arrived_by late requests)) id)) too in
          let one = by_test (eqb first.frame.identifier id) (requests_of (arrived_by early requests) id) (requests_of (arrived_by late requests) id) rest in
          omega arith
    ]
  where
    by_test : (own : Bool) (xs ys : List Request) → length xs ≤ length ys → length (cond own (first ∷ xs) xs) ≤ length (cond own (first ∷ ys) ys)
    by_test true xs ys few = omega arith
    by_test false xs ys few = few

    one-more : (has : Bool) (xs : List Request) → length (requests_of xs id) ≤ length (requests_of (cond has (first ∷ xs) xs) id)
    one-more false xs = omega arith
    one-more true xs = by_own (eqb first.frame.identifier id) (requests_of xs id)
      where
        by_own : (own : Bool) (ys : List Request) → length ys ≤ length (cond own (first ∷ ys) ys)
        by_own true ys = omega arith
        by_own false ys = omega arith

-- of an identifier of which some request is left, fewer frames were sent than there were requests
drop-some : (n : ℕ) (requests : List Request) → is_some (slice_get (drop n requests) 0) ≡ true → n < length requests
drop-some zero [] some = absurd (false≢true some)
drop-some zero (request ∷ requests) some = omega arith
drop-some (suc n) [] some = absurd (false≢true some)
drop-some (suc n) (request ∷ requests) some = let less = drop-some n requests some in omega arith

pub some-left-over : (requests : List Request) (past : List TimedFrame) (id : ℕ) (ids : List ℕ)
    → is_some (slice_get (unsent_of (mail_after ids requests past) id) 0) ≡ true → frames_with past id < length (requests_of requests id)
some-left-over requests past id [] some = absurd (false≢true some)
some-left-over requests past id (first ∷ ids) some =
    let box : Mail = record { identifier = first; unsent = unsent_after requests past first } in
    elim (eqb_tells first id) [
      | inl here ↦
          let own : is_some (slice_get (unsent_after requests past first) 0) ≡ true
          = subst (λ xs. is_some (slice_get xs 0) ≡ true) (unsent_of-here box (mail_after ids requests past) id here.1) some in
          subst (λ n. frames_with past n < length (requests_of requests n)) here.1
          (drop-some (frames_with past first) (requests_of requests first) own)
      | inr apart ↦
          some-left-over requests past id ids
          (subst (λ xs. is_some (slice_get xs 0) ≡ true) (unsent_of-later box (mail_after ids requests past) id apart.1) some)
    ]

-- one frame more, which was one of the requests
pub were-more : (requests : List Request) (past : List TimedFrame) (sent : TimedFrame) → WereRequests requests past
    → (0x200 ≤ sent.frame.identifier → frames_with past sent.frame.identifier < length (requests_of requests sent.frame.identifier))
    → WereRequests requests (past ++ sent ∷ [])
were-more requests past sent were one id low =
    elim (eqb_tells sent.frame.identifier id) [
      | inl here ↦
          let count : frames_with (past ++ sent ∷ []) id ≡ frames_with past id + 1
          = frames_with-next past sent id ∙ ap (λ b. frames_with past id + cond b 1 0) here.0 in
          let few : frames_with past id < length (requests_of requests id)
          = subst (λ n. 0x200 ≤ n → frames_with past n < length (requests_of requests n)) here.1 one low in
          omega arith
      | inr apart ↦
          let count : frames_with (past ++ sent ∷ []) id ≡ frames_with past id + 0
          = frames_with-next past sent id ∙ ap (λ b. frames_with past id + cond b 1 0) apart.0 in
          let old = were id low in
          omega arith
    ]

pub were-later : (early late : ℕ) → early ≤ late → (requests : List Request) (past : List TimedFrame)
    → WereRequests (arrived_by early requests) past → WereRequests (arrived_by late requests) past
were-later early late before requests past were id low =
    let few = were id low in
    let more = more-arrived early late before requests id in
    omega arith

-- mail of which the arrivals are forgotten is mail
filter-forgotten : (requests : List Request) (id : ℕ) → requests_of (map forgotten requests) id ≡ map forgotten (requests_of requests id)
filter-forgotten [] id = refl
filter-forgotten (request ∷ requests) id =
    elim (eqb request.frame.identifier id) as (λ b. cond b (forgotten request ∷ requests_of (map forgotten requests) id) (requests_of (map forgotten requests) id)
    ≡ map forgotten (cond b (request ∷ requests_of requests id) (requests_of requests id))) [
      | true ↦ ap (λ xs. forgotten request ∷ xs) (filter-forgotten requests id)
      | false ↦ filter-forgotten requests id
    ]

mail-forgotten : (ids : List ℕ) (requests : List Request) (past : List TimedFrame)
    → mail_after ids (map forgotten requests) past ≡ forgotten_mail (mail_after ids requests past)
mail-forgotten [] requests past = refl
mail-forgotten (id ∷ ids) requests past =
    ap (λ (first : Mail). first ∷ mail_after ids (map forgotten requests) past)
    (ap {B = Mail} (λ xs. record { identifier = id; unsent = drop (frames_with past id) xs }) (filter-forgotten requests id)
    ∙ ap {B = Mail} (λ xs. record { identifier = id; unsent = xs }) (sym (map-drop (frames_with past id) (requests_of requests id))))
    ∙ ap (λ later. record { identifier = id; unsent = map forgotten (unsent_after requests past id) } ∷ later) (mail-forgotten ids requests past)

pub IsMail-forgotten : (ids : List ℕ) (requests : List Request) (past : List TimedFrame) → AllPairs (λ one other. one ≢ other) ids
    → All (λ id. 0x200 ≤ id) ids → All (λ id. id ≤ 0x7EF) ids → IsMail (forgotten_mail (mail_after ids requests past))
IsMail-forgotten ids requests past distinct least greatest =
    subst IsMail (mail-forgotten ids requests past)
    (IsMail-after ids (map forgotten requests) past distinct least greatest
    (All-map (λ (r : Request). r.at < 2 ^ 40) forgotten requests (λ k d within. omega arith)))
