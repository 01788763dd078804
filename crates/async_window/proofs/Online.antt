-- Requests that come while the bus runs: what those that come later change, and what it changes that their arrivals are
-- forgotten.
use Rattle.std.proofs.Common.{◌≡◌, ◌≢◌, ◌↔◌, ℕ, zero, suc, ◌+◌, ◌/◌, ◌<◌, ◌≤◌, Bool, true, false, cond, eqb, Some, None, List, [], ◌∷◌, ◌++◌, length, get_or, drop, filter, map, All, Contains, inl, inr, refl, sym, ap, ◌∙◌, subst, arith}
use Rattle.std.proofs.lemmas.Grind.{common_steps}
use Rattle.std.specs.Prelude.{nat_le, ◌&&◌, if◌then◌else◌}
use Rattle.std.specs.List.{slice_get}
use Rattle.std.proofs.lemmas.Bool.{eq-eqb, ne_eqb, cases_Bool}
use Rattle.std.proofs.lemmas.Bool.Decides.{eqb_tells, nat_tests}
use Rattle.std.proofs.lemmas.List.{append-nil, drop-append-le}
use Rattle.std.proofs.lemmas.List.Elements.{All-head, All-tail, All-drop, All-map, filter-append, All-filter}
use Rattle.stuff_bound.specs.Stuffing.{worst}
use Rattle.cycle_layout.specs.Layout.{CycleLayout, async_open, sync_start}
use Rattle.can_frame.specs.declared.data_frame.TimedFrame.{TimedFrame}
use Rattle.async_window.specs.declared.request.Request.{Request}
use Rattle.async_window.specs.Waiting.{IsRequestWaiting, MayStart, frames_with, requests_of, unsent_after}
use Rattle.async_window.specs.Mailbox.{Mail, least_of, mail_after, mail_offer, may_start, taken_from, unsent_of, without_first}
use Rattle.async_window.specs.Adding.{with_request}
use Rattle.async_window.specs.Online.{ComeLater, HaveArrived, WereRequests, forgotten, forgotten_box, forgotten_mail}
use Rattle.async_window.proofs.Unsent.{unsent_of-cons, unsent_of-here, unsent_of-later}
use Rattle.async_window.proofs.Putting.{with_last}

-- one request more of an identifier, and of another one
of-own : (requests : List Request) (request : Request) (id : ℕ) → request.frame.identifier ≡ id
    → requests_of (requests ++ request ∷ []) id ≡ requests_of requests id ++ request ∷ []
of-own requests request id same =
    filter-append (λ (r : Request). eqb r.frame.identifier id) requests (request ∷ [])
    ∙ ap (λ b. requests_of requests id ++ cond b (request ∷ []) []) (eq-eqb request.frame.identifier id same)

of-other : (requests : List Request) (request : Request) (id : ℕ) → request.frame.identifier ≢ id
    → requests_of (requests ++ request ∷ []) id ≡ requests_of requests id
of-other requests request id apart =
    filter-append (λ (r : Request). eqb r.frame.identifier id) requests (request ∷ [])
    ∙ ap (λ b. requests_of requests id ++ cond b (request ∷ []) []) (ne_eqb request.frame.identifier id apart)
    ∙ append-nil (requests_of requests id)

-- a mailbox behind such a request
box-put : (requests : List Request) (request : Request) (past : List TimedFrame) (id : ℕ)
    → frames_with past id ≤ length (requests_of requests id)
    → record { identifier = id; unsent = unsent_after (requests ++ request ∷ []) past id }
    ≡ with_request request (record { identifier = id; unsent = unsent_after requests past id })
box-put requests request past id few =
    let box : Mail = record { identifier = id; unsent = unsent_after requests past id } in
    elim (eqb_tells id request.frame.identifier) [
      | inl same ↦
          ap {B = Mail} (λ xs. record { identifier = id; unsent = drop (frames_with past id) xs }) (of-own requests request id (sym same.1))
          ∙ ap {B = Mail} (λ xs. record { identifier = id; unsent = xs }) (drop-append-le (frames_with past id) (requests_of requests id) (request ∷ []) few)
          ∙ ap (λ b. cond b (with_last request box) box) (sym same.0)
      | inr apart ↦
          ap {B = Mail} (λ xs. record { identifier = id; unsent = drop (frames_with past id) xs })
          (of-other requests request id (λ e. apart.1 (sym e)))
          ∙ ap (λ b. cond b (with_last request box) box) (sym apart.0)
    ]

pub mail_after-put : (ids : List ℕ) (requests : List Request) (request : Request) (past : List TimedFrame)
    → All (λ id. 0x200 ≤ id) ids → WereRequests requests past
    → mail_after ids (requests ++ request ∷ []) past ≡ map (with_request request) (mail_after ids requests past)
mail_after-put [] requests request past low were = refl
mail_after-put (id ∷ ids) requests request past low were =
    ap (λ first. first ∷ mail_after ids (requests ++ request ∷ []) past)
    (box-put requests request past id (were id (All-head (λ n. 0x200 ≤ n) id ids low)))
    ∙ ap (λ later. with_request request (record { identifier = id; unsent = unsent_after requests past id }) ∷ later)
    (mail_after-put ids requests request past (All-tail (λ n. 0x200 ≤ n) id ids low) were)

-- requests that come later are not waiting yet
unsent-more : (requests later : List Request) (past : List TimedFrame) (id : ℕ) → frames_with past id ≤ length (requests_of requests id)
    → unsent_after (requests ++ later) past id ≡ unsent_after requests past id ++ requests_of later id
unsent-more requests later past id few =
    ap (λ xs. drop (frames_with past id) xs) (filter-append (λ (r : Request). eqb r.frame.identifier id) requests later)
    ∙ drop-append-le (frames_with past id) (requests_of requests id) (requests_of later id) few

waiting-front : (unsent later : List Request) (at : ℕ) (request : Request) → ComeLater at later
    → IsRequestWaiting (unsent ++ later) at request ↔ IsRequestWaiting unsent at request
waiting-front [] [] at request late = (λ waits. waits, λ waits. waits)
waiting-front [] (first ∷ later) at request late = (
  λ waits.
      let is : Some first ≡ Some request = waits.first in
      let same : first ≡ request = cc (is) in
      let high : at < first.at = All-head (λ (r : Request). at < r.at) first later late in
      let low : first.at ≤ at = subst (λ (r : Request). r.at ≤ at) (sym same) waits.arrived in
      absurd (omega arith),
  λ waits. let none : ⊥ = cc (waits.first) in absurd none,
)
waiting-front (one ∷ unsent) later at request late =
    (λ waits. record { first = waits.first; arrived = waits.arrived }, λ waits. record { first = waits.first; arrived = waits.arrived })

pub waiting-later : (requests later : List Request) (past : List TimedFrame) (id at : ℕ) (request : Request)
    → 0x200 ≤ id → WereRequests requests past → ComeLater at later
    → IsRequestWaiting (unsent_after (requests ++ later) past id) at request
    ↔ IsRequestWaiting (unsent_after requests past id) at request
waiting-later requests later past id at request low were late =
    subst (λ xs. IsRequestWaiting xs at request ↔ IsRequestWaiting (unsent_after requests past id) at request)
    (sym (unsent-more requests later past id (were id low)))
    (waiting-front (unsent_after requests past id) (requests_of later id) at request
    (All-filter (λ (r : Request). eqb r.frame.identifier id) (λ (r : Request). at < r.at) later late))

pub may_start-later : (layout : CycleLayout) (c l : ℕ) (requests later : List Request) (past : List TimedFrame) (id at : ℕ) (request : Request)
    → 0x200 ≤ id → WereRequests requests past → ComeLater at later
    → MayStart layout c l (unsent_after (requests ++ later) past id) at request
    ↔ MayStart layout c l (unsent_after requests past id) at request
may_start-later layout c l requests later past id at request low were late =
    let same = waiting-later requests later past id at request low were late in (
      λ may. record { waiting = same.0 may.waiting; allowed = may.allowed },
      λ may. record { waiting = same.1 may.waiting; allowed = may.allowed },
    )

-- forgetting arrivals
pub unsent_of-forgotten : (mail : List Mail) (id : ℕ) → unsent_of (forgotten_mail mail) id ≡ map forgotten (unsent_of mail id)
unsent_of-forgotten [] id = refl
unsent_of-forgotten (box ∷ mail) id =
    unsent_of-cons (forgotten_box box) (forgotten_mail mail) id
    ∙ elim (eqb box.identifier id) as (λ b. cond b (map forgotten box.unsent) (unsent_of (forgotten_mail mail) id) ≡ map forgotten (cond b box.unsent (unsent_of mail id))) [
      | true ↦ refl
      | false ↦ unsent_of-forgotten mail id
    ]
    ∙ ap (λ xs. map forgotten xs) (sym (unsent_of-cons box mail id))

pub map-drop : (n : ℕ) (requests : List Request) → map forgotten (drop n requests) ≡ drop n (map forgotten requests)
map-drop zero requests = refl
map-drop (suc n) [] = refl
map-drop (suc n) (request ∷ requests) = map-drop n requests

box-taken : (id : ℕ) (box : Mail) → forgotten_box (taken_from id box) ≡ taken_from id (forgotten_box box)
box-taken id box =
    elim (eqb box.identifier id) as (λ b. forgotten_box (cond b (record box { unsent = drop 1 box.unsent }) box)
    ≡ cond b (record (forgotten_box box) { unsent = drop 1 (map forgotten box.unsent) }) (forgotten_box box)) [
      | true ↦ ap {B = Mail} (λ xs. record { identifier = box.identifier; unsent = xs }) (map-drop 1 box.unsent)
      | false ↦ refl
    ]

pub forgotten-without : (id : ℕ) (mail : List Mail) → forgotten_mail (without_first id mail) ≡ without_first id (forgotten_mail mail)
forgotten-without id [] = refl
forgotten-without id (box ∷ mail) =
    ap (λ first. first ∷ forgotten_mail (without_first id mail)) (box-taken id box)
    ∙ ap (λ later. taken_from id (forgotten_box box) ∷ later) (forgotten-without id mail)

map-push : (requests : List Request) (request : Request) → map forgotten (requests ++ request ∷ []) ≡ map forgotten requests ++ forgotten request ∷ []
map-push [] request = refl
map-push (first ∷ requests) request = ap (λ later. forgotten first ∷ later) (map-push requests request)

box-with : (request : Request) (box : Mail) → forgotten_box (with_request request box) ≡ with_request (forgotten request) (forgotten_box box)
box-with request box =
    elim (eqb box.identifier request.frame.identifier) as (λ b. forgotten_box (cond b (with_last request box) box)
    ≡ cond b (with_last (forgotten request) (forgotten_box box)) (forgotten_box box)) [
      | true ↦ ap {B = Mail} (λ xs. record { identifier = box.identifier; unsent = xs }) (map-push box.unsent request)
      | false ↦ refl
    ]

pub forgotten-with : (request : Request) (mail : List Mail)
    → forgotten_mail (map (with_request request) mail) ≡ map (with_request (forgotten request)) (forgotten_mail mail)
forgotten-with request [] = refl
forgotten-with request (box ∷ mail) =
    ap (λ first. first ∷ forgotten_mail (map (with_request request) mail)) (box-with request box)
    ∙ ap (λ later. with_request (forgotten request) (forgotten_box box) ∷ later) (forgotten-with request mail)

may_start-forgotten : (layout : CycleLayout) (c l at : ℕ) (unsent : List Request) → HaveArrived at unsent
    → may_start layout c l at (map forgotten unsent) ≡ may_start layout c l at unsent
may_start-forgotten layout c l at [] arrived = refl
may_start-forgotten layout c l at (request ∷ later) arrived =
    let here : request.at ≤ at = All-head (λ (r : Request). r.at ≤ at) request later arrived in
    let yes : nat_le request.at at ≡ true = grind (arith, nat_tests) in
    let none : nat_le 0 at ≡ true = grind (arith, nat_tests) in
    ap (λ b. b && (nat_le (async_open layout c) at && nat_le (at + worst (length request.frame.bytes)) (sync_start layout c l))) (none ∙ sym yes)

-- what is offered where all unsent requests have arrived
same-filtered : (layout : CycleLayout) (c l at : ℕ) (mail : List Mail) → All (λ box. HaveArrived at box.unsent) mail
    → map (λ box. box.identifier) (filter (λ box. may_start layout c l at box.unsent) (forgotten_mail mail))
    ≡ map (λ box. box.identifier) (filter (λ box. may_start layout c l at box.unsent) mail)
same-filtered layout c l at [] arrived = refl
same-filtered layout c l at (box ∷ mail) arrived =
    let rest = same-filtered layout c l at mail (All-tail (λ (b : Mail). HaveArrived at b.unsent) box mail arrived) in
    let here = may_start-forgotten layout c l at box.unsent (All-head (λ (b : Mail). HaveArrived at b.unsent) box mail arrived) in
    ap (λ b. map (λ (x : Mail). x.identifier) (cond b (forgotten_box box ∷ filter (λ (x : Mail). may_start layout c l at x.unsent) (forgotten_mail mail))
    (filter (λ (x : Mail). may_start layout c l at x.unsent) (forgotten_mail mail)))) here
    ∙ elim (may_start layout c l at box.unsent) as (λ b.
    map (λ (x : Mail). x.identifier) (cond b (forgotten_box box ∷ filter (λ (x : Mail). may_start layout c l at x.unsent) (forgotten_mail mail))
    (filter (λ (x : Mail). may_start layout c l at x.unsent) (forgotten_mail mail)))
    ≡ map (λ (x : Mail). x.identifier) (cond b (box ∷ filter (λ (x : Mail). may_start layout c l at x.unsent) mail)
    (filter (λ (x : Mail). may_start layout c l at x.unsent) mail))) [
      | true ↦ ap (λ later. box.identifier ∷ later) rest
      | false ↦ rest
    ]

pub mail_offer-forgotten : (layout : CycleLayout) (l at : ℕ) (mail : List Mail) → All (λ box. HaveArrived at box.unsent) mail
    → mail_offer layout l (forgotten_mail mail) at ≡ mail_offer layout l mail at
mail_offer-forgotten layout l at mail arrived = ap least_of (same-filtered layout (at / layout.cycle) l at mail arrived)

-- what is offered does not change with requests that come later
may_start-more : (layout : CycleLayout) (c l at : ℕ) (unsent more : List Request) → ComeLater at more
    → may_start layout c l at (unsent ++ more) ≡ may_start layout c l at unsent
may_start-more layout c l at [] [] late = refl
may_start-more layout c l at [] (first ∷ more) late =
    let high : at < first.at = All-head (λ (r : Request). at < r.at) first more late in
    let none : nat_le first.at at ≡ false = grind (arith, nat_tests) in
    ap (λ b. b && (nat_le (async_open layout c) at && nat_le (at + worst (length first.frame.bytes)) (sync_start layout c l))) none
may_start-more layout c l at (one ∷ unsent) more late = refl

same-more : (layout : CycleLayout) (c l at : ℕ) (requests later : List Request) (past : List TimedFrame) → WereRequests requests past
    → ComeLater at later → (ids : List ℕ) → All (λ id. 0x200 ≤ id) ids
    → map (λ box. box.identifier) (filter (λ box. may_start layout c l at box.unsent) (mail_after ids (requests ++ later) past))
    ≡ map (λ box. box.identifier) (filter (λ box. may_start layout c l at box.unsent) (mail_after ids requests past))
same-more layout c l at requests later past were late [] low = refl
same-more layout c l at requests later past were late (id ∷ ids) low =
    let rest = same-more layout c l at requests later past were late ids (All-tail (λ n. 0x200 ≤ n) id ids low) in
    let here : may_start layout c l at (unsent_after (requests ++ later) past id) ≡ may_start layout c l at (unsent_after requests past id)
    = ap (λ xs. may_start layout c l at xs) (unsent-more requests later past id (were id (All-head (λ n. 0x200 ≤ n) id ids low)))
    ∙ may_start-more layout c l at (unsent_after requests past id) (requests_of later id)
    (All-filter (λ (r : Request). eqb r.frame.identifier id) (λ (r : Request). at < r.at) later late) in
    let all : List Mail = mail_after ids (requests ++ later) past in
    let some : List Mail = mail_after ids requests past in
    let box : Mail = record { identifier = id; unsent = unsent_after (requests ++ later) past id } in
    let other : Mail = record { identifier = id; unsent = unsent_after requests past id } in
    ap (λ b. map (λ (x : Mail). x.identifier) (cond b (box ∷ filter (λ (x : Mail). may_start layout c l at x.unsent) all)
    (filter (λ (x : Mail). may_start layout c l at x.unsent) all))) here
    ∙ elim (may_start layout c l at (unsent_after requests past id)) as (λ b.
    map (λ (x : Mail). x.identifier) (cond b (box ∷ filter (λ (x : Mail). may_start layout c l at x.unsent) all)
    (filter (λ (x : Mail). may_start layout c l at x.unsent) all))
    ≡ map (λ (x : Mail). x.identifier) (cond b (other ∷ filter (λ (x : Mail). may_start layout c l at x.unsent) some)
    (filter (λ (x : Mail). may_start layout c l at x.unsent) some))) [
      | true ↦ ap (λ later. id ∷ later) rest
      | false ↦ rest
    ]

pub mail_offer-more : (layout : CycleLayout) (l at : ℕ) (ids : List ℕ) (requests later : List Request) (past : List TimedFrame)
    → All (λ id. 0x200 ≤ id) ids → WereRequests requests past → ComeLater at later
    → mail_offer layout l (mail_after ids (requests ++ later) past) at ≡ mail_offer layout l (mail_after ids requests past) at
mail_offer-more layout l at ids requests later past low were late =
    ap least_of (same-more layout (at / layout.cycle) l at requests later past were late ids low)

pub arrived-after : (at : ℕ) (requests : List Request) (past : List TimedFrame) → HaveArrived at requests → (ids : List ℕ)
    → All (λ box. HaveArrived at box.unsent) (mail_after ids requests past)
arrived-after at requests past arrived ids =
    All-map (λ (box : Mail). HaveArrived at box.unsent) (λ id. record { identifier = id; unsent = unsent_after requests past id }) ids
    (λ k d within. All-drop (λ (r : Request). r.at ≤ at) (frames_with past (get_or ids k d)) (requests_of requests (get_or ids k d))
    (All-filter (λ (r : Request). eqb r.frame.identifier (get_or ids k d)) (λ (r : Request). r.at ≤ at) requests arrived))

-- the requests that come later stand behind the others
pub unsent_of-more : (requests later : List Request) (past : List TimedFrame) → WereRequests requests past
    → (ids : List ℕ) → All (λ id. 0x200 ≤ id) ids → (id : ℕ)
    → (more : List Request) × (unsent_of (mail_after ids (requests ++ later) past) id ≡ unsent_of (mail_after ids requests past) id ++ more)
unsent_of-more requests later past were [] low id = ([], refl)
unsent_of-more requests later past were (first ∷ ids) low id =
    let box : Mail = record { identifier = first; unsent = unsent_after (requests ++ later) past first } in
    let other : Mail = record { identifier = first; unsent = unsent_after requests past first } in
    elim (eqb_tells first id) [
      | inl here ↦ (
        requests_of later first,
        unsent_of-here box (mail_after ids (requests ++ later) past) id here.1
            ∙ unsent-more requests later past first (were first (All-head (λ n. 0x200 ≤ n) first ids low))
            ∙ ap (λ xs. xs ++ requests_of later first) (sym (unsent_of-here other (mail_after ids requests past) id here.1)),
      )
      | inr apart ↦
          let rest = unsent_of-more requests later past were ids (All-tail (λ n. 0x200 ≤ n) first ids low) id in (
            rest.0,
            unsent_of-later box (mail_after ids (requests ++ later) past) id apart.1
                ∙ rest.1
                ∙ ap (λ xs. xs ++ rest.0) (sym (unsent_of-later other (mail_after ids requests past) id apart.1)),
          )
    ]
