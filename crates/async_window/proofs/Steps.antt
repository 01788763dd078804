-- A step that changes the mailbox of one identifier, and the mail after it.
use Rattle.std.proofs.Common.{◌≡◌, ◌≢◌, ◌↔◌, ℕ, zero, suc, ◌+◌, ◌^◌, ◌<◌, ◌≤◌, cond, eqb, Some, List, [], ◌∷◌, ◌++◌, length, get_or, set, take, drop, map, All, AllPairs, inl, inr, refl, sym, ap, ◌∙◌, subst, arith}
use Rattle.std.proofs.lemmas.Grind.{common_steps}
use Rattle.std.specs.List.{slice_get}
use Rattle.std.specs.Option.{IsSome}
use Rattle.std.proofs.lemmas.Bool.{eq-eqb, ne_eqb, false≢true}
use Rattle.std.proofs.lemmas.Bool.Decides.{eqb_tells}
use Rattle.std.proofs.lemmas.List.{append-nil, length-drop, take_more}
use Rattle.std.proofs.lemmas.List.Elements.{filter-append, All-take, All-push}
use Rattle.std.proofs.lemmas.List.Sums.{sum_by-cons}
use Rattle.can_frame.specs.declared.data_frame.TimedFrame.{TimedFrame}
use Rattle.async_window.specs.declared.request.Request.{Request}
use Rattle.async_window.specs.Waiting.{requests_of, unsent_after}
use Rattle.async_window.specs.Mailbox.{Mail, IsMail, mail_after, unsent_of, without_first, left}
use Rattle.async_window.specs.Adding.{with_request}
use Rattle.async_window.specs.Sorted.{nowhere, AreShort, IsPlaceTable}
use Rattle.async_window.proofs.Unsent.{AllPairs-map, IsMail-after, unsent_of-here, unsent_of-later}

-- a change of the mailbox of an identifier
abbrev changed : (Mail → Mail) → ℕ → Mail → Mail
changed f id box = cond (eqb box.identifier id) (f box) box

map-elsewhere : (f : Mail → Mail) (id : ℕ) (mail : List Mail) → ((k : ℕ) (d : Mail) → k < length mail → (get_or mail k d).identifier ≢ id)
    → map (changed f id) mail ≡ mail
map-elsewhere f id [] none = refl
map-elsewhere f id (box ∷ mail) none =
    ap (λ b. cond b (f box) box ∷ map (changed f id) mail) (ne_eqb box.identifier id (none 0 box (omega arith)))
    ∙ ap (λ later. box ∷ later) (map-elsewhere f id mail (λ k d within. none (suc k) d (omega arith)))

map-at : (f : Mail → Mail) (id : ℕ) (mail : List Mail) (place : ℕ) (d : Mail)
    → AllPairs (λ one other. one.identifier ≢ other.identifier) mail → place < length mail → (get_or mail place d).identifier ≡ id
    → map (changed f id) mail ≡ set mail place (f (get_or mail place d))
map-at f id [] place d distinct within same = refl
map-at f id (box ∷ mail) zero d distinct within same =
    ap (λ b. cond b (f box) box ∷ map (changed f id) mail) (eq-eqb box.identifier id same)
    ∙ ap (λ later. f box ∷ later) (map-elsewhere f id mail (λ k e inside is. distinct 0 (suc k) e (omega arith) (omega arith) (same ∙ sym is)))
map-at f id (box ∷ mail) (suc place) d distinct within same =
    ap (λ b. cond b (f box) box ∷ map (changed f id) mail)
    (ne_eqb box.identifier id (λ is. distinct 0 (suc place) d (omega arith) within (is ∙ sym same)))
    ∙ ap (λ later. box ∷ later)
    (map-at f id mail place d (λ i j e before inside. distinct (suc i) (suc j) e (omega arith) (omega arith)) (omega arith) same)

pub without_first-at : (id : ℕ) (mail : List Mail) (place : ℕ) (d : Mail)
    → AllPairs (λ one other. one.identifier ≢ other.identifier) mail → place < length mail → (get_or mail place d).identifier ≡ id
    → without_first id mail ≡ set mail place (record (get_or mail place d) { unsent = drop 1 (get_or mail place d).unsent })
without_first-at id mail place d distinct within same =
    map-at (λ box. record box { unsent = drop 1 box.unsent }) id mail place d distinct within same

pub with_request-at : (request : Request) (mail : List Mail) (place : ℕ) (d : Mail)
    → AllPairs (λ one other. one.identifier ≢ other.identifier) mail → place < length mail
    → (get_or mail place d).identifier ≡ request.frame.identifier
    → map (with_request request) mail ≡ set mail place (record (get_or mail place d) { unsent = (get_or mail place d).unsent ++ request ∷ [] })
with_request-at request mail place d distinct within same =
    map-at (λ box. record box { unsent = box.unsent ++ request ∷ [] }) request.frame.identifier mail place d distinct within same

pub with_request-elsewhere : (request : Request) (mail : List Mail)
    → ((k : ℕ) (d : Mail) → k < length mail → (get_or mail k d).identifier ≢ request.frame.identifier)
    → map (with_request request) mail ≡ mail
with_request-elsewhere request mail none = map-elsewhere (λ box. record box { unsent = box.unsent ++ request ∷ [] }) request.frame.identifier mail none

some-not_empty : (requests : List Request) → IsSome (slice_get requests 0) → 0 < length requests
some-not_empty requests some = grind (arith, common_steps, false≢true)

pub left-without : (id : ℕ) (mail : List Mail) → AllPairs (λ one other. one.identifier ≢ other.identifier) mail
    → IsSome (slice_get (unsent_of mail id) 0) → left (without_first id mail) + 1 ≡ left mail
left-without id [] distinct some = absurd (false≢true some)
left-without id (box ∷ mail) distinct some =
    let whole : left (box ∷ mail) ≡ length box.unsent + left mail = sum_by-cons (λ (x : Mail). length x.unsent) box mail in
    elim (eqb_tells box.identifier id) [
      | inl here ↦
          let taken : Mail = record box { unsent = drop 1 box.unsent } in
          let not_empty : 0 < length box.unsent
          = some-not_empty box.unsent (subst (λ xs. IsSome (slice_get xs 0)) (unsent_of-here box mail id here.1) some) in
          let first : without_first id (box ∷ mail) ≡ taken ∷ mail
          = ap (λ b. cond b taken box ∷ without_first id mail) here.0
          ∙ ap (λ later. taken ∷ later)
          (map-elsewhere (λ x. record x { unsent = drop 1 x.unsent }) id mail
          (λ k e inside is. distinct 0 (suc k) e (omega arith) (omega arith) (here.1 ∙ sym is))) in
          let fewer : left (taken ∷ mail) ≡ length (drop 1 box.unsent) + left mail = sum_by-cons (λ (x : Mail). length x.unsent) taken mail in
          let count : left (without_first id (box ∷ mail)) ≡ length (drop 1 box.unsent) + left mail = ap left first ∙ fewer in
          omega (arith, length-drop 1 box.unsent)
      | inr later ↦
          let first : without_first id (box ∷ mail) ≡ box ∷ without_first id mail
          = ap (λ b. cond b (record box { unsent = drop 1 box.unsent }) box ∷ without_first id mail) later.0 in
          let rest : left (box ∷ without_first id mail) ≡ length box.unsent + left (without_first id mail)
          = sum_by-cons (λ (x : Mail). length x.unsent) box (without_first id mail) in
          let count : left (without_first id (box ∷ mail)) ≡ length box.unsent + left (without_first id mail) = ap left first ∙ rest in
          let fewer : left (without_first id mail) + 1 ≡ left mail
          = left-without id mail (λ i j e before inside. distinct (suc i) (suc j) e (omega arith) (omega arith))
          (subst (λ xs. IsSome (slice_get xs 0)) (unsent_of-later box mail id later.1) some) in
          omega arith
    ]

-- one request more
mail_at-push : (requests : List Request) (request : Request) (id : ℕ)
    → record { identifier = id; unsent = requests_of (requests ++ request ∷ []) id }
    ≡ with_request request (record { identifier = id; unsent = requests_of requests id })
mail_at-push requests request id = grind (arith, filter-append, eqb, eqb_tells, eq-eqb, ne_eqb, append-nil)

pub mail_after-push : (ids : List ℕ) (requests : List Request) (request : Request)
    → mail_after ids (requests ++ request ∷ []) [] ≡ map (with_request request) (mail_after ids requests [])
mail_after-push [] requests request = refl
mail_after-push (id ∷ ids) requests request =
    ap (λ first. first ∷ mail_after ids (requests ++ request ∷ []) []) (mail_at-push requests request id)
    ∙ ap (λ later. with_request request (record { identifier = id; unsent = requests_of requests id }) ∷ later) (mail_after-push ids requests request)

-- `new` is written over the mailbox of an identifier, at its place, without its first request
pub record SetsFirst (id : ℕ) (mail : List Mail) (place : ℕ) (box new : Mail) : Type 0 where
  pub known : IsMail mail
  pub within : place < length mail
  pub same : (d : Mail) → (get_or mail place d).identifier ≡ id
  pub read : box ≡ get_or mail place box
  pub written : new ≡ record { identifier = box.identifier; unsent = drop 1 box.unsent }

pub set-without_first : (id : ℕ) (mail : List Mail) (place : ℕ) (box new : Mail) → SetsFirst id mail place box new
    → set mail place new ≡ without_first id mail
set-without_first id mail place box new sets = grind (arith, without_first-at)

-- the mailboxes hold the requests so far
pub record HasPut (ids : List ℕ) (requests : List Request) (place : ℕ) (mail : List Mail) (remaining : ℕ) : Type 0 where
  pub put : mail ≡ mail_after ids (take place requests) []
  pub counted : remaining ≡ left mail
  pub few : remaining ≤ place
  pub short : AreShort (take place requests)

left-none : (ids : List ℕ) → left (mail_after ids [] []) ≡ 0
left-none [] = refl
left-none (id ∷ ids) =
    let first : left (mail_after (id ∷ ids) [] []) ≡ 0 + left (mail_after ids [] [])
    = sum_by-cons (λ (box : Mail). length box.unsent) (record { identifier = id; unsent = [] }) (mail_after ids [] []) in
    omega (arith, left-none ids)

pub HasPut-none : (ids : List ℕ) (requests : List Request) (mail : List Mail) → mail ≡ mail_after ids [] [] → HasPut ids requests 0 mail 0
HasPut-none ids requests mail is = grind (arith, left-none)

pub HasPut-more : (ids : List ℕ) (requests : List Request) (i : ℕ) (request : Request) (old new : List Mail) (remaining count : ℕ)
    → i < length requests → request ≡ get_or requests i request → HasPut ids requests i old remaining
    → new ≡ map (with_request request) old → left new ≡ left old + count → count ≤ 1 → length request.frame.bytes ≤ 8
    → HasPut ids requests (i + 1) new (remaining + count)
HasPut-more ids requests i request old new remaining count within is has put counted few short =
    let more : take (i + 1) requests ≡ take i requests ++ request ∷ []
    = take_more requests i request within ∙ ap (λ x. take i requests ++ x ∷ []) (sym is) in
    record {
      put = grind (arith, mail_after-push);
      counted = omega (arith, has.counted);
      few = omega (arith, has.few);
      short = subst AreShort (sym more) (All-push (λ (x : Request). length x.frame.bytes ≤ 8) (take i requests) request has.short short);
    }

pub identifiers-after : (ids : List ℕ) (requests : List Request) (past : List TimedFrame) → map (λ box. box.identifier) (mail_after ids requests past) ≡ ids
identifiers-after [] requests past = refl
identifiers-after (id ∷ ids) requests past = ap (λ later. id ∷ later) (identifiers-after ids requests past)

pub IsMail-put : (ids : List ℕ) (requests : List Request) (i : ℕ) (mail : List Mail) (remaining : ℕ) → AllPairs (λ one other. one ≢ other) ids
    → All (λ id. 0x200 ≤ id) ids → All (λ id. id ≤ 0x7EF) ids → All (λ request. request.at < 2 ^ 40) requests
    → HasPut ids requests i mail remaining → IsMail mail
IsMail-put ids requests i mail remaining distinct least greatest early has =
    subst IsMail (sym has.put)
    (IsMail-after ids (take i requests) [] distinct least greatest (All-take (λ request. request.at < 2 ^ 40) i requests early))

pub IsPlaceTable-put : (ids : List ℕ) (requests : List Request) (i : ℕ) (mail : List Mail) (remaining : ℕ) (table : List ℕ)
    → HasPut ids requests i mail remaining
    → ((id place : ℕ) → id < 2048 → place < nowhere → (slice_get table id ≡ Some place) ↔ (slice_get ids place ≡ Some id))
    → IsPlaceTable mail table
IsPlaceTable-put ids requests i mail remaining table h0 h1 = grind (arith, identifiers-after)

pub rising-put : (ids : List ℕ) (requests : List Request) (i : ℕ) (mail : List Mail) (remaining : ℕ) → AllPairs (λ one other. one < other) ids
    → HasPut ids requests i mail remaining → AllPairs (λ one other. one.identifier < other.identifier) mail
rising-put ids requests i mail remaining rising has =
    subst (λ xs. AllPairs (λ (one other : Mail). one.identifier < other.identifier) xs) (sym has.put)
    (AllPairs-map (λ (one other : Mail). one.identifier < other.identifier)
    (λ id. record { identifier = id; unsent = unsent_after (take i requests) [] id }) ids (λ box. box.identifier) rising)

without_first-none : (id : ℕ) (mail : List Mail) → AllPairs (λ one other. one.identifier ≢ other.identifier) mail → unsent_of mail id ≡ []
    → without_first id mail ≡ mail
without_first-none id [] distinct none = refl
without_first-none id (box ∷ mail) distinct none =
    elim (eqb_tells box.identifier id) [
      | inl here ↦
          let empty : box.unsent ≡ [] = sym (unsent_of-here box mail id here.1) ∙ none in
          let same : drop 1 box.unsent ≡ box.unsent = ap (λ xs. drop 1 xs) empty ∙ sym empty in
          ap (λ b. cond b (record box { unsent = drop 1 box.unsent }) box ∷ without_first id mail) here.0
          ∙ ap (λ unsent. record box { unsent = unsent } ∷ without_first id mail) same
          ∙ ap (λ later. box ∷ later)
          (map-elsewhere (λ x. record x { unsent = drop 1 x.unsent }) id mail
          (λ k e inside is. distinct 0 (suc k) e (omega arith) (omega arith) (here.1 ∙ sym is)))
      | inr later ↦
          ap (λ b. cond b (record box { unsent = drop 1 box.unsent }) box ∷ without_first id mail) later.0
          ∙ ap (λ rest. box ∷ rest)
          (without_first-none id mail (λ i j e before inside. distinct (suc i) (suc j) e (omega arith) (omega arith))
          (sym (unsent_of-later box mail id later.1) ∙ none))
    ]

pub without_first-nothing : (id : ℕ) (mail : List Mail) → IsMail mail → unsent_of mail id ≡ [] → without_first id mail ≡ mail
without_first-nothing id mail known none = without_first-none id mail known.distinct none
