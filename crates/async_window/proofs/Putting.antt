-- A request that is put behind the unsent ones of its identifier, while the mailboxes are in use.
use Rattle.std.proofs.Common.{Bool, true, false, ◌≡◌, ◌≢◌, ◌↔◌, ℕ, suc, ◌+◌, ◌^◌, ◌<◌, ◌≤◌, cond, Some, eqb, List, [], ◌∷◌, ◌++◌, length, get_or, set, map, All, AllPairs, Contains, inl, inr, refl, sym, ap, ◌∙◌, subst, arith}
use Rattle.std.proofs.lemmas.Grind.{common_steps}
use Rattle.std.proofs.lemmas.Bool.{cases_lt, eq-eqb, ne_eqb}
use Rattle.std.proofs.lemmas.Bool.Decides.{eqb_tells, nat_tests}
use Rattle.std.proofs.lemmas.List.{get_or-map, length-append, length-map}
use Rattle.std.proofs.lemmas.List.Elements.{All-map, All-push, Contains-get_or}
use Rattle.std.proofs.lemmas.List.Sums.{sum_by-cons, sum_by-append}
use Rattle.std.specs.List.{slice_get}
use Rattle.std.specs.Prelude.{nat_lt, ◌&&◌, Result, Ok, Err, IfOk, OnErr}
use Rattle.async_window.specs.declared.request.Request.{Request}
use Rattle.async_window.specs.Mailbox.{Mail, IsMail, unsent_of, left}
use Rattle.async_window.specs.Adding.{with_request}
use Rattle.async_window.specs.Tournament.{Notes, TellFirsts, arrival_within, first_length}
use Rattle.async_window.specs.Sorted.{AreBoxesSorted, AreShort, IsPlaceOf, mail_of}
use Rattle.async_window.proofs.Unsent.{AllPairs-map, Contains-later, unsent_of-here, unsent_of-later}
use Rattle.async_window.proofs.Table.{few-rising, no_place, place-identifier, unsent_of-at}
use Rattle.async_window.proofs.Steps.{with_request-at}
use Rattle.async_window.proofs.Telling.{TellFirsts-noted}

-- a mailbox with a request behind the others
abbrev pub with_last : Request → Mail → Mail
with_last request box = record box { unsent = box.unsent ++ request ∷ [] }

pub with_request-keeps : (P : Mail → Type 0) (request : Request) (box : Mail)
    → (box.identifier ≡ request.frame.identifier → P (with_last request box)) → P box → P (with_request request box)
with_request-keeps P request box put kept =
    elim (eqb_tells box.identifier request.frame.identifier) [
      | inl here ↦ subst (λ b. P (cond b (with_last request box) box)) (sym here.0) (put here.1)
      | inr later ↦ subst (λ b. P (cond b (with_last request box) box)) (sym later.0) kept
    ]

pub with_request-identifier : (request : Request) (box : Mail) → (with_request request box).identifier ≡ box.identifier
with_request-identifier request box =
    with_request-keeps (λ kept. kept.identifier ≡ box.identifier) request box (λ _. refl) refl

pub with_request-identifiers : (request : Request) (mail : List Mail)
    → map (λ box. box.identifier) (map (with_request request) mail) ≡ map (λ box. box.identifier) mail
with_request-identifiers request [] = refl
with_request-identifiers request (box ∷ mail) =
    ap (λ first. first ∷ map (λ x. x.identifier) (map (with_request request) mail)) (with_request-identifier request box)
    ∙ ap (λ later. box.identifier ∷ later) (with_request-identifiers request mail)

-- what an identifier has then
pub unsent_of-own : (request : Request) (mail : List Mail) → Contains (map (λ box. box.identifier) mail) request.frame.identifier
    → unsent_of (map (with_request request) mail) request.frame.identifier ≡ unsent_of mail request.frame.identifier ++ request ∷ []
unsent_of-own request [] (k, within, same) = absurd (omega arith)
unsent_of-own request (box ∷ mail) among =
    let id : ℕ = request.frame.identifier in
    let head = with_request-identifier request box in
    elim (eqb_tells box.identifier id) [
      | inl here ↦ unsent_of-here (with_request request box) (map (with_request request) mail) id (head ∙ here.1)
          ∙ ap (λ b. (cond b (with_last request box) box).unsent) here.0
          ∙ ap (λ xs. xs ++ request ∷ []) (sym (unsent_of-here box mail id here.1))
      | inr later ↦ unsent_of-later (with_request request box) (map (with_request request) mail) id (λ e. later.1 (sym head ∙ e))
          ∙ unsent_of-own request mail (Contains-later box.identifier (map (λ x. x.identifier) mail) id later.1 among)
          ∙ ap (λ xs. xs ++ request ∷ []) (sym (unsent_of-later box mail id later.1))
    ]

pub unsent_of-other : (request : Request) (mail : List Mail) (other : ℕ) → other ≢ request.frame.identifier
    → unsent_of (map (with_request request) mail) other ≡ unsent_of mail other
unsent_of-other request [] other apart = refl
unsent_of-other request (box ∷ mail) other apart =
    let head = with_request-identifier request box in
    elim (eqb_tells box.identifier other) [
      | inl here ↦ unsent_of-here (with_request request box) (map (with_request request) mail) other (head ∙ here.1)
          ∙ ap (λ b. (cond b (with_last request box) box).unsent) (ne_eqb box.identifier request.frame.identifier (λ e. apart (sym here.1 ∙ e)))
          ∙ sym (unsent_of-here box mail other here.1)
      | inr later ↦ unsent_of-later (with_request request box) (map (with_request request) mail) other (λ e. later.1 (sym head ∙ e))
          ∙ unsent_of-other request mail other apart
          ∙ sym (unsent_of-later box mail other later.1)
    ]

pub IsMail-with : (request : Request) (mail : List Mail) → IsMail mail → request.at < 2 ^ 40 → IsMail (map (with_request request) mail)
IsMail-with request mail known early = record {
  distinct = AllPairs-map (λ one other. one.identifier ≢ other.identifier) (with_request request) mail (λ box. box)
      (λ i j d before within same. grind (arith, with_request-identifier));
  least = All-map (λ box. 0x200 ≤ box.identifier) (with_request request) mail
      (λ k d within. with_request-keeps (λ box. 0x200 ≤ box.identifier) request (get_or mail k d) (λ _. known.least k d within) (known.least k d within));
  greatest = All-map (λ box. box.identifier ≤ 0x7EF) (with_request request) mail
      (λ k d within. with_request-keeps (λ box. box.identifier ≤ 0x7EF) request (get_or mail k d) (λ _. known.greatest k d within) (known.greatest k d within));
  own = All-map (λ box. All (λ r. r.frame.identifier ≡ box.identifier) box.unsent) (with_request request) mail
      (λ k d within. with_request-keeps (λ box. All (λ r. r.frame.identifier ≡ box.identifier) box.unsent) request (get_or mail k d)
      (λ same. All-push (λ (r : Request). r.frame.identifier ≡ (get_or mail k d).identifier) (get_or mail k d).unsent request (known.own k d within) (sym same)) (known.own k d within));
  early = All-map (λ box. All (λ r. r.at < 2 ^ 40) box.unsent) (with_request request) mail
      (λ k d within. with_request-keeps (λ box. All (λ r. r.at < 2 ^ 40) box.unsent) request (get_or mail k d)
      (λ _. All-push (λ (r : Request). r.at < 2 ^ 40) (get_or mail k d).unsent request (known.early k d within) early) (known.early k d within));
}

-- one request more is left
left-other : (request : Request) (mail : List Mail)
    → ((k : ℕ) (d : Mail) → k < length mail → (get_or mail k d).identifier ≢ request.frame.identifier)
    → left (map (with_request request) mail) ≡ left mail
left-other request [] none = refl
left-other request (box ∷ mail) none =
    sum_by-cons (λ (x : Mail). length x.unsent) (with_request request box) (map (with_request request) mail)
    ∙ ap (λ b. length (cond b (with_last request box) box).unsent + left (map (with_request request) mail))
    (ne_eqb box.identifier request.frame.identifier (none 0 box (omega arith)))
    ∙ ap (λ n. length box.unsent + n) (left-other request mail (λ k d within. none (suc k) d (omega arith)))
    ∙ sym (sum_by-cons (λ (x : Mail). length x.unsent) box mail)

pub left-with : (request : Request) (mail : List Mail) → AllPairs (λ one other. one.identifier ≢ other.identifier) mail
    → Contains (map (λ box. box.identifier) mail) request.frame.identifier
    → left (map (with_request request) mail) ≡ left mail + 1
left-with request [] distinct (k, within, same) = absurd (omega arith)
left-with request (box ∷ mail) distinct among =
    let id : ℕ = request.frame.identifier in
    let whole : left (box ∷ mail) ≡ length box.unsent + left mail = sum_by-cons (λ (x : Mail). length x.unsent) box mail in
    let put : left (map (with_request request) (box ∷ mail)) ≡ length (with_request request box).unsent + left (map (with_request request) mail)
    = sum_by-cons (λ (x : Mail). length x.unsent) (with_request request box) (map (with_request request) mail) in
    elim (eqb_tells box.identifier id) [
      | inl here ↦
          let more : length (with_request request box).unsent ≡ length (box.unsent ++ request ∷ [])
          = ap (λ b. length (cond b (with_last request box) box).unsent) here.0 in
          let rest : left (map (with_request request) mail) ≡ left mail
          = left-other request mail (λ k e inside is. distinct 0 (suc k) e (omega arith) (omega arith) (here.1 ∙ sym is)) in
          omega (arith, length-append box.unsent (request ∷ []))
      | inr later ↦
          let same : length (with_request request box).unsent ≡ length box.unsent
          = ap (λ b. length (cond b (with_last request box) box).unsent) later.0 in
          let rest : left (map (with_request request) mail) ≡ left mail + 1
          = left-with request mail (λ i j e before inside. distinct (suc i) (suc j) e (omega arith) (omega arith))
          (Contains-later box.identifier (map (λ x. x.identifier) mail) id later.1 among) in
          omega arith
    ]

-- the same seen by identifiers
pub mail_of-with : (request : Request) (boxes : List Mail) (ids : List ℕ) → Contains (map (λ box. box.identifier) boxes) request.frame.identifier
    → mail_of ids (map (with_request request) boxes) ≡ map (with_request request) (mail_of ids boxes)
mail_of-with request boxes [] among = refl
mail_of-with request boxes (first ∷ ids) among =
    let box : Mail = record { identifier = first; unsent = unsent_of boxes first } in
    let head : record { identifier = first; unsent = unsent_of (map (with_request request) boxes) first } ≡ with_request request box
    = elim (eqb_tells first request.frame.identifier) [
      | inl same ↦
          ap {B = Mail} (λ n. record { identifier = first; unsent = unsent_of (map (with_request request) boxes) n }) same.1
          ∙ ap {B = Mail} (λ unsent. record { identifier = first; unsent = unsent }) (unsent_of-own request boxes among)
          ∙ ap {B = Mail} (λ n. record { identifier = first; unsent = unsent_of boxes n ++ request ∷ [] }) (sym same.1)
          ∙ ap (λ b. cond b (with_last request box) box) (sym same.0)
      | inr apart ↦
          ap {B = Mail} (λ unsent. record { identifier = first; unsent = unsent }) (unsent_of-other request boxes first apart.1)
          ∙ ap (λ b. cond b (with_last request box) box) (sym apart.0)
    ] in
    ap (λ x. x ∷ mail_of ids (map (with_request request) boxes)) head
    ∙ ap (λ later. with_request request box ∷ later) (mail_of-with request boxes ids among)

pub mail_of-identifiers : (boxes : List Mail) (ids : List ℕ) → map (λ box. box.identifier) (mail_of ids boxes) ≡ ids
mail_of-identifiers boxes [] = refl
mail_of-identifiers boxes (id ∷ ids) = ap (λ later. id ∷ later) (mail_of-identifiers boxes ids)

-- `new` is written over the mailbox at a place, with the request behind the others
pub set-put : (request : Request) (mail : List Mail) (place : ℕ) (box new : Mail)
    → AllPairs (λ one other. one.identifier ≢ other.identifier) mail → place < length mail
    → ((d : Mail) → (get_or mail place d).identifier ≡ request.frame.identifier) → box ≡ get_or mail place box
    → new ≡ record { identifier = box.identifier; unsent = box.unsent ++ request ∷ [] }
    → set mail place new ≡ map (with_request request) mail
set-put request mail place box new distinct within own read written =
    ap (λ x. set mail place x) (written ∙ ap (λ (x : Mail). with_last request x) read)
    ∙ sym (with_request-at request mail place box distinct within (own box))

-- whether there is room, where few requests are left
pub room-is : (answer : Bool) (remaining many room : ℕ) → remaining < 2 ^ 32 → answer ≡ nat_lt many room
    → answer ≡ (nat_lt remaining (2 ^ 32) && nat_lt many room)
room-is answer remaining many room few is = grind (arith, nat_tests)

pub room-none : (remaining many room : ℕ) → 2 ^ 32 ≤ remaining → false ≡ (nat_lt remaining (2 ^ 32) && nat_lt many room)
room-none remaining many room many_left = grind (arith, nat_tests)

module _ (ids : List ℕ) (boxes : List Mail) (table arrivals lengths : List ℕ) (remaining : ℕ)
    (kept : AreBoxesSorted ids boxes table arrivals lengths remaining) (id place : ℕ) (is : IsPlaceOf table id place) where
  few : length boxes ≤ 2048
  few = few-rising boxes kept.rising kept.known.greatest

  -- an identifier has a mailbox where its place is that of one
  pub among-within : Contains (map (λ box. box.identifier) boxes) id → place < length boxes
  among-within (k, inside, same) =
      elim (cases_lt place (length boxes)) [
        | inl within ↦ within
        | inr past ↦
            let d : Mail = record { identifier = 0; unsent = [] } in
            let below : k < length boxes = omega (arith, length-map boxes (λ (box : Mail). box.identifier)) in
            absurd (no_place boxes table id place few kept.places is kept.known.greatest past k d below
            (sym (get_or-map (λ (box : Mail). box.identifier) boxes k d _ below) ∙ same))
      ]

  pub within-among : place < length boxes → Contains (map (λ box. box.identifier) boxes) id
  within-among within =
      let d : Mail = record { identifier = 0; unsent = [] } in
      let here : place < length (map (λ (box : Mail). box.identifier) boxes) = omega (arith, length-map boxes (λ (box : Mail). box.identifier)) in
      subst (λ n. Contains (map (λ (box : Mail). box.identifier) boxes) n)
      (get_or-map (λ (box : Mail). box.identifier) boxes place d 0 within ∙ place-identifier boxes table id place few kept.places is d within)
      (Contains-get_or (map (λ (box : Mail). box.identifier) boxes) place 0 here)

  pub has-place : (place < length boxes) ↔ Contains (map (λ box. box.identifier) (mail_of ids boxes)) id
  has-place =
      let same = mail_of-identifiers boxes ids in (
        λ within. subst (λ (xs : List ℕ). Contains xs id) (sym same) ((kept.owned id).1 (within-among within)),
        λ among. among-within ((kept.owned id).0 (subst (λ (xs : List ℕ). Contains xs id) same among)),
      )

  pub among-boxes : Contains (map (λ box. box.identifier) (mail_of ids boxes)) id → Contains (map (λ box. box.identifier) boxes) id
  among-boxes among = (kept.owned id).0 (subst (λ (xs : List ℕ). Contains xs id) (mail_of-identifiers boxes ids) among)

  module _ (request : Request) (own : request.frame.identifier ≡ id) (early : request.at < 2 ^ 40)
      (short : length request.frame.bytes ≤ 8) (among : Contains (map (λ box. box.identifier) (mail_of ids boxes)) id)
      (new : List Mail) (put : new ≡ map (with_request request) boxes) where
    among-own : Contains (map (λ box. box.identifier) boxes) request.frame.identifier
    among-own = subst (λ n. Contains (map (λ (box : Mail). box.identifier) boxes) n) (sym own) (among-boxes among)

    pub mail-put : mail_of ids new ≡ map (with_request request) (mail_of ids boxes)
    mail-put = ap (λ mail. mail_of ids mail) put ∙ mail_of-with request boxes ids among-own

    identifiers-put : map (λ box. box.identifier) new ≡ map (λ box. box.identifier) boxes
    identifiers-put = ap (λ (mail : List Mail). map (λ x. x.identifier) mail) put ∙ with_request-identifiers request boxes

    pub AreKept-put : (arrivals-now lengths-now : List ℕ) → Notes (arrival_within 8) new place arrivals arrivals-now → Notes first_length new place lengths lengths-now
        → AreBoxesSorted ids new table arrivals-now lengths-now (remaining + 1)
    AreKept-put arrivals-now lengths-now arrive_now long_now = record {
      mail = subst IsMail (sym mail-put) (IsMail-with request (mail_of ids boxes) kept.mail early);
      same = λ other. same-put other;
      known = subst IsMail (sym put) (IsMail-with request boxes kept.known early);
      rising = subst (λ (mail : List Mail). AllPairs (λ one other. one.identifier < other.identifier) mail) (sym put)
          (AllPairs-map (λ (one other : Mail). one.identifier < other.identifier) (with_request request) boxes (λ box. box)
          (λ i j d before within.
          subst (λ n. n < (with_request request (get_or boxes j d)).identifier) (sym (with_request-identifier request (get_or boxes i d)))
          (subst (λ n. (get_or boxes i d).identifier < n) (sym (with_request-identifier request (get_or boxes j d))) (kept.rising i j d before within))));
      owned = λ n. subst (λ (xs : List ℕ). Contains ids n ↔ Contains xs n) (sym identifiers-put) (kept.owned n);
      short = subst (λ (mail : List Mail). All (λ x. AreShort x.unsent) mail) (sym put)
          (All-map (λ (x : Mail). AreShort x.unsent) (with_request request) boxes
          (λ k d within. with_request-keeps (λ x. AreShort x.unsent) request (get_or boxes k d)
          (λ _. All-push (λ (r : Request). length r.frame.bytes ≤ 8) (get_or boxes k d).unsent request (kept.short k d within) short)
          (kept.short k d within)));
      long = kept.long;
      places = λ n at below under.
          subst (λ xs. (slice_get table n ≡ Some at) ↔ (slice_get xs at ≡ Some n)) (sym identifiers-put) (kept.places n at below under);
      firsts = firsts-put;
      counted = counted-put;
    }
      where
        same-put : (other : ℕ) → unsent_of (mail_of ids new) other ≡ unsent_of new other
        same-put other =
            ap (λ mail. unsent_of mail other) mail-put
            ∙ elim (eqb_tells other request.frame.identifier) [
              | inl here ↦
                  ap (λ n. unsent_of (map (with_request request) (mail_of ids boxes)) n) here.1
                  ∙ unsent_of-own request (mail_of ids boxes) (subst (λ n. Contains (map (λ (x : Mail). x.identifier) (mail_of ids boxes)) n) (sym own) among)
                  ∙ ap (λ xs. xs ++ request ∷ []) (kept.same request.frame.identifier)
                  ∙ sym (unsent_of-own request boxes among-own)
                  ∙ ap (λ n. unsent_of (map (with_request request) boxes) n) (sym here.1)
                  ∙ ap (λ mail. unsent_of mail other) (sym put)
              | inr apart ↦
                  unsent_of-other request (mail_of ids boxes) other apart.1
                  ∙ kept.same other
                  ∙ sym (unsent_of-other request boxes other apart.1)
                  ∙ ap (λ mail. unsent_of mail other) (sym put)
            ]

        within : place < length boxes
        within = among-within (among-boxes among)

        nobody : Mail
        nobody = record { identifier = 0; unsent = [] }

        box : Mail
        box = with_last request (get_or boxes place nobody)

        is_set : new ≡ set boxes place box
        is_set =
            put ∙ with_request-at request boxes place nobody kept.known.distinct within
            (place-identifier boxes table id place few kept.places is nobody within ∙ sym own)

        firsts-put : TellFirsts (length new) new arrivals-now lengths-now
        firsts-put =
            subst (λ (mail : List Mail). TellFirsts (length mail) mail arrivals-now lengths-now) (sym is_set)
            (TellFirsts-noted place box boxes arrivals lengths arrivals-now lengths-now
            (subst (λ (mail : List Mail). Notes (arrival_within 8) mail place arrivals arrivals-now) is_set arrive_now)
            (subst (λ (mail : List Mail). Notes first_length mail place lengths lengths-now) is_set long_now)
            within kept.firsts)

        counted-put : remaining + 1 ≡ left (mail_of ids new)
        counted-put =
            ap (λ n. n + 1) kept.counted
            ∙ sym (left-with request (mail_of ids boxes) kept.mail.distinct
            (subst (λ n. Contains (map (λ (x : Mail). x.identifier) (mail_of ids boxes)) n) (sym own) among))
            ∙ ap left (sym mail-put)

-- mail into which a request was put, or not
pub IsMail-put : {F : Type 0} (answer : Result Bool F) (request : Request) (old new : List Mail) → IsMail old → request.at < 2 ^ 40
    → IfOk answer (λ put. put ≡ true → new ≡ map (with_request request) old) → IfOk answer (λ put. put ≡ false → new ≡ old)
    → OnErr answer (new ≡ old) → IsMail new
IsMail-put (Ok true) request old new known early put full same = subst IsMail (sym (put refl)) (IsMail-with request old known early)
IsMail-put (Ok false) request old new known early put full same = subst IsMail (sym (full refl)) known
IsMail-put (Err fault) request old new known early put full same = subst IsMail (sym same) known
