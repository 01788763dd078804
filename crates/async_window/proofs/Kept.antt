-- What holds of kept mailboxes: when they are made, and when a request is taken away.
use Rattle.std.proofs.Common.{◌≡◌, ◌≢◌, ℕ, suc, ◌-◌, ◌^◌, ◌<◌, ◌≤◌, Bool, true, false, eqb, List, [], ◌∷◌, length, get_or, set, drop, map, All, AllPairs, Contains, IsPermutation, ◌⊎◌, ◌↔◌, Some, inl, inr, refl, sym, ap, ◌∙◌, subst, arith}
use Rattle.std.proofs.lemmas.Grind.{common_steps}
use Rattle.std.specs.List.{slice_get}
use Rattle.std.specs.Option.{IsSome, is_some}
use Rattle.std.proofs.lemmas.Bool.{cases_Bool, cases_lt, false≢true}
use Rattle.std.proofs.lemmas.Bool.Decides.{eqb_tells}
use Rattle.std.proofs.lemmas.List.{take_all}
use Rattle.std.proofs.lemmas.List.Elements.{All-map, All-filter, All-drop, Contains-get_or}
use Rattle.std.proofs.lemmas.List.Sorted.{All-permutation, Contains-permutation, IsPermutation-map, IsPermutation-sym, sum_by-IsPermutation}
use Rattle.async_window.specs.declared.request.Request.{Request}
use Rattle.async_window.specs.Waiting.{requests_of, unsent_after}
use Rattle.async_window.specs.Mailbox.{Mail, IsMail, mail_after, unsent_of, taken_from, without_first, left}
use Rattle.async_window.specs.Tournament.{Notes, TellFirsts, arrival_within, first_length}
use Rattle.async_window.specs.Sorted.{AreBoxesSorted, AreShort, IsPlaceOf, mail_of, nowhere}
use Rattle.async_window.proofs.Unsent.{AllPairs-map, Contains-later, IsMail-after, IsMail-without, taken_from-identifier, taken_from-keeps, unsent_of-among, unsent_of-elsewhere, unsent_of-without, without_first-identifiers, without_head}
use Rattle.async_window.proofs.Order.{distinct-permutation}
use Rattle.async_window.proofs.Table.{few-rising, no_place, place-identifier, unsent_of-at, unsent_of-nowhere}
use Rattle.async_window.proofs.Steps.{HasPut, identifiers-after, IsMail-put, IsPlaceTable-put, left-without, rising-put, set-without_first, without_first-nothing}
use Rattle.async_window.proofs.Telling.{TellFirsts-noted}

contains_or : (ids : List ℕ) (id : ℕ) → Contains ids id ⊎ (Contains ids id → ⊥)
contains_or [] id = inr (λ (k, within, same). absurd (omega arith))
contains_or (first ∷ ids) id =
    elim (eqb_tells first id) [
      | inl here ↦ inl (0, omega arith, here.1)
      | inr later ↦ elim (contains_or ids id) [
        | inl among ↦ inl (suc among.0, omega (arith, among.1), among.2)
        | inr none ↦ inr (λ among. none (Contains-later first ids id later.1 among))
      ]
    ]

-- the same requests under the same identifiers in another order
mail_of-after : (sorted : List ℕ) (requests : List Request) (ids : List ℕ) → ((k : ℕ) → k < length ids → Contains sorted (get_or ids k 0))
    → mail_of ids (mail_after sorted requests []) ≡ mail_after ids requests []
mail_of-after sorted requests [] among = refl
mail_of-after sorted requests (id ∷ ids) among =
    ap {B = List Mail} (λ unsent. record { identifier = id; unsent = unsent } ∷ mail_of ids (mail_after sorted requests []))
    (unsent_of-among sorted requests [] id (among 0 (omega arith)))
    ∙ ap (λ later. record { identifier = id; unsent = unsent_after requests [] id } ∷ later)
    (mail_of-after sorted requests ids (λ k within. among (suc k) (omega arith)))

same-after : (sorted : List ℕ) (requests : List Request) (ids : List ℕ) → IsPermutation ids sorted → (id : ℕ)
    → unsent_of (mail_after ids requests []) id ≡ unsent_of (mail_after sorted requests []) id
same-after sorted requests ids moved id =
    elim (contains_or ids id) [
      | inl among ↦ unsent_of-among ids requests [] id among
          ∙ sym (unsent_of-among sorted requests [] id (Contains-permutation ids sorted id moved among))
      | inr none ↦ unsent_of-elsewhere ids requests [] id none
          ∙ sym (unsent_of-elsewhere sorted requests [] id (λ among. none (Contains-permutation sorted ids id (IsPermutation-sym ids sorted moved) among)))
    ]

-- what `new` is given, and what it has made
pub record IsMade (ids sorted : List ℕ) (requests : List Request) : Type 0 where
  pub distinct : AllPairs (λ one other. one ≢ other) ids
  pub least : All (λ id. 0x200 ≤ id) ids
  pub greatest : All (λ id. id ≤ 0x7EF) ids
  pub early : All (λ request. request.at < 2 ^ 40) requests
  pub rising : AllPairs (λ one other. one < other) sorted
  pub moved : IsPermutation ids sorted

module _ (ids sorted : List ℕ) (requests : List Request) (made : IsMade ids sorted requests) where
  pub greatest-made : All (λ id. id ≤ 0x7EF) sorted
  greatest-made = All-permutation (λ id. id ≤ 0x7EF) ids sorted made.moved made.greatest

  pub known-put : (i remaining : ℕ) (boxes : List Mail) → HasPut sorted requests i boxes remaining → IsMail boxes
  known-put i remaining boxes has =
      IsMail-put sorted requests i boxes remaining (distinct-permutation ids sorted made.moved made.distinct)
      (All-permutation (λ id. 0x200 ≤ id) ids sorted made.moved made.least) greatest-made made.early has

  mail_of-made : mail_of ids (mail_after sorted requests []) ≡ mail_after ids requests []
  mail_of-made =
      mail_of-after sorted requests ids
      (λ k within. Contains-permutation ids sorted (get_or ids k 0) made.moved (Contains-get_or ids k 0 within))

  pub mail_of-put : (i remaining : ℕ) (boxes : List Mail) → length requests ≤ i → HasPut sorted requests i boxes remaining
      → mail_of ids boxes ≡ mail_after ids requests []
  mail_of-put i remaining boxes all has = grind (arith, take_all, mail_of-made)

  pub AreKept-made : (i remaining : ℕ) (boxes : List Mail) (table arrivals lengths : List ℕ) → length requests ≤ i
      → HasPut sorted requests i boxes remaining → length table ≡ 2048
      → ((id place : ℕ) → id < 2048 → place < nowhere → (slice_get table id ≡ Some place) ↔ (slice_get sorted place ≡ Some id))
      → TellFirsts (length boxes) boxes arrivals lengths → AreBoxesSorted ids boxes table arrivals lengths remaining
  AreKept-made i remaining boxes table arrivals lengths all has long places firsts =
      let whole : boxes ≡ mail_after sorted requests [] = has.put ∙ ap (λ xs. mail_after sorted xs []) (take_all i requests all) in
      let view : mail_of ids boxes ≡ mail_after ids requests [] = ap (λ mail. mail_of ids mail) whole ∙ mail_of-made in
      let short : AreShort requests = subst AreShort (take_all i requests all) has.short in
      record {
        mail = subst IsMail (sym view) (IsMail-after ids requests [] made.distinct made.least made.greatest made.early);
        same = λ id. ap (λ mail. unsent_of mail id) view ∙ same-after sorted requests ids made.moved id ∙ ap (λ mail. unsent_of mail id) (sym whole);
        known = subst IsMail (sym whole)
            (IsMail-after sorted requests [] (distinct-permutation ids sorted made.moved made.distinct)
            (All-permutation (λ id. 0x200 ≤ id) ids sorted made.moved made.least) greatest-made made.early);
        rising = rising-put sorted requests i boxes remaining made.rising has;
        owned = λ id. subst (λ (xs : List ℕ). Contains ids id ↔ Contains xs id)
            (sym (ap (λ (mail : List Mail). map (λ x. x.identifier) mail) whole ∙ identifiers-after sorted requests []))
            (Contains-permutation ids sorted id made.moved, Contains-permutation sorted ids id (IsPermutation-sym ids sorted made.moved));
        short = subst (λ (mail : List Mail). All (λ box. AreShort box.unsent) mail) (sym whole)
            (All-map (λ (box : Mail). AreShort box.unsent) (λ id. record { identifier = id; unsent = unsent_after requests [] id }) sorted
            (λ k d within. All-drop (λ (request : Request). length request.frame.bytes ≤ 8) 0 (requests_of requests (get_or sorted k d))
            (All-filter (λ (request : Request). eqb request.frame.identifier (get_or sorted k d))
            (λ (request : Request). length request.frame.bytes ≤ 8) requests short)));
        long = long;
        places = IsPlaceTable-put sorted requests i boxes remaining table has places;
        firsts = firsts;
        counted = has.counted ∙ ap left whole
            ∙ sum_by-IsPermutation (λ (box : Mail). length box.unsent) (mail_after ids requests []) (mail_after sorted requests [])
            (IsPermutation-map (λ id. record { identifier = id; unsent = unsent_after requests [] id }) ids sorted made.moved)
            ∙ ap left (sym view);
      }

-- a request is taken away
pub mail_of-without : (id : ℕ) (boxes : List Mail) (ids : List ℕ) → mail_of ids (without_first id boxes) ≡ without_first id (mail_of ids boxes)
mail_of-without id boxes [] = refl
mail_of-without id boxes (first ∷ ids) =
    let box : Mail = record { identifier = first; unsent = unsent_of boxes first } in
    let head : record { identifier = first; unsent = unsent_of (without_first id boxes) first } ≡ taken_from id box
    = grind (arith, eqb_tells, unsent_of-without, without_head) in
    ap (λ x. x ∷ mail_of ids (without_first id boxes)) head ∙ ap (λ later. taken_from id box ∷ later) (mail_of-without id boxes ids)

no-first : (unsent : List Request) → is_some (slice_get unsent 0) ≡ false → unsent ≡ []
no-first [] none = refl
no-first (request ∷ later) none = absurd (false≢true (sym none))

module _ (ids : List ℕ) (boxes : List Mail) (table arrivals lengths : List ℕ) (remaining : ℕ)
    (kept : AreBoxesSorted ids boxes table arrivals lengths remaining) where
  pub few-boxes : length boxes ≤ 2048
  few-boxes = few-rising boxes kept.rising kept.known.greatest

  -- the unsent requests of an identifier are those at its place
  pub unsent-placed : (id place : ℕ) (d : Mail) → IsPlaceOf table id place → place < length boxes
      → unsent_of (mail_of ids boxes) id ≡ (get_or boxes place d).unsent
  unsent-placed id place d is within = grind (arith, unsent_of-at, place-identifier, few-boxes)

  pub unsent-nowhere : (id place : ℕ) → IsPlaceOf table id place → length boxes ≤ place → unsent_of (mail_of ids boxes) id ≡ []
  unsent-nowhere id place is past = grind (arith, unsent_of-nowhere, no_place, few-boxes)

  -- whether an identifier has an unsent request, by the mailbox at its place
  request-placed : (id place : ℕ) (found : Bool) → IsPlaceOf table id place → (found ≡ true → place < length boxes)
      → ((d : Mail) → place < length boxes → found ≡ is_some (slice_get (get_or boxes place d).unsent 0))
      → found ≡ is_some (slice_get (unsent_of (mail_of ids boxes) id) 0)
  request-placed id place found is within some =
      elim (cases_lt place (length boxes)) [
        | inl inside ↦
            let d : Mail = record { identifier = 0; unsent = [] } in
            some d inside ∙ ap (λ xs. is_some (slice_get xs 0)) (sym (unsent-placed id place d is inside))
        | inr past ↦
            let nothing : false ≡ is_some (slice_get (unsent_of (mail_of ids boxes) id) 0)
            = ap (λ xs. is_some (slice_get xs 0)) (sym (unsent-nowhere id place is past)) in
            elim (cases_Bool found) [
              | inl passed ↦ absurd (let inside : place < length boxes = within passed in omega arith)
              | inr failed ↦ failed ∙ nothing
            ]
      ]

  pub some-request : (id place : ℕ) (found : Bool) (slice : List Mail) → IsPlaceOf table id place → slice ≡ boxes
      → (found ≡ true → place < length slice)
      → ((d : Mail) → place < length slice → found ≡ is_some (slice_get (get_or slice place d).unsent 0))
      → found ≡ is_some (slice_get (unsent_of (mail_of ids boxes) id) 0)
  some-request id place found slice is same within some =
      request-placed id place found is (subst (λ (mail : List Mail). found ≡ true → place < length mail) same within)
      (subst (λ (mail : List Mail). (d : Mail) → place < length mail → found ≡ is_some (slice_get (get_or mail place d).unsent 0)) same some)

  -- where it has none, taking one away changes nothing
  pub nothing-taken : (id : ℕ) → false ≡ is_some (slice_get (unsent_of (mail_of ids boxes) id) 0)
      → mail_of ids boxes ≡ without_first id (mail_of ids boxes)
  nothing-taken id none = grind (arith, without_first-nothing, no-first)

  pub place-within : (id place : ℕ) → IsPlaceOf table id place → IsSome (slice_get (unsent_of (mail_of ids boxes) id) 0) → place < length boxes
  place-within id place is some = grind (arith, cases_lt, false≢true, unsent-nowhere)

  pub some-left : (id : ℕ) → IsSome (slice_get (unsent_of (mail_of ids boxes) id) 0) → 1 ≤ remaining
  some-left id some =
      let fewer = left-without id (mail_of ids boxes) kept.mail.distinct some in
      omega (arith, kept.counted)

  -- the first request of the mailbox at a place is taken away
  module _ (id place : ℕ) (box new : Mail) (is : IsPlaceOf table id place) (some : IsSome (slice_get (unsent_of (mail_of ids boxes) id) 0))
      (read : box ≡ get_or boxes place box) (written : new ≡ record { identifier = box.identifier; unsent = drop 1 box.unsent }) where
    pub set-taken : set boxes place new ≡ without_first id boxes
    set-taken = grind (arith, set-without_first, place-within, place-identifier, few-boxes)

    pub mail-taken : mail_of ids (set boxes place new) ≡ without_first id (mail_of ids boxes)
    mail-taken = ap (λ mail. mail_of ids mail) set-taken ∙ mail_of-without id boxes ids

    pub AreKept-taken : (arrivals-now lengths-now : List ℕ) → Notes (arrival_within 8) (set boxes place new) place arrivals arrivals-now
        → Notes first_length (set boxes place new) place lengths lengths-now
        → AreBoxesSorted ids (set boxes place new) table arrivals-now lengths-now (remaining - 1)
    AreKept-taken arrivals-now lengths-now arrive_now long_now = record {
      mail = subst IsMail (sym mail-taken) (IsMail-without id (mail_of ids boxes) kept.mail);
      same = grind (arith, mail-taken, unsent_of-without, eqb, set-taken);
      known = subst IsMail (sym set-taken) (IsMail-without id boxes kept.known);
      rising = subst (λ (mail : List Mail). AllPairs (λ one other. one.identifier < other.identifier) mail) (sym set-taken)
          (AllPairs-map (λ (one other : Mail). one.identifier < other.identifier) (taken_from id) boxes (λ box. box)
          (λ i j d before within.
          subst (λ n. n < (taken_from id (get_or boxes j d)).identifier) (sym (taken_from-identifier id (get_or boxes i d)))
          (subst (λ n. (get_or boxes i d).identifier < n) (sym (taken_from-identifier id (get_or boxes j d))) (kept.rising i j d before within))));
      owned = λ n. subst (λ (xs : List ℕ). Contains ids n ↔ Contains xs n)
          (sym (ap (λ (mail : List Mail). map (λ x. x.identifier) mail) set-taken ∙ without_first-identifiers id boxes)) (kept.owned n);
      short = subst (λ (mail : List Mail). All (λ x. AreShort x.unsent) mail) (sym set-taken)
          (All-map (λ (x : Mail). AreShort x.unsent) (taken_from id) boxes
          (λ k d within. taken_from-keeps (λ x. AreShort x.unsent) id (get_or boxes k d)
          (All-drop (λ (request : Request). length request.frame.bytes ≤ 8) 1 (get_or boxes k d).unsent (kept.short k d within))
          (kept.short k d within)));
      long = kept.long;
      places = λ n at below under.
          subst (λ xs. (slice_get table n ≡ Some at) ↔ (slice_get xs at ≡ Some n))
          (sym (ap (λ (mail : List Mail). map (λ x. x.identifier) mail) set-taken ∙ without_first-identifiers id boxes)) (kept.places n at below under);
      firsts = TellFirsts-noted place new boxes arrivals lengths arrivals-now lengths-now arrive_now long_now (place-within id place is some)
          kept.firsts;
      counted = grind (arith, common_steps, left-without, mail-taken);
    }
