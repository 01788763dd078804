-- What mailboxes offer, by the arrivals of their first requests.
use Rattle.std.proofs.Common.{◌≡◌, ℕ, ◌+◌, ◌-◌, ◌*◌, ◌/◌, ◌^◌, ◌<◌, ◌≤◌, leb, false, true, Option, Some, None, List, [], ◌++◌, length, get_or, min, inl, inr, sym, ap, ◌∙◌, subst, arith}
use Rattle.std.specs.List.{slice_get}
use Rattle.std.specs.Option.{IsSome, option_to_list}
use Rattle.std.specs.Prelude.{IfSome}
use Rattle.std.proofs.Math.Nat.{div-eq_of_lt-le}
use Rattle.std.proofs.lemmas.Bool.{cases_eq, cases_lt, le-leb, leb-true}
use Rattle.std.proofs.lemmas.List.{get_or-map, get_or_default, length-map}
use Rattle.std.proofs.lemmas.Option.{get_or_from_slice_get}
use Rattle.stuff_bound.specs.Stuffing.{worst}
use Rattle.cycle_layout.specs.Layout.{CycleLayout, IsLayout, async_open, sync_start}
use Rattle.async_window.specs.declared.request.Request.{Request}
use Rattle.async_window.specs.Mailbox.{Mail, OffersIdentifier, SomeWaits, IsLeastWith, IsNextInCycle, StaysUntil, least_of, mail_offer, unsent_of}
use Rattle.async_window.specs.Tournament.{CanStart, IsSoonestStart, never, nobody, arrival_within, first_bytes, first_length}
use Rattle.async_window.specs.Sorted.{AreBoxesSorted, AreShort, mail_of}
use Rattle.async_window.proofs.Offered.{IsLeastWith-either, IsLeastWith-one, IsLeastWith-same, IsLeastWith-some, Offers-least}
use Rattle.async_window.proofs.Table.{unsent_of-at}
use Rattle.async_window.proofs.Unsent.{first-among}

-- a first request that has arrived and is short enough
arrival-some : (bytes at : ℕ) (unsent : List Request) (request : Request) → slice_get unsent 0 ≡ Some request → request.at ≤ at
    → length request.frame.bytes ≤ bytes → arrival_within bytes unsent ≤ at
arrival-some bytes at unsent request first arrived short = grind (arith, leb, le-leb)

arrival-from : (bytes at : ℕ) (unsent : List Request) → at < never → arrival_within bytes unsent ≤ at
    → (request : Request) × (slice_get unsent 0 ≡ Some request) × (request.at ≤ at) × (length request.frame.bytes ≤ bytes)
arrival-from bytes at unsent time low = grind (arith, leb, leb-true)

-- the number of data bytes of a first request
first_bytes-is : (unsent : List Request) (request : Request) → slice_get unsent 0 ≡ Some request
    → first_bytes unsent ≡ length request.frame.bytes
first_bytes-is unsent request first = grind arith

-- a first request that has arrived, with its own number of data bytes
pub arrival-own : (at : ℕ) (unsent : List Request) → at < never → arrival_within 8 unsent ≤ at
    → (first_bytes unsent ≤ 8) × (first_length unsent ≡ first_bytes unsent) × (arrival_within (first_bytes unsent) unsent ≤ at)
arrival-own at unsent time low = grind (arith, arrival-from, first_bytes-is, arrival-some)

-- a first request that arrives later, or is too long, or both
pub arrives-later : (bytes at : ℕ) (unsent : List Request) → bytes ≤ 8 → at < never → at < arrival_within 8 unsent → at < arrival_within bytes unsent
arrives-later bytes at unsent few time far = grind (arith, cases_lt)

pub fits-not : (bytes at : ℕ) (unsent : List Request) → at < never → bytes < first_bytes unsent → at < arrival_within bytes unsent
fits-not bytes at unsent time long = grind (arith, cases_lt, arrival-from, first_bytes-is)

pub fits-here : (bytes at : ℕ) (unsent : List Request) → at < never → arrival_within 8 unsent ≤ at → first_bytes unsent ≤ bytes
    → arrival_within bytes unsent ≤ at
fits-here bytes at unsent time low short = grind (arith, arrival-from, first_bytes-is, arrival-some)

module _ (ids : List ℕ) (boxes : List Mail) (table : List ℕ) (arrivals lengths : List ℕ) (remaining : ℕ)
    (kept : AreBoxesSorted ids boxes table arrivals lengths remaining) where
  -- the first unsent request of an identifier is that of a mailbox
  pub record IsFirstOf (id place : ℕ) (request : Request) : Type 0 where
    pub within : place < length boxes
    pub same : (d : Mail) → (get_or boxes place d).identifier ≡ id
    pub first : (d : Mail) → slice_get (get_or boxes place d).unsent 0 ≡ Some request
    pub short : length request.frame.bytes ≤ 8

  pub first-of : (id : ℕ) (request : Request) → slice_get (unsent_of (mail_of ids boxes) id) 0 ≡ Some request
      → (place : ℕ) × IsFirstOf id place request
  first-of id request is =
      let first : slice_get (unsent_of boxes id) 0 ≡ Some request = ap (λ xs. slice_get xs 0) (sym (kept.same id)) ∙ is in
      let among = first-among boxes id request first in
      let place : ℕ = among.0 in
      let within : place < length boxes = omega (arith, among.1, length-map boxes (λ (x : Mail). x.identifier)) in
      let same : (d : Mail) → (get_or boxes place d).identifier ≡ id
      = λ d. sym (get_or-map (λ (x : Mail). x.identifier) boxes place d id within) ∙ among.2 in
      let here : (d : Mail) → slice_get (get_or boxes place d).unsent 0 ≡ Some request
      = λ d. ap (λ xs. slice_get xs 0) (sym (unsent_of-at boxes place d id kept.known.distinct within (same d))) ∙ first in
      let box : Mail = record { identifier = id; unsent = [] } in
      let short : AreShort (get_or boxes place box).unsent = kept.short place box within in (grind (arith, get_or_from_slice_get))

  -- what a mailbox has first is the first unsent request of its identifier
  at_box : (place : ℕ) (d : Mail) → place < length boxes
      → unsent_of (mail_of ids boxes) (get_or boxes place d).identifier ≡ (get_or boxes place d).unsent
  at_box place d within = grind (arith, unsent_of-at)

  -- a request waits exactly where the first one of a mailbox has arrived
  pub waits-at : (at place : ℕ) (d : Mail) → at < never → place < length boxes
      → arrival_within 8 (get_or boxes place d).unsent ≤ at → SomeWaits (mail_of ids boxes) at
  waits-at at place d time within low =
      let first = arrival-from 8 at (get_or boxes place d).unsent time low in
      record {
        identifier = (get_or boxes place d).identifier;
        request = first.0;
        waits = record { first = ap (λ xs. slice_get xs 0) (at_box place d within) ∙ first.1; arrived = first.2 };
      }

  pub never-waits : (at : ℕ) → ((place : ℕ) (d : Mail) → place < length boxes → at < arrival_within 8 (get_or boxes place d).unsent)
      → SomeWaits (mail_of ids boxes) at → ⊥
  never-waits at far some =
      let found = first-of some.identifier some.request some.waits.first in
      let box : Mail = record { identifier = some.identifier; unsent = [] } in
      let low : arrival_within 8 (get_or boxes found.0 box).unsent ≤ at
      = arrival-some 8 at (get_or boxes found.0 box).unsent some.request (found.1.first box) some.waits.arrived found.1.short in
      grind arith

module _ (layout : CycleLayout) (l : ℕ) (ids : List ℕ) (boxes : List Mail) (table : List ℕ) (arrivals lengths : List ℕ)
    (remaining : ℕ) (kept : AreBoxesSorted ids boxes table arrivals lengths remaining) where
  -- a mailbox whose first request has arrived and may start is offered
  pub offers-at : (at bytes place : ℕ) (d : Mail) → at < never → place < length boxes
      → arrival_within bytes (get_or boxes place d).unsent ≤ at → async_open layout (at / layout.cycle) ≤ at
      → at + worst bytes ≤ sync_start layout (at / layout.cycle) l → OffersIdentifier layout l (mail_of ids boxes) at (get_or boxes place d).identifier
  offers-at at bytes place d time within low opened whole =
      let unsent = at_box ids boxes table arrivals lengths remaining kept place d within in
      let first = arrival-from bytes at (get_or boxes place d).unsent time low in (grind arith)

  -- what is offered is the first request of a mailbox
  pub record IsOfferOf (at id place : ℕ) (request : Request) : Type 0 where
    pub within : place < length boxes
    pub same : (d : Mail) → (get_or boxes place d).identifier ≡ id
    pub first : (d : Mail) → slice_get (get_or boxes place d).unsent 0 ≡ Some request
    pub arrived : request.at ≤ at
    pub short : length request.frame.bytes ≤ 8
    pub opened : async_open layout (at / layout.cycle) ≤ at
    pub whole : at + worst (length request.frame.bytes) ≤ sync_start layout (at / layout.cycle) l

  pub offered-by : (at id : ℕ) → OffersIdentifier layout l (mail_of ids boxes) at id → (place : ℕ) × (request : Request) × IsOfferOf at id place request
  offered-by at id may =
      let found = first-of ids boxes table arrivals lengths remaining kept id may.0 may.1.waiting.first in (grind arith)

  -- the least identifier that is offered, by what the window and the tournament say
  pub none-fits : (at : ℕ) → ((bytes : ℕ) → bytes ≤ 8 → async_open layout (at / layout.cycle) ≤ at
      → at + worst bytes ≤ sync_start layout (at / layout.cycle) l → ⊥) → IsLeastWith (OffersIdentifier layout l (mail_of ids boxes) at) None
  none-fits at none = grind (arith, offered-by)

  pub none-arrived : (at room : ℕ) → ((bytes : ℕ) → bytes ≤ 8 → at + worst bytes ≤ sync_start layout (at / layout.cycle) l → bytes ≤ room)
      → ((place : ℕ) (d : Mail) → place < length boxes → at < arrival_within room (get_or boxes place d).unsent)
      → IsLeastWith (OffersIdentifier layout l (mail_of ids boxes) at) None
  none-arrived at room fits none = λ id may.
      let found = offered-by at id may in
      let box : Mail = record { identifier = id; unsent = [] } in
      let low : arrival_within room (get_or boxes found.0 box).unsent ≤ at
      = grind (arith, arrival-some) in
      grind arith

  first-offers : (at room short first : ℕ) (d : Mail) → at < never
      → ((bytes : ℕ) → bytes ≤ 8 → at + worst bytes ≤ sync_start layout (at / layout.cycle) l → bytes ≤ room)
      → async_open layout (at / layout.cycle) ≤ at → at + worst short ≤ sync_start layout (at / layout.cycle) l → first < length boxes
      → ((e : Mail) → arrival_within short (get_or boxes first e).unsent ≤ at)
      → ((place : ℕ) (e : Mail) → place < first → at < arrival_within room (get_or boxes place e).unsent)
      → IsLeastWith (OffersIdentifier layout l (mail_of ids boxes) at) (Some (get_or boxes first d).identifier)
  first-offers at room short first d time fits opened whole within here before = (
    offers-at at short first d time within (here d) opened whole,
    λ id may.
        let found = offered-by at id may in
        let low : arrival_within room (get_or boxes found.0 d).unsent ≤ at
        = arrival-some room at (get_or boxes found.0 d).unsent found.1 (found.2.first d) found.2.arrived
        (fits (length found.1.frame.bytes) found.2.short found.2.whole) in
        let same : (get_or boxes found.0 d).identifier ≡ id = found.2.same d in
        elim (cases_lt found.0 first) [
          | inl earlier ↦ let high : at < arrival_within room (get_or boxes found.0 d).unsent = before found.0 d earlier in absurd (omega arith)
          | inr later ↦ elim (cases_eq found.0 first) [
            | inl at_first ↦
                let equal : (get_or boxes first d).identifier ≡ id = ap (λ n. (get_or boxes n d).identifier) (sym at_first) ∙ same in
                omega arith
            | inr apart ↦
                let behind : first < found.0 = elim (cases_lt first found.0) [ inl less ↦ less | inr more ↦ absurd (apart (omega arith)) ] in
                let less : (get_or boxes first d).identifier < (get_or boxes found.0 d).identifier
                = kept.rising first found.0 d behind found.2.within in
                omega arith
          ]
        ],
  )

  -- a first request has arrived, whatever stands for what is no mailbox
  arrival-here : (bytes at place : ℕ) (d e : Mail) → place < length boxes → (request : Request)
      → slice_get (get_or boxes place d).unsent 0 ≡ Some request → (request.at ≤ at) × (length request.frame.bytes ≤ bytes)
      → arrival_within bytes (get_or boxes place e).unsent ≤ at
  arrival-here bytes at place d e within request first known = grind (arith, arrival-some, get_or_default)

  pub is-offer : (at : ℕ) (least : Option ℕ) → IsLeastWith (OffersIdentifier layout l (mail_of ids boxes) at) least
      → least ≡ mail_offer layout l (mail_of ids boxes) at
  is-offer at least is =
      IsLeastWith-one (OffersIdentifier layout l (mail_of ids boxes) at) least (mail_offer layout l (mail_of ids boxes) at) is
      (Offers-least layout l at (mail_of ids boxes) kept.mail)

  -- what the window and the tournament say where an identifier is offered at a time: how many data bytes there is room
  -- for, the place of its mailbox, and the soonest arrival in those before it
  pub record IsFound (at room first sooner : ℕ) : Type 0 where
    pub time : at < 2 ^ 60
    pub known : IsLayout layout
    pub fits : (bytes : ℕ) → bytes ≤ 8 → at + worst bytes ≤ sync_start layout (at / layout.cycle) l → bytes ≤ room
    pub opened : async_open layout (at / layout.cycle) ≤ at
    pub whole : at + worst room ≤ sync_start layout (at / layout.cycle) l
    pub within : first < length boxes
    pub here : (d : Mail) → arrival_within room (get_or boxes first d).unsent ≤ at
    pub later : at < sooner
    pub before : (place : ℕ) (d : Mail) → place < first → sooner ≤ arrival_within room (get_or boxes place d).unsent

  pub found-offers : (at room first sooner : ℕ) (d : Mail) → IsFound at room first sooner
      → IsLeastWith (OffersIdentifier layout l (mail_of ids boxes) at) (Some (get_or boxes first d).identifier)
  found-offers at room first sooner d found =
      first-offers at room room first d (omega arith) found.fits found.opened found.whole found.within found.here
      (λ place e before. let high = found.before place e before in omega (arith, found.later))

  -- and it is offered until its frame ends too late, or a request arrives in one of the mailboxes before it
  pub found-stays : (at room first sooner until : ℕ) (d : Mail) → IsFound at room first sooner
      → until ≡ min (sooner - 1) (sync_start layout (at / layout.cycle) l - worst (first_bytes (get_or boxes first d).unsent))
      → StaysUntil layout l (mail_of ids boxes) at (get_or boxes first d).identifier until
  found-stays at room first sooner until d found is =
      let closed : ℕ = sync_start layout (at / layout.cycle) l in
      let request = arrival-from room at (get_or boxes first d).unsent (omega arith) (found.here d) in
      let short : ℕ = length request.0.frame.bytes in
      let bytes : first_bytes (get_or boxes first d).unsent ≡ short = first_bytes-is (get_or boxes first d).unsent request.0 request.1 in
      let fits : short ≤ room = request.3 in
      let cycle : layout.cycle ≤ 100000 = found.known.cycle_range.below in
      let same : (later : ℕ) → at ≤ later → later ≤ until → later / layout.cycle ≡ at / layout.cycle = grind (arith, div-eq_of_lt-le) in
      record {
        from = omega (arith, found.later);
        cycle = same;
        offers = λ later from to.
            let here = same later from to in
            let end : later < (at / layout.cycle + 1) * layout.cycle = omega arith in
            sym (is-offer later (Some (get_or boxes first d).identifier)
            (first-offers later room short first d (omega arith)
            (λ n few ends.
            let ends_here : later + worst n ≤ closed = subst (λ c. later + worst n ≤ sync_start layout c l) here ends in
            found.fits n few (omega arith))
            (subst (λ c. async_open layout c ≤ later) (sym here) (omega (arith, found.opened)))
            (subst (λ c. later + worst short ≤ sync_start layout c l) (sym here) (omega arith))
            found.within
            (λ e. arrival-here short later first d e found.within request.0 request.1 (omega (arith, request.2), omega arith))
            (λ place e before. let high = found.before place e before in omega (arith, found.later))));
      }

  -- where no first request has arrived, nothing is offered
  pub none-waits : (at : ℕ) → ((place : ℕ) (d : Mail) → place < length boxes → at < arrival_within 8 (get_or boxes place d).unsent)
      → IsLeastWith (OffersIdentifier layout l (mail_of ids boxes) at) None
  none-waits at none = none-arrived at 8 (λ bytes few whole. few) none

  never-offered : (at : ℕ) → IsLeastWith (OffersIdentifier layout l (mail_of ids boxes) at) None → IsSome (mail_offer layout l (mail_of ids boxes) at) → ⊥
  never-offered at none some =
      let nothing : false ≡ true = subst (λ (o : Option ℕ). IsSome o) (sym (is-offer at None none)) some in
      grind arith

  -- nothing is offered behind a time from which on no frame fits any more, and nothing where no first request arrives
  -- before the synchronous window
  pub none-behind : (at : ℕ) → sync_start layout (at / layout.cycle) l ≤ at + worst 0
      → IsNextInCycle layout.cycle at (λ later. IsSome (mail_offer layout l (mail_of ids boxes) later)) None
  none-behind at over = grind (arith, never-offered, none-fits)

  pub none-until : (at : ℕ)
      → ((place : ℕ) (d : Mail) → place < length boxes
      → sync_start layout (at / layout.cycle) l < arrival_within 8 (get_or boxes place d).unsent)
      → IsNextInCycle layout.cycle at (λ later. IsSome (mail_offer layout l (mail_of ids boxes) later)) None
  none-until at none = λ later found.
      never-offered later
      (elim (cases_lt (sync_start layout (at / layout.cycle) l) later) [
        | inl past ↦ none-fits later (λ bytes few opened whole. grind arith)
        | inr within ↦ none-waits later (λ place d is. let high = none place d is in omega arith)
      ])
      found.2

-- a time at which the longest frame may start
pub earliest-whole : (opened closed at soonest : ℕ) (found : Option ℕ)
    → IsLeastWith (λ later. (at < later) × (soonest ≤ later) × (opened ≤ later) × (later + worst 8 ≤ closed)) found
    → IfSome found (λ next. (opened ≤ next) × (next + worst 8 ≤ closed))
earliest-whole opened closed at soonest found least = grind arith

-- when the next first request may start, by the soonest arrival and the least length of all
module _ (boxes : List Mail) (opened closed at : ℕ) (wide : closed < 2 ^ 64) where
  module _ (soonest : ℕ) (low : (place : ℕ) (d : Mail) → place < length boxes → soonest ≤ arrival_within 8 (get_or boxes place d).unsent) where
    -- where the longest frame may start at the soonest arrival, no other one starts sooner
    pub IsSoonest-any : (found : Option ℕ)
        → ((bound : ℕ) → bound < never → soonest ≤ bound
        → (place : ℕ) × (place < length boxes) × ((d : Mail) → arrival_within 8 (get_or boxes place d).unsent ≤ bound))
        → IsLeastWith (λ later. (at < later) × (soonest ≤ later) × (opened ≤ later) × (later + worst 8 ≤ closed)) found
        → IfSome found (λ next. IsSoonestStart boxes opened closed at (length boxes) (Some next))
    IsSoonest-any found some least = grind (arith, arrival-own, cases_lt)

    -- where even the shortest one ends too late, none starts
    pub IsSoonest-over : (shortest : ℕ)
        → ((place : ℕ) (d : Mail) → place < length boxes → shortest ≤ first_length (get_or boxes place d).unsent)
        → IsLeastWith (λ later. (at < later) × (soonest ≤ later) × (opened ≤ later) × (later + worst shortest ≤ closed)) None
        → IsSoonestStart boxes opened closed at (length boxes) None
    IsSoonest-over shortest least none = grind (arith, arrival-own)

  -- where no first request has at most eight data bytes, there is none
  pub IsSoonest-empty : (shortest : ℕ)
      → ((place : ℕ) (d : Mail) → place < length boxes → shortest ≤ first_length (get_or boxes place d).unsent) → 8 < shortest
      → IsSoonestStart boxes opened closed at (length boxes) None
  IsSoonest-empty shortest least long = grind (arith, arrival-own)

-- the first request of one mailbox, by its arrival
pub CanStart-same : (opened closed at arrival bytes : ℕ) (unsent : List Request) (least : Option ℕ) → arrival ≡ arrival_within 8 unsent
    → bytes ≡ first_bytes unsent
    → IsLeastWith (λ later. (at < later) × (arrival ≤ later) × (opened ≤ later) × (later + worst bytes ≤ closed)) least
    → IsLeastWith (CanStart opened closed at unsent) least
CanStart-same opened closed at arrival bytes unsent least h0 h1 h2 = grind arith

pub CanStart-late : (opened closed at arrival : ℕ) (unsent : List Request) → arrival ≡ arrival_within 8 unsent → closed < arrival
    → IsLeastWith (CanStart opened closed at unsent) None
CanStart-late opened closed at arrival unsent is late = λ later can. absurd (omega (arith, can.arrived, can.whole))

-- one mailbox after the other
pub IsSoonest-none : (boxes : List Mail) (opened closed at : ℕ) → IsSoonestStart boxes opened closed at 0 None
IsSoonest-none boxes opened closed at = λ later found. let below : found.0 < 0 = found.1 in absurd (omega arith)

pub IsSoonest-more : (boxes : List Mail) (opened closed at count : ℕ) (box : Mail) (one other next : Option ℕ) → count < length boxes
    → box ≡ get_or boxes count box → IsSoonestStart boxes opened closed at count one → IsLeastWith (CanStart opened closed at box.unsent) other
    → next ≡ least_of (option_to_list one ++ option_to_list other) → IsSoonestStart boxes opened closed at (count + 1) next
IsSoonest-more boxes opened closed at count box one other next within read first second is_next =
    let here : box ≡ get_or boxes count nobody = read ∙ get_or_default boxes count box nobody within in
    subst (λ x. IsSoonestStart boxes opened closed at (count + 1) x) (sym is_next)
    (IsLeastWith-either
    (λ time. (place : ℕ) × (place < count) × CanStart opened closed at (get_or boxes place nobody).unsent time)
    (λ time. CanStart opened closed at box.unsent time)
    (λ time. (place : ℕ) × (place < count + 1) × CanStart opened closed at (get_or boxes place nobody).unsent time)
    one other
    (λ time h. let below : h.0 < count = h.1 in (h.0, omega arith, h.2))
    (λ time can. (count, omega arith, subst (λ (x : Mail). CanStart opened closed at x.unsent time) here can))
    (λ time h. grind (arith, cases_lt))
    first second)

module _ (layout : CycleLayout) (l at : ℕ) (ids : List ℕ) (boxes : List Mail) (table arrivals lengths : List ℕ)
    (remaining : ℕ) (kept : AreBoxesSorted ids boxes table arrivals lengths remaining) (known : IsLayout layout) (time : at < 2 ^ 60) where
  pub next-offer : (opened closed : ℕ) (least : Option ℕ) → opened ≡ async_open layout (at / layout.cycle)
      → closed ≡ sync_start layout (at / layout.cycle) l → IsSoonestStart boxes opened closed at (length boxes) least
      → IsNextInCycle layout.cycle at (λ later. IsSome (mail_offer layout l (mail_of ids boxes) later)) least
  next-offer opened closed least is_opened is_closed is =
      IsLeastWith-same
      (λ later. (at < later) × (later / layout.cycle ≡ at / layout.cycle) × IsSome (mail_offer layout l (mail_of ids boxes) later))
      (λ later. (place : ℕ) × (place < length boxes) × CanStart opened closed at (get_or boxes place nobody).unsent later)
      least
      (λ later found.
      let place : ℕ = found.0 in
      let within : place < length boxes = found.1 in
      let unsent : List Request = (get_or boxes place nobody).unsent in
      let can : CanStart opened closed at unsent later = found.2 in
      let bytes : ℕ = first_bytes unsent in
      let from : opened ≤ later = can.from in
      let to : later + worst bytes ≤ closed = can.whole in
      let cycle : layout.cycle ≤ 100000 = known.cycle_range.below in
      let behind : at < later = can.behind in
      let end : later < (at / layout.cycle + 1) * layout.cycle = omega arith in
      let same : later / layout.cycle ≡ at / layout.cycle = div-eq_of_lt-le layout.cycle (omega arith) end in
      let high : later < never = omega arith in
      let own = arrival-own later unsent high can.arrived in (
        behind,
        same,
        (IsLeastWith-some (OffersIdentifier layout l (mail_of ids boxes) later) (mail_offer layout l (mail_of ids boxes) later)
            (Offers-least layout l later (mail_of ids boxes) kept.mail)).1 (
              (get_or boxes place nobody).identifier,
              offers-at layout l ids boxes table arrivals lengths remaining kept later bytes place nobody high within own.2
                  (subst (λ c. async_open layout c ≤ later) (sym same) (subst (λ n. n ≤ later) is_opened from))
                  (subst (λ c. later + worst bytes ≤ sync_start layout c l) (sym same) (subst (λ n. later + worst bytes ≤ n) is_closed to)),
            ),
      ))
      (λ later found.
      let offer = (IsLeastWith-some (OffersIdentifier layout l (mail_of ids boxes) later) (mail_offer layout l (mail_of ids boxes) later)
      (Offers-least layout l later (mail_of ids boxes) kept.mail)).0 found.2 in
      let by = offered-by layout l ids boxes table arrivals lengths remaining kept later offer.0 offer.1 in
      let bytes : ℕ = length by.1.frame.bytes in
      let whole : later + worst bytes ≤ closed
      = subst (λ n. later + worst bytes ≤ n) (sym is_closed) (subst (λ c. later + worst bytes ≤ sync_start layout c l) found.1 by.2.whole) in (grind (arith, arrival-some)))
      is
