-- A node that takes requests while it runs.
use Rattle.std.proofs.Common.{inl, inr, ◌≡◌, ◌↔◌, ℕ, ◌<◌, ◌≤◌, Bool, true, false, Option, Some, None, List, [], ◌∷◌, ◌++◌, drop, map, All, refl, sym, ap, ◌∙◌, subst, arith}
use Rattle.std.proofs.lemmas.Grind.{common_steps}
use Rattle.std.specs.Prelude.{◌+◌, ◌-◌, ◌/◌, ◌==◌, nat_eq, nat_le, nat_lt, if◌then◌else◌, is_some, slice_get}
use Rattle.std.proofs.lemmas.Bool.{cases_Bool, cases_lt, eqb-true, ne_eqb}
use Rattle.std.proofs.lemmas.List.Elements.{All-head, All-map, All-tail}
use Rattle.requirement_table.specs.declared.entries.Placed.{Placed}
use Rattle.async_window.specs.Waiting.{unsent_after}
use Rattle.std.proofs.lemmas.Bool.Decides.{nat_tests}
use Rattle.std.specs.Option.{option_map, option_map_or}
use Rattle.can_frame.specs.DataFrame.{DataFrame}
use Rattle.can_frame.specs.declared.data_frame.TimedFrame.{TimedFrame}
use Rattle.cycle_layout.specs.Layout.{CycleLayout, sync_start}
use Rattle.requirement_table.specs.Opening.{Opening, width_of}
use Rattle.async_window.specs.declared.request.Owner.{Owner}
use Rattle.async_window.specs.declared.request.Request.{Request}
use Rattle.async_window.specs.Owners.{AreOwners}
use Rattle.async_window.specs.Mailbox.{IsMail, Mail, mail_after, mail_offer, unsent_of, without_first}
use Rattle.async_window.specs.Online.{ComeLater, HaveArrived, WereRequests, forgotten, forgotten_mail}
use Rattle.async_window.proofs.Shared.{mail_after-next, mail_after-put, may_start-later, unsent_of-forgotten, forgotten-without, forgotten-with, mail_offer-forgotten, mail_offer-more, arrived-after, unsent_of-more}
use Rattle.trigger_kind.specs.Kind.{opening_identifier}
use Rattle.node_model.specs.Node.{NodeState, Opened, after_hearing, after_noting, after_opening, after_request, after_slot, counted, identifiers_of, is_due, is_own_slot, node_frame, node_offer}
use Rattle.node_model.specs.Offered.{OffersRequest}
use Rattle.node_model.specs.Own.{StandsIn, StandsOnBus}
use Rattle.node_model.specs.Online.{AllArrived, after_put, forgetting, serving}
use Rattle.profile.specs.Limits.{first_identifier, least_asynchronous}
use Rattle.bit_sets.specs.Least.{least_where}
use Rattle.bit_sets.specs.Sets.{most_slots}
use Rattle.requirement_table.specs.Instance.{bytes_of}
use Rattle.requirement_table.specs.Table.{instance_in}
use Rattle.async_window.specs.Adding.{with_request}
use Rattle.node_model.proofs.Known.{identifiers_of-all}
use Rattle.node_model.proofs.Offers.{offered-mail}

pub put-stands : (layout : CycleLayout) (owners : List Owner) (requests : List Request) (request : Request)
    (opening : Opening) (past : List TimedFrame) (node : NodeState) → AreOwners owners → WereRequests requests past
    → StandsIn layout owners requests opening past node
    → StandsIn layout owners (requests ++ request ∷ []) opening past (after_put request node)
put-stands layout owners requests request opening past node are were here = let on = here.stands in let is_open = here.is_open in record {
  stands = record {
    same_layout = on.same_layout;
    own_entries = on.own_entries;
    own_mail =
        ap (λ (mail : List Mail). map (with_request request) mail) on.own_mail
        ∙ sym (mail_after-put (identifiers_of node.number owners) requests request past
        (identifiers_of-all (λ id. 0x200 ≤ id) node.number owners are.least) were);
    next_cycle = on.next_cycle;
  };
  opened = here.opened;
  is_open = record {
    is_open = is_open.is_open;
    cycle = is_open.cycle;
    width = is_open.width;
    mask = is_open.mask;
    heard = is_open.heard;
  };
}

pub put-forgets : (request : Request) (node : NodeState) → forgetting (after_put request node) ≡ after_put (forgotten request) (forgetting node)
put-forgets request node = ap {B = NodeState} (λ mail. record node { mail = mail }) (forgotten-with request node.mail)

-- what is done with a frame, by the tests on it
pub hears-forgets : (sent : TimedFrame) (node : NodeState) → forgetting (after_hearing node sent) ≡ after_hearing (forgetting node) sent
hears-forgets sent node =
    let counting : NodeState = record node { frames = counted node.frames } in
    by_tests (sent.frame.identifier == opening_identifier node.layout.slots)
    (nat_lt sent.frame.identifier (opening_identifier node.layout.slots))
    (is_own_slot node.entries sent.frame.identifier) counting sent.frame
  where
    by_tests : (opens notes own : Bool) (node : NodeState) (frame : DataFrame)
        → forgetting (if opens then after_opening node frame else (if notes then after_noting node frame
        else (if own then after_slot node (frame.identifier - first_identifier) else after_request node frame.identifier)))
        ≡ (if opens then after_opening (forgetting node) frame else (if notes then after_noting (forgetting node) frame
        else (if own then after_slot (forgetting node) (frame.identifier - first_identifier) else after_request (forgetting node) frame.identifier)))
    by_tests true notes own node frame = refl
    by_tests false true own node frame = refl
    by_tests false false true node frame = refl
    by_tests false false false node frame = ap {B = NodeState} (λ mail. record node { mail = mail }) (forgotten-without frame.identifier node.mail)

-- what is offered, by the cycle that is open
pub offers-forgets : (node : NodeState) (at : ℕ) → AllArrived at node → node_offer (forgetting node) at ≡ node_offer node at
offers-forgets node at arrived = by_opened node.opened
  where
    by_opened : (opened : Option Opened) → node_offer (record (forgetting node) { opened = opened }) at ≡ node_offer (record node { opened = opened }) at
    by_opened None = refl
    by_opened (Some o) =
        ap (λ offered. if nat_eq (at / node.layout.cycle) o.cycle
        then (if nat_le (sync_start node.layout o.cycle o.width) at
        then option_map (λ slot. first_identifier + slot) (least_where most_slots (is_due node.entries o)) else offered) else None)
        (mail_offer-forgotten node.layout o.width at node.mail arrived)

pub frames-forget : (node : NodeState) (at id : ℕ) → node_frame (forgetting node) at id ≡ node_frame node at id
frames-forget node at id =
    ap {B = DataFrame} (λ own. record {
      identifier = id;
      bytes = if nat_le least_asynchronous id then own
          else option_map_or bytes_of (instance_in node.entries (id - first_identifier) (at / node.layout.cycle)) [];
    })
    (ap (λ xs. option_map_or (λ (r : Request). r.frame.bytes) (slice_get xs 0) []) (unsent_of-forgotten node.mail id)
    ∙ first-bytes (unsent_of node.mail id))
  where
    first-bytes : (requests : List Request) → option_map_or (λ (r : Request). r.frame.bytes) (slice_get (map forgotten requests) 0) []
        ≡ option_map_or (λ (r : Request). r.frame.bytes) (slice_get requests 0) []
    first-bytes [] = refl
    first-bytes (request ∷ requests) = refl

pub offers-later : (layout : CycleLayout) (requests later : List Request) (opening : Opening) (past : List TimedFrame)
    (at : ℕ) (frame : DataFrame) → 0x200 ≤ frame.identifier → WereRequests requests past → ComeLater at later
    → OffersRequest layout (requests ++ later) opening past at frame ↔ OffersRequest layout requests opening past at frame
offers-later layout requests later opening past at frame low were late =
    let same = λ (request : Request). may_start-later layout opening.cycle (width_of opening) requests later past frame.identifier at request low were late in (
      λ offers. record { request = offers.request; may_start = (same offers.request).0 offers.may_start; its_frame = offers.its_frame },
      λ offers. record { request = offers.request; may_start = (same offers.request).1 offers.may_start; its_frame = offers.its_frame },
    )

-- what a node offers with other mail that offers the same
offers-by_mail : (node : NodeState) (one other : List Mail) (at : ℕ)
    → ((l : ℕ) → mail_offer node.layout l one at ≡ mail_offer node.layout l other at)
    → node_offer (record node { mail = one }) at ≡ node_offer (record node { mail = other }) at
offers-by_mail node one other at same = by_opened node.opened
  where
    by_opened : (opened : Option Opened) → node_offer (record node { mail = one; opened = opened }) at
        ≡ node_offer (record node { mail = other; opened = opened }) at
    by_opened None = refl
    by_opened (Some o) =
        ap (λ offered. if nat_eq (at / node.layout.cycle) o.cycle
        then (if nat_le (sync_start node.layout o.cycle o.width) at
        then option_map (λ slot. first_identifier + slot) (least_where most_slots (is_due node.entries o)) else offered) else None)
        (same o.width)

module _ (layout : CycleLayout) (owners : List Owner) (requests later : List Request) (opening : Opening)
    (past : List TimedFrame) (node : NodeState) (are : AreOwners owners) (were : WereRequests requests past)
    (stands : StandsIn layout owners (requests ++ later) opening past node) where
  abbrev ids : List ℕ
  ids = identifiers_of node.number owners

  low : All (λ id. 0x200 ≤ id) ids
  low = identifiers_of-all (λ id. 0x200 ≤ id) node.number owners are.least

  pub serves-offers : (at : ℕ) → HaveArrived at requests → ComeLater at later
      → node_offer (serving owners requests past node) at ≡ node_offer node at
  serves-offers at arrived late =
      offers-forgets (record node { mail = mail_after ids requests past }) at (arrived-after at requests past arrived ids)
      ∙ offers-by_mail node (mail_after ids requests past) (mail_after ids (requests ++ later) past) at
      (λ l. sym (mail_offer-more node.layout l at ids requests later past low were late))
      ∙ ap (λ mail. node_offer (record node { mail = mail }) at) (sym stands.stands.own_mail)

  bytes-first : (requests more : List Request) → is_some (slice_get (map forgotten requests) 0) ≡ true
      → option_map_or (λ (r : Request). r.frame.bytes) (slice_get (map forgotten requests) 0) []
      ≡ option_map_or (λ (r : Request). r.frame.bytes) (slice_get (requests ++ more) 0) []
  bytes-first [] more some = let none : ⊥ = cc (some) in absurd none
  bytes-first (request ∷ requests) more some = refl

  pub serves-frames : (at id : ℕ) → IsMail (serving owners requests past node).mail
      → node_offer (serving owners requests past node) at ≡ Some id
      → node_frame (serving owners requests past node) at id ≡ node_frame node at id
  serves-frames at id known offered =
      elim (cases_lt id 0x200) [
        | inl slot ↦
            let test : nat_le least_asynchronous id ≡ false = grind (arith, nat_tests) in
            ap {B = DataFrame} (λ b. record {
              identifier = id;
              bytes = if b
                  then option_map_or (λ (r : Request). r.frame.bytes) (slice_get (unsent_of (serving owners requests past node).mail id) 0) []
                  else option_map_or bytes_of (instance_in node.entries (id - first_identifier) (at / node.layout.cycle)) [];
            }) test
            ∙ ap {B = DataFrame} (λ b. record {
              identifier = id;
              bytes = if b
                  then option_map_or (λ (r : Request). r.frame.bytes) (slice_get (unsent_of node.mail id) 0) []
                  else option_map_or bytes_of (instance_in node.entries (id - first_identifier) (at / node.layout.cycle)) [];
            }) (sym test)
        | inr asynchronous ↦
            let mine : List Request = unsent_of (mail_after ids requests past) id in
            let is : unsent_of (serving owners requests past node).mail id ≡ map forgotten mine
            = unsent_of-forgotten (mail_after ids requests past) id in
            let some : is_some (slice_get (map forgotten mine) 0) ≡ true
            = subst (λ xs. is_some (slice_get xs 0) ≡ true) is
            (offered-mail (serving owners requests past node) at id known offered asynchronous) in
            let more = unsent_of-more requests later past were ids low id in
            let all : unsent_of node.mail id ≡ mine ++ more.0
            = ap (λ mail. unsent_of mail id) stands.stands.own_mail ∙ more.1 in
            ap {B = DataFrame} (λ own. record {
              identifier = id;
              bytes = if nat_le least_asynchronous id then own
                  else option_map_or bytes_of (instance_in node.entries (id - first_identifier) (at / node.layout.cycle)) [];
            })
            (ap (λ xs. option_map_or (λ (r : Request). r.frame.bytes) (slice_get xs 0) []) is
            ∙ bytes-first mine more.0 some
            ∙ ap (λ xs. option_map_or (λ (r : Request). r.frame.bytes) (slice_get xs 0) []) (sym all))
      ]

-- what is put, learnt and heard by a node that was given these requests
pub serving-put : (owners : List Owner) (given : List Request) (request : Request) (past : List TimedFrame) (node : NodeState)
    → AreOwners owners → WereRequests given past
    → after_put (forgotten request) (serving owners given past node) ≡ serving owners (given ++ request ∷ []) past node
serving-put owners given request past node are were =
    sym (ap (λ mail. forgetting (record node { mail = mail }))
    (mail_after-put (identifiers_of node.number owners) given request past
    (identifiers_of-all (λ id. 0x200 ≤ id) node.number owners are.least) were)
    ∙ put-forgets request (record node { mail = mail_after (identifiers_of node.number owners) given past }))

without_first-elsewhere : (id : ℕ) (mail : List Mail) → All (λ box. 0x200 ≤ box.identifier) mail → id < 0x200 → without_first id mail ≡ mail
without_first-elsewhere id [] low high = refl
without_first-elsewhere id (box ∷ mail) low high =
    let here : 0x200 ≤ box.identifier = All-head (λ (b : Mail). 0x200 ≤ b.identifier) box mail low in
    let other : (box.identifier == id) ≡ false = ne_eqb box.identifier id (λ same. absurd (omega arith)) in
    ap (λ b. (if b then record box { unsent = drop 1 box.unsent } else box) ∷ without_first id mail) other
    ∙ ap (λ later. box ∷ later) (without_first-elsewhere id mail (All-tail (λ (b : Mail). 0x200 ≤ b.identifier) box mail low) high)

-- the mail behind a frame, whatever it is
module _ (node : NodeState) (before after : List Mail) (frame : DataFrame) (next : after ≡ without_first frame.identifier before)
    (low : All (λ box. 0x200 ≤ box.identifier) before) where
  same-mail : frame.identifier < 0x200 → before ≡ after
  same-mail high = sym (next ∙ without_first-elsewhere frame.identifier before low high)

  mail-behind : (opens notes own : Bool) (node : NodeState) → (opens ≡ true → frame.identifier < 0x200) → (notes ≡ true → frame.identifier < 0x200)
      → (own ≡ true → frame.identifier < 0x200)
      → (if opens then after_opening (record node { mail = before }) frame else (if notes then after_noting (record node { mail = before }) frame
      else (if own then after_slot (record node { mail = before }) (frame.identifier - first_identifier)
      else after_request (record node { mail = before }) frame.identifier)))
      ≡ record (if opens then after_opening node frame else (if notes then after_noting node frame
      else (if own then after_slot node (frame.identifier - first_identifier) else after_request node frame.identifier))) { mail = after }
  mail-behind true notes own node a b c = ap {B = NodeState} (λ mail. record (after_opening node frame) { mail = mail }) (same-mail (a refl))
  mail-behind false true own node a b c = ap {B = NodeState} (λ mail. record (after_noting node frame) { mail = mail }) (same-mail (b refl))
  mail-behind false false true node a b c =
      ap {B = NodeState} (λ mail. record (after_slot node (frame.identifier - first_identifier)) { mail = mail }) (same-mail (c refl))
  mail-behind false false false node a b c = ap {B = NodeState} (λ mail. record node { mail = mail }) (sym next)

own-slot-low : (entries : List Placed) (id : ℕ) → All (λ p. p.entry.slot < most_slots) entries → is_own_slot entries id ≡ true → id < 0x200
own-slot-low [] id low own = let none : ⊥ = cc (own) in absurd none
own-slot-low (p ∷ entries) id low own =
    elim (cases_Bool (first_identifier + p.entry.slot == id)) [
      | inl here ↦
          let is : first_identifier + p.entry.slot ≡ id = eqb-true (first_identifier + p.entry.slot) id here in
          let few : p.entry.slot < most_slots = All-head (λ (q : Placed). q.entry.slot < most_slots) p entries low in
          omega arith
      | inr apart ↦
          own-slot-low entries id (All-tail (λ (q : Placed). q.entry.slot < most_slots) p entries low)
          (grind (arith, common_steps))
    ]

same-number : (opens notes own : Bool) (node : NodeState) (frame : DataFrame)
    → (if opens then after_opening node frame else (if notes then after_noting node frame
    else (if own then after_slot node (frame.identifier - first_identifier) else after_request node frame.identifier))).number ≡ node.number
same-number true notes own node frame = refl
same-number false true own node frame = refl
same-number false false true node frame = refl
same-number false false false node frame = refl

pub serving-hears : (owners : List Owner) (given : List Request) (past : List TimedFrame) (sent : TimedFrame) (node : NodeState)
    → AreOwners owners → All (λ p. p.entry.slot < most_slots) node.entries
    → after_hearing (serving owners given past node) sent ≡ serving owners given (past ++ sent ∷ []) (after_hearing node sent)
serving-hears owners given past sent node are slots =
    let ids : List ℕ = identifiers_of node.number owners in
    let low : All (λ id. 0x200 ≤ id) ids = identifiers_of-all (λ id. 0x200 ≤ id) node.number owners are.least in
    let counting : NodeState = record node { frames = counted node.frames } in
    let opening : ℕ = opening_identifier node.layout.slots in
    sym (hears-forgets sent (record node { mail = mail_after ids given past }))
    ∙ ap forgetting
    (mail-behind counting (mail_after ids given past) (mail_after ids given (past ++ sent ∷ [])) sent.frame
    (mail_after-next ids given past sent)
    (All-map (λ (box : Mail). 0x200 ≤ box.identifier) (λ id. record { identifier = id; unsent = unsent_after given past id }) ids low)
    (sent.frame.identifier == opening) (nat_lt sent.frame.identifier opening) (is_own_slot node.entries sent.frame.identifier) counting
    (λ opens. let is : sent.frame.identifier ≡ opening = eqb-true sent.frame.identifier opening opens in omega (arith, opening_low node.layout.slots))
    (λ notes. let less : sent.frame.identifier < opening = grind (arith, nat_tests) in omega (arith, opening_low node.layout.slots))
    (own-slot-low node.entries sent.frame.identifier slots))
    ∙ ap (λ n. forgetting (record (after_hearing node sent) { mail = mail_after (identifiers_of n owners) given (past ++ sent ∷ []) }))
    (sym (same-number (sent.frame.identifier == opening) (nat_lt sent.frame.identifier opening) (is_own_slot node.entries sent.frame.identifier) counting sent.frame))
  where
    opening_low : (n : ℕ) → opening_identifier n ≤ 1
    opening_low n = grind (arith, common_steps)
