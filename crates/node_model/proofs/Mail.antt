-- Mail of a node: what is taken away where nothing is left, and what an offered identifier says of its first unsent
-- request.
use Rattle.std.proofs.Common.{◌≡◌, ℕ, ◌/◌, ◌<◌, ◌≤◌, ◌==◌, true, false, Option, Some, None, List, [], ◌∷◌, All, is_some, slice_get, refl, sym, ap, ◌∙◌, subst, arith, ⊎_elim}
use Rattle.std.proofs.lemmas.Grind.{common_steps}
use Rattle.std.specs.Option.{option_map, option_map_or}
use Rattle.std.proofs.lemmas.Bool.{eqb-true, eqb-false, cases_Bool, false≢true}
use Rattle.std.proofs.lemmas.Option.{none-some, same_Some}
use Rattle.std.proofs.lemmas.List.Elements.{All-head, All-tail, All-map}
use Rattle.can_frame.specs.DataFrame.{DataFrame}
use Rattle.cycle_layout.specs.Layout.{CycleLayout, sync_start}
use Rattle.async_window.specs.declared.request.Request.{Request}
use Rattle.async_window.specs.Mailbox.{Mail, IsMail, OffersIdentifier, IsLeastWith, mail_offer, unsent_of, without_first}
use Rattle.async_window.proofs.Shared.{unsent_of-here, unsent_of-later}
use Rattle.async_window.proofs.Shared.{Offers-least, Offers-among}
use Rattle.async_window.proofs.Shared.{without_first-nothing}

-- where the first of some requests is none, there are none
none-first : (unsent : List Request) → slice_get unsent 0 ≡ None → unsent ≡ []
none-first [] none = refl
none-first (request ∷ later) none = absurd (none-some request (sym none))

-- where no request of the identifier is left, taking away changes nothing
pub without_first-none : (id : ℕ) (mail : List Mail) → IsMail mail → slice_get (unsent_of mail id) 0 ≡ None → without_first id mail ≡ mail
without_first-none id mail known none = without_first-nothing id mail known (none-first (unsent_of mail id) none)

abbrev AreOwn : List Mail → Type 0
AreOwn mail = All (λ box. All (λ request. request.frame.identifier ≡ box.identifier) box.unsent) mail

first-own : (id : ℕ) (unsent : List Request) (request : Request) → All (λ r. r.frame.identifier ≡ id) unsent → slice_get unsent 0 ≡ Some request → request.frame.identifier ≡ id
first-own id unsent request own first = grind (arith, common_steps, none-some, same_Some)

-- the first unsent request of an identifier has it
pub first-identifier : (id : ℕ) (mail : List Mail) (request : Request) → AreOwn mail → slice_get (unsent_of mail id) 0 ≡ Some request → request.frame.identifier ≡ id
first-identifier id [] request own first = absurd (none-some request first)
first-identifier id (box ∷ rest) request own first =
    ⊎_elim
    (λ (same : (box.identifier == id) ≡ true).
    let is = eqb-true box.identifier id same in
    let here = All-head (λ x. All (λ r. r.frame.identifier ≡ x.identifier) x.unsent) box rest own in
    first-own box.identifier box.unsent request here (ap (λ unsent. slice_get unsent 0) (sym (unsent_of-here box rest id is)) ∙ first) ∙ is)
    (λ (differs : (box.identifier == id) ≡ false).
    let other = eqb-false box.identifier id differs in
    first-identifier id rest request (All-tail (λ x. All (λ r. r.frame.identifier ≡ x.identifier) x.unsent) box rest own)
    (ap (λ unsent. slice_get unsent 0) (sym (unsent_of-later box rest id other)) ∙ first))
    (cases_Bool (box.identifier == id))

-- what is offered has a first unsent request that may start, and an asynchronous identifier
pub offered-request : (layout : CycleLayout) (l at id : ℕ) (mail : List Mail) → IsMail mail → mail_offer layout l mail at ≡ Some id → OffersIdentifier layout l mail at id
offered-request layout l at id mail known offered =
    (subst (λ least. IsLeastWith (OffersIdentifier layout l mail at) least) offered (Offers-least layout l at mail known)).0

pub offered-asynchronous : (layout : CycleLayout) (l at id : ℕ) (mail : List Mail) → IsMail mail → mail_offer layout l mail at ≡ Some id → 0x200 ≤ id
offered-asynchronous layout l at id mail known offered =
    let among = Offers-among layout l at mail id (offered-request layout l at id mail known offered) in
    let least = All-map (λ n. 0x200 ≤ n) (λ box. box.identifier) mail known.least in
    grind arith

pub offered-early : (layout : CycleLayout) (l at id : ℕ) (mail : List Mail) → IsMail mail → mail_offer layout l mail at ≡ Some id → at < sync_start layout (at / layout.cycle) l
offered-early layout l at id mail known offered = grind (arith, offered-request)

-- the frame of the first unsent request
pub frame-is : (frame : DataFrame) (id : ℕ) (found : Option Request) → Some frame ≡ option_map (λ request. request.frame) found
    → ((request : Request) → found ≡ Some request → request.frame.identifier ≡ id)
    → frame ≡ record { identifier = id; bytes = option_map_or (λ request. request.frame.bytes) found [] }
frame-is frame id found is own = grind (arith, none-some, same_Some)

-- there is no first request
pub no-first : (found : Option Request) → is_some found ≡ false → found ≡ None
no-first found none = grind (arith, false≢true)
