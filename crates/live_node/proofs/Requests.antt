-- Which request is offered, and how long.
use Rattle.std.proofs.Common.{◌≡◌, ◌≢◌, ◌==◌, ℕ, zero, suc, ◌+◌, ◌-◌, ◌<◌, ◌≤◌, ◌&&◌, Bool, true, false, not, cond, List, [], ◌∷◌, filter, length, get_or, map, min, AllPairs, Option, Some, None, ◌⊎◌, inl, inr, refl, sym, ap, ◌∙◌, subst, arith}
use Rattle.std.specs.List.{cons_option, fold, slice_get}
use Rattle.std.specs.Option.{option_map_or}
use Rattle.std.specs.Prelude.{IfSome}
use Rattle.std.proofs.lemmas.Bool.{cases_Bool, false≢true}
use Rattle.std.proofs.lemmas.Bool.Decides.{eqb_tells, nat_tests}
use Rattle.stuff_bound.specs.Stuffing.{worst}
use Rattle.can_frame.specs.DataFrame.{DataFrame}
use Rattle.cycle_layout.specs.Layout.{CycleLayout, trigger_part}
use Rattle.async_window.specs.Mailbox.{IsLeastWith, least_of}
use Rattle.live_node.specs.Live.{Waiting, box_of, frames_of}
use Rattle.live_node.specs.Sending.{may_begin, may_start, request_offer}
use Rattle.live_node.specs.declared.offers.LiveOffer.{LiveOffer}
use Rattle.live_node.proofs.Boxes.{box_of-at}

-- the least of numbers, by the first of them
fold_min : (a b : ℕ) (xs : List ℕ) → fold min (min a b) xs ≡ min a (fold min b xs)
fold_min a b [] = refl
fold_min a b (x ∷ xs) =
    let assoc : min (min a b) x ≡ min a (min b x) = omega arith in
    ap (λ n. fold min n xs) assoc ∙ fold_min a (min b x) xs

least_of-cons : (x : ℕ) (xs : List ℕ) → least_of (x ∷ xs) ≡ Some (option_map_or (min x) (least_of xs) x)
least_of-cons x [] = refl
least_of-cons x (y ∷ ys) = ap (λ n. Some n) (fold_min x y ys)

-- the identifier has requests that pass
abbrev pub Passes : (Waiting → Bool) → List Waiting → ℕ → Type 0
Passes test mail id = option_map_or test (box_of mail id) false ≡ true

module _ (test : Waiting → Bool) where
  passes-here : (box : Waiting) (mail : List Waiting) (id : ℕ) → (box.identifier == id) ≡ true → option_map_or test (box_of (box ∷ mail) id) false ≡ test box
  passes-here box mail id here = ap (λ b. option_map_or test (cond b (Some box) (box_of mail id)) false) here

  passes-later : (box : Waiting) (mail : List Waiting) (id : ℕ) → (box.identifier == id) ≡ false
      → option_map_or test (box_of (box ∷ mail) id) false ≡ option_map_or test (box_of mail id) false
  passes-later box mail id later = ap (λ b. option_map_or test (cond b (Some box) (box_of mail id)) false) later

  -- it is one of the identifiers
  pub passes-among : (mail : List Waiting) (id : ℕ) → Passes test mail id
      → (k : ℕ) × (k < length mail) × ((d : Waiting) → (get_or mail k d).identifier ≡ id)
  passes-among [] id passes = absurd (false≢true passes)
  passes-among (box ∷ mail) id passes =
      elim (eqb_tells box.identifier id) [
        | inl here ↦ (0, omega arith, λ d. here.1)
        | inr later ↦
            let among = passes-among mail id (sym (passes-later box mail id later.0) ∙ passes) in
            (suc among.0, omega (arith, among.1), λ d. among.2 d)
      ]

  pub least-passing : (mail : List Waiting) → AllPairs (λ one other. one.identifier ≢ other.identifier) mail
      → IsLeastWith (Passes test mail) (least_of (map (λ box. box.identifier) (filter test mail)))
  least-passing [] apart = λ n passes. false≢true passes
  least-passing (box ∷ mail) apart =
      let rest : List ℕ = map (λ x. x.identifier) (filter test mail) in
      let later : IsLeastWith (Passes test mail) (least_of rest)
      = least-passing mail (λ i j d before within. apart (suc i) (suc j) d (omega arith) (omega arith)) in
      elim (cases_Bool (test box)) [
        | inl passed ↦
            let value : least_of (map (λ x. x.identifier) (filter test (box ∷ mail))) ≡ Some (option_map_or (min box.identifier) (least_of rest) box.identifier)
            = ap (λ b. least_of (map (λ x. x.identifier) (cond b (box ∷ filter test mail) (filter test mail)))) passed ∙ least_of-cons box.identifier rest in
            subst (IsLeastWith (Passes test (box ∷ mail))) (sym value) (with-first box mail (least_of rest) passed later)
        | inr failed ↦
            let value : least_of (map (λ x. x.identifier) (filter test (box ∷ mail))) ≡ least_of rest
            = ap (λ b. least_of (map (λ x. x.identifier) (cond b (box ∷ filter test mail) (filter test mail)))) failed in
            subst (IsLeastWith (Passes test (box ∷ mail))) (sym value)
            (without-first box mail (least_of rest) failed
            (λ n passes same. let among = passes-among mail n passes in
            apart 0 (suc among.0) box (omega arith) (omega (arith, among.1)) (same ∙ sym (among.2 box))) later)
      ]
    where
      with-first : (box : Waiting) (mail : List Waiting) (least : Option ℕ) → test box ≡ true → IsLeastWith (Passes test mail) least
          → IsLeastWith (Passes test (box ∷ mail)) (Some (option_map_or (min box.identifier) least box.identifier))
      with-first box mail None passed none = grind (arith, eqb_tells, passes-here, passes-later)
      with-first box mail (Some n) passed some = grind (arith, eqb_tells, passes-here, passes-later)

      without-first : (box : Waiting) (mail : List Waiting) (least : Option ℕ) → test box ≡ false
          → ((n : ℕ) → Passes test mail n → box.identifier ≢ n) → IsLeastWith (Passes test mail) least → IsLeastWith (Passes test (box ∷ mail)) least
      without-first box mail None failed apart none = grind (arith, eqb_tells, passes-here, passes-later, false≢true)
      without-first box mail (Some n) failed apart some = grind (arith, eqb_tells, passes-here, passes-later, false≢true)

least-one : (Has : ℕ → Type 0) (one other : Option ℕ) → IsLeastWith Has one → IsLeastWith Has other → one ≡ other
least-one Has one other is is_other = grind arith

module _ (layout : CycleLayout) (l : ℕ) where
  abbrev opened : ℕ
  opened = trigger_part layout + layout.turnaround

  -- a request may start: which frame it is, and when that is
  pub record Starts (into : ℕ) (loaded : Bool) (frames : List DataFrame) : Type 0 where
    pub frame : DataFrame
    pub first : slice_get frames 0 ≡ Some frame
    pub free : loaded ≡ false
    pub begun : opened ≤ into
    pub whole : into + worst (length frame.bytes) ≤ layout.cycle - l

  starts-of : (into : ℕ) (loaded : Bool) (frames : List DataFrame) → (not loaded && may_begin layout l into frames) ≡ true
      → Starts into loaded frames
  starts-of into true frames may = absurd (false≢true may)
  starts-of into false [] may = absurd (false≢true may)
  starts-of into false (frame ∷ later) may =
      let begun : opened ≤ into = grind (arith, nat_tests) in
      let whole : into + worst (length frame.bytes) ≤ layout.cycle - l = grind (arith, nat_tests) in
      record { frame = frame; first = refl; free = refl; begun = begun; whole = whole }

  may-start : (into : ℕ) (loaded : Bool) (frames : List DataFrame) (frame : DataFrame) → loaded ≡ false → slice_get frames 0 ≡ Some frame
      → opened ≤ into → into + worst (length frame.bytes) ≤ layout.cycle - l → (not loaded && may_begin layout l into frames) ≡ true
  may-start into true frames frame free first begun whole = absurd (false≢true (sym free))
  may-start into false [] frame free first begun whole = grind arith
  may-start into false (some ∷ later) frame free first begun whole = grind (arith, nat_tests)

  starts-at : (into : ℕ) (box : Option Waiting) → option_map_or (may_start layout l into) box false ≡ true
      → (waiting : Waiting) × (box ≡ Some waiting) × Starts into waiting.loaded waiting.frames
  starts-at into None may = absurd (false≢true may)
  starts-at into (Some waiting) may = (waiting, refl, starts-of into waiting.loaded waiting.frames may)

  module _ (mail : List Waiting) (apart : AllPairs (λ one other. one.identifier ≢ other.identifier) mail) where
    -- the requests of what is offered
    pub offered-starts : (into id : ℕ) → request_offer layout l into mail ≡ Some id
        → (waiting : Waiting) × (box_of mail id ≡ Some waiting) × Starts into waiting.loaded waiting.frames
    offered-starts into id offered =
        let is : IsLeastWith (Passes (may_start layout l into) mail) (Some id) = subst (IsLeastWith (Passes (may_start layout l into) mail)) offered (least-passing (may_start layout l into) mail apart) in
        starts-at into (box_of mail id) is.0

    -- it is offered as long as its frame ends in time
    pub offered-stays : (into id later : ℕ) → request_offer layout l into mail ≡ Some id → into ≤ later
        → ((waiting : Waiting) (frame : DataFrame) → box_of mail id ≡ Some waiting → slice_get waiting.frames 0 ≡ Some frame
        → later + worst (length frame.bytes) ≤ layout.cycle - l)
        → request_offer layout l later mail ≡ Some id
    offered-stays into id later offered behind ends =
        let is : IsLeastWith (Passes (may_start layout l into) mail) (Some id) = subst (IsLeastWith (Passes (may_start layout l into) mail)) offered (least-passing (may_start layout l into) mail apart) in
        let at = starts-at into (box_of mail id) is.0 in
        let begun : opened ≤ into = at.2.begun in
        let still : Passes (may_start layout l later) mail id
        = ap (λ box. option_map_or (may_start layout l later) box false) at.1
        ∙ may-start later at.0.loaded at.0.frames at.2.frame at.2.free at.2.first (omega arith) (ends at.0 at.2.frame at.1 at.2.first) in
        least-one (Passes (may_start layout l later) mail) (request_offer layout l later mail) (Some id)
        (least-passing (may_start layout l later) mail apart) (
          still,
          λ n passes. let then = starts-at later (box_of mail n) passes in
              is.1 n (ap (λ box. option_map_or (may_start layout l into) box false) then.1
              ∙ may-start into then.0.loaded then.0.frames then.2.frame then.2.free then.2.first begun (omega (arith, then.2.whole))),
        )

    -- it starts earlier too, from the start of the window on
    pub starts-again : (early later id : ℕ) → opened ≤ early → early ≤ later → request_offer layout l later mail ≡ Some id
        → Passes (may_start layout l early) mail id
    starts-again early later id begun before offered =
        let at = offered-starts later id offered in
        ap (λ box. option_map_or (may_start layout l early) box false) at.1
        ∙ may-start early at.0.loaded at.0.frames at.2.frame at.2.free at.2.first begun (omega (arith, before, at.2.whole))

-- an offer is that of the first request of one of these identifiers, up to its last start
pub record HasUntil (layout : CycleLayout) (l : ℕ) (mail : List Waiting) (offer : LiveOffer) : Type 0 where
  pub place : ℕ
  pub within : place < length mail
  pub identifier : (d : Waiting) → (get_or mail place d).identifier ≡ offer.id
  pub ends : (d : Waiting) (frame : DataFrame) → slice_get (get_or mail place d).frames 0 ≡ Some frame
      → offer.until + worst (length frame.bytes) ≡ layout.cycle - l

-- the requests of an identifier are at the only place that has it
pub box_of-among : (id : ℕ) (mail : List Waiting) (place : ℕ) (d : Waiting) → AllPairs (λ one other. one.identifier ≢ other.identifier) mail
    → place < length mail → (get_or mail place d).identifier ≡ id → box_of mail id ≡ Some (get_or mail place d)
box_of-among id mail place d apart within here =
    box_of-at id mail place d within (λ k before is. apart k place d before within (is ∙ sym here)) here

pub until-frame : (layout : CycleLayout) (l : ℕ) (mail : List Waiting) (offer : LiveOffer)
    → AllPairs (λ one other. one.identifier ≢ other.identifier) mail → HasUntil layout l mail offer
    → (frame : DataFrame) → slice_get (frames_of mail offer.id) 0 ≡ Some frame → offer.until + worst (length frame.bytes) ≡ layout.cycle - l
until-frame layout l mail offer apart has frame first =
    let d : Waiting = record { identifier = 0; frames = []; room = 0; first = 0; loaded = false } in
    has.ends d frame
    (ap (λ o. slice_get (option_map_or (λ box. box.frames) o []) 0) (sym (box_of-among offer.id mail has.place d apart has.within (has.identifier d))) ∙ first)

pub some-until : (layout : CycleLayout) (l : ℕ) (mail : List Waiting) (offer : Option LiveOffer)
    → AllPairs (λ one other. one.identifier ≢ other.identifier) mail → IfSome offer (HasUntil layout l mail)
    → IfSome offer (λ found. (frame : DataFrame) → slice_get (frames_of mail found.id) 0 ≡ Some frame
    → found.until + worst (length frame.bytes) ≡ layout.cycle - l)
some-until layout l mail None apart has = tt
some-until layout l mail (Some offer) apart has = until-frame layout l mail offer apart has

-- one more of the requests that are still to be looked at
pub next-request : (test : Waiting → Bool) (box : Waiting) (mail : List Waiting) (offer : Option ℕ)
    → offer ≡ cond (test box) (Some box.identifier) None
    → map (λ b. b.identifier) (filter test (box ∷ mail)) ≡ cons_option offer (map (λ b. b.identifier) (filter test mail))
next-request test box mail offer is = by_test (test box) refl is
  where
    by_test : (b : Bool) → test box ≡ b → offer ≡ cond b (Some box.identifier) None
        → map (λ b. b.identifier) (filter test (box ∷ mail)) ≡ cons_option offer (map (λ b. b.identifier) (filter test mail))
    by_test true passed some =
        ap (λ b. map (λ x. x.identifier) (cond b (box ∷ filter test mail) (filter test mail))) passed
        ∙ ap (λ o. cons_option o (map (λ x. x.identifier) (filter test mail))) (sym some)
    by_test false failed none =
        ap (λ b. map (λ x. x.identifier) (cond b (box ∷ filter test mail) (filter test mail))) failed
        ∙ ap (λ o. cons_option o (map (λ x. x.identifier) (filter test mail))) (sym none)
