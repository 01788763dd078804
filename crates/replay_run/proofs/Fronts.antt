-- What a CAN trace sends before the start of a cycle is the CAN trace of the cycles opened below it, whatever bytes an
-- instance sends.
use Rattle.std.proofs.Common.{◌≡◌, ℕ, ◌*◌, ◌<◌, ◌≤◌, nat_lt, Bool, List, [], ◌∷◌, ◌++◌, All, AllPairs, get_or, refl, sym, ap, ◌∙◌, subst, arith, inl, inr, suc}
use Rattle.std.proofs.Math.Nat.{add-mul, mul-le-mul_right}
use Rattle.std.proofs.lemmas.Bool.{cases_lt, le-ltb, lt-ltb, ltb-true}
use Rattle.std.proofs.lemmas.List.Elements.{All-cons, All-contains, All-filter, All-head, All-nil, All-tail, Contains-append_cases, Contains-append_left, filter_passes}
use Rattle.std.proofs.lemmas.List.Kept.{AllPairs-filter}
use Rattle.can_frame.specs.DataFrame.{DataFrame}
use Rattle.can_frame.specs.Wire.{wire_length}
use Rattle.can_frame.specs.declared.data_frame.TimedFrame.{TimedFrame}
use Rattle.cycle_layout.specs.Layout.{CycleLayout, IsLayout}
use Rattle.requirement_table.specs.Instance.{Instance}
use Rattle.requirement_table.specs.Opening.{Opening}
use Rattle.async_window.specs.declared.request.Request.{Request}
use Rattle.bus_line.specs.Trace.{IsLeastOffered, end_of, started_before}
use Rattle.node_model.specs.Opening.{end_of_cycle, start_of}
use Rattle.cycle_engine.specs.Offered.{IsCanTrace, offered, offered_in}
use Rattle.kept_run.proofs.Shared.{Contains-filter}

-- what starts before a time, and what starts from it on

pub started-none : (at : ℕ) (frames : List TimedFrame) → All (λ sent. at ≤ sent.start) frames
    → started_before at frames ≡ []
started-none at [] none = refl
started-none at (sent ∷ later) none =
    let late = All-head (λ s. at ≤ s.start) sent later none in
    rw (le-ltb sent.start at late) (started-none at later (All-tail (λ s. at ≤ s.start) sent later none))

pub started-all : (at : ℕ) (frames : List TimedFrame) → All (λ sent. sent.start < at) frames
    → started_before at frames ≡ frames
started-all at [] all = refl
started-all at (sent ∷ later) all =
    let early = All-head (λ s. s.start < at) sent later all in
    rw (lt-ltb sent.start at early) (ap (λ l. sent ∷ l) (started-all at later (All-tail (λ s. s.start < at) sent later all)))

started-first : (at : ℕ) (sent : TimedFrame) (later : List TimedFrame) → sent.start < at
    → started_before at (sent ∷ later) ≡ sent ∷ started_before at later
started-first at sent later early = rw (lt-ltb _ _ early)

started-other : (at : ℕ) (sent : TimedFrame) (later : List TimedFrame) → at ≤ sent.start
    → started_before at (sent ∷ later) ≡ started_before at later
started-other at sent later late = rw (le-ltb _ _ late)

-- what starts before a time starts before a later one
pub started-within : (at until : ℕ) (frames : List TimedFrame) → at ≤ until
    → started_before at (started_before until frames) ≡ started_before at frames
started-within at until [] order = refl
started-within at until (sent ∷ later) order = elim (cases_lt sent.start at) [
  | inl early ↦
      ap (started_before at) (started-first until sent later (omega arith))
      ∙ started-first at sent (started_before until later) early
      ∙ ap (λ l. sent ∷ l) (started-within at until later order)
      ∙ sym (started-first at sent later early)
  | inr late ↦ elim (cases_lt sent.start until) [
    | inl before ↦
        ap (started_before at) (started-first until sent later before)
        ∙ started-other at sent (started_before until later) late
        ∙ started-within at until later order
        ∙ sym (started-other at sent later late)
    | inr after ↦
        ap (started_before at) (started-other until sent later after)
        ∙ started-within at until later order
        ∙ sym (started-other at sent later late)
  ]
]

pub started-early : (at : ℕ) (frames : List TimedFrame) → All (λ sent. sent.start < at) (started_before at frames)
started-early at frames k d within = ltb-true _ _ (filter_passes (λ sent. nat_lt sent.start at) frames k d within)

-- frames that come one after the other, cut at a time
pub record IsCut (at : ℕ) (frames : List TimedFrame) : Type 0 where
  pub later : List TimedFrame
  pub all : frames ≡ started_before at frames ++ later
  pub after : All (λ sent. at ≤ sent.start) later

pub cut-at : (at : ℕ) (frames : List TimedFrame) → AllPairs (λ earlier later. end_of earlier ≤ later.start) frames
    → IsCut at frames
cut-at at [] apart = record { later = []; all = refl; after = All-nil (λ sent. at ≤ sent.start) }
cut-at at (sent ∷ more) apart = elim (cases_lt sent.start at) [
  | inl early ↦
      let rest = cut-at at more (λ i j d before within. apart (suc i) (suc j) d (omega arith) (omega arith)) in
      record {
        later = rest.later;
        all = ap (λ l. sent ∷ l) rest.all ∙ ap (λ l. l ++ rest.later) (sym (started-first at sent more early));
        after = rest.after;
      }
  | inr late ↦
      let behind : All (λ s. at ≤ s.start) (sent ∷ more) =
      All-cons (λ s. at ≤ s.start) sent more late (λ k d within. let e = apart 0 (suc k) d (omega arith) (omega arith) in omega arith) in
      record { later = sent ∷ more; all = ap (λ l. l ++ sent ∷ more) (sym (started-none at (sent ∷ more) behind)); after = behind }
]

module _ (sends : Instance → List ℕ) (layout : CycleLayout) (known : IsLayout layout) (requests : List Request) where
  -- what is offered in a cycle is offered at a time of the cycle
  pub in_cycle : (opening : Opening) (past : List TimedFrame) (at : ℕ) (frame : DataFrame)
      → offered_in sends layout requests opening past at frame
      → (start_of layout opening ≤ at) × (at < end_of_cycle layout opening)
  in_cycle opening past at frame (inl trigger) =
      let longer = add-mul opening.cycle 1 layout.cycle in
      (trigger.begun, omega (arith, trigger.within, longer, known.room))
  in_cycle opening past at frame (inr (inl request)) =
      let allowed = request.may_start.allowed in
      (omega (arith, allowed.opened), omega (arith, allowed.whole))
  in_cycle opening past at frame (inr (inr (slot, offers))) = (offers.begun, offers.within)

  module _ (openings more : List Opening) (n : ℕ) (later : All (λ o. n ≤ o.cycle) more) where
    -- before the start of cycle n, openings of cycles from n on offer nothing
    offered-more : (past : List TimedFrame) (at : ℕ) (frame : DataFrame)
        → offered sends layout requests openings past at frame
        → offered sends layout requests (openings ++ more) past at frame
    offered-more past at frame offer = (offer.0, Contains-append_left openings more offer.0 offer.1, offer.2)

    offered-before : (past : List TimedFrame) (at : ℕ) (frame : DataFrame) → at < n * layout.cycle
        → offered sends layout requests (openings ++ more) past at frame → offered sends layout requests openings past at frame
    offered-before past at frame early offer = elim (Contains-append_cases openings more offer.0 offer.1) [
      | inl among ↦ (offer.0, among, offer.2)
      | inr behind ↦
          let o : Opening = offer.0 in
          let number : n ≤ o.cycle = All-contains (λ x. n ≤ x.cycle) more o later behind in
          let start : n * layout.cycle ≤ o.cycle * layout.cycle = mul-le-mul_right layout.cycle number in
          let time = in_cycle o past at frame offer.2 in
          absurd (omega (arith, time.0, start, early))
    ]

    pub front-can_trace : (count : ℕ) (frames : List TimedFrame) → n ≤ count
        → IsCanTrace sends layout requests (openings ++ more) count frames
        → IsCanTrace sends layout requests openings n (started_before (n * layout.cycle) frames)
    front-can_trace count frames few trace =
        let until : ℕ = n * layout.cycle in
        let is_early : TimedFrame → Bool = λ sent. nat_lt sent.start until in
        let front : List TimedFrame = started_before until frames in
        let longer : until ≤ count * layout.cycle = mul-le-mul_right layout.cycle few in
        record {
          ordered = record {
            lengths = All-filter is_early (λ sent. sent.len ≡ wire_length sent.frame) frames trace.ordered.lengths;
            apart = AllPairs-filter (λ earlier late. end_of earlier ≤ late.start) is_early frames trace.ordered.apart;
          };
          within = started-early until frames;
          least = λ k d here.
              let sent : TimedFrame = get_or front k d in
              let early : sent.start < until = started-early until frames k d here in
              let least : IsLeastOffered (offered sends layout requests (openings ++ more)) (started_before sent.start frames) sent.start sent.frame =
              All-filter is_early (λ s. IsLeastOffered (offered sends layout requests (openings ++ more)) (started_before s.start frames) s.start s.frame) frames trace.least k d here in
              subst (λ past. IsLeastOffered (offered sends layout requests openings) past sent.start sent.frame)
              (sym (started-within sent.start until frames (omega arith)))
              (record {
                offered = offered-before (started_before sent.start frames) sent.start sent.frame early least.offered;
                least = λ other offers. least.least other (offered-more (started_before sent.start frames) sent.start other offers);
              });
          busy = λ at frame early offers.
              let past = started-within at until frames (omega arith) in
              let (k, sent, within, same, covers) = trace.busy at frame (omega arith)
              (offered-more (started_before at frames) at frame (subst (λ p. offered sends layout requests openings p at frame) past offers)) in
              let (j, here, is) = Contains-filter is_early frames sent (k, within, same) (lt-ltb sent.start until (omega (arith, covers.0))) in
              (j, sent, here, is, covers);
        }
