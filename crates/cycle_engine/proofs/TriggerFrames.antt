-- The trigger frames of a cycle: which of them are left behind some that were sent, and what the bus does with them.
use Rattle.std.proofs.Common.{◌≡◌, ℕ, zero, suc, ◌+◌, ◌*◌, ◌<◌, ◌≤◌, List, [], ◌∷◌, ◌++◌, length, map, All, AllPairs, Contains, get_or, inl, inr, refl, sym, ap, subst, arith, append_assoc, append-nil}
use Rattle.std.proofs.lemmas.Grind.{common_steps}
use Rattle.std.specs.Prelude.{⊤}
use Rattle.std.proofs.lemmas.Bool.{cases_lt}
use Rattle.std.proofs.lemmas.List.{map-append}
use Rattle.std.proofs.lemmas.List.Elements.{All-append, All-cons, All-contains, All-head, All-nil, All-tail, Contains-append_cases, Contains-append_right}
use Rattle.can_frame.specs.DataFrame.{DataFrame}
use Rattle.can_frame.specs.Wire.{wire_length}
use Rattle.can_frame.specs.declared.data_frame.TimedFrame.{TimedFrame}
use Rattle.can_frame.proofs.Shared.{wire-most}
use Rattle.cycle_layout.specs.Layout.{CycleLayout, trigger_part}
use Rattle.requirement_table.specs.Instance.{Instance}
use Rattle.trigger_kind.specs.Kind.{greatest_trigger}
use Rattle.trigger_codec.specs.Bytes.{triggers_with}
use Rattle.trigger_codec.proofs.Shared.{eight_bytes}
pub use Rattle.trigger_codec.proofs.Shared.{frames_long, low_ids, opens_last, rising}
use Rattle.async_window.specs.declared.request.Request.{Request}
use Rattle.bus_line.specs.Trace.{Follows, IsNext, Offers, end_of, free_after}
use Rattle.requirement_table.specs.Opening.{Opening, width_of}
use Rattle.node_model.specs.Opening.{start_of}
use Rattle.node_model.specs.Offered.{OffersRequest, OffersTrigger, trigger_frames}
use Rattle.cycle_engine.specs.Offered.{offered_in}
use Rattle.cycle_engine.proofs.Lists.{AllPairs-head, AllPairs-tail, Contains-cases, Contains-from_map, Contains-here, Contains-later, Contains-nil}

-- so long each is at most
pub frames_short : (slots cycle l mask : ℕ) → All (λ frame. wire_length frame ≤ 135) (triggers_with slots cycle l mask)
frames_short slots cycle l mask = grind (arith, wire-most, eight_bytes)

-- Frames that start one at once behind the other, from a time on
pub record StartAt (free : ℕ) (sent : TimedFrame) : Type 0 where
  pub start : sent.start ≡ free
  pub whole : sent.len ≡ wire_length sent.frame

abbrev pub AtOnce : ℕ → List TimedFrame → Type 0
AtOnce free [] = ⊤
AtOnce free (sent ∷ later) = StartAt free sent × AtOnce (end_of sent) later

pub free_after-later : (free : ℕ) (sent : List TimedFrame) → AtOnce free sent → free ≤ free_after free sent
free_after-later free [] at_once = omega arith
free_after-later free (sent ∷ later) (starts, at_once) = omega (arith, starts.start, free_after-later (end_of sent) later at_once)

-- What is left of the trigger frames of a cycle

module _ (layout : CycleLayout) (opening : Opening) where
  -- behind frames `past` that started before the cycle, these trigger frames were sent, and those are left
  pub record AreLeft (past done : List TimedFrame) (left : List DataFrame) : Type 0 where
    pub all : map (λ sent. sent.frame) done ++ left ≡ trigger_frames layout opening
    pub before : All (λ sent. sent.start < start_of layout opening) past
    pub begun : All (λ sent. start_of layout opening ≤ sent.start) done

  pub AreLeft-all : (past : List TimedFrame) → All (λ sent. sent.start < start_of layout opening) past → AreLeft past [] (trigger_frames layout opening)
  AreLeft-all past before = record { all = refl; before = before; begun = All-nil (λ sent. start_of layout opening ≤ sent.start) }

  pub AreLeft-more : (past done : List TimedFrame) (frame : DataFrame) (left : List DataFrame) (sent : TimedFrame) → sent.frame ≡ frame → start_of layout opening ≤ sent.start
      → AreLeft past done (frame ∷ left) → AreLeft past (done ++ sent ∷ []) left
  AreLeft-more past done frame left sent is late sofar = grind (arith, common_steps, map-append, append_assoc)

  module _ (past done : List TimedFrame) (left : List DataFrame) (sofar : AreLeft past done left) where
    rising_here : AllPairs (λ one other. one.identifier < other.identifier) (map (λ sent. sent.frame) done ++ left)
    rising_here = subst (AllPairs (λ one other. one.identifier < other.identifier)) (sym sofar.all) (rising layout.slots opening.cycle (width_of opening) opening.mask)

    pub is_low : (frame : DataFrame) → Contains left frame → frame.identifier ≤ greatest_trigger
    is_low frame has =
        All-contains (λ f. f.identifier ≤ greatest_trigger) (trigger_frames layout opening) frame (low_ids layout.slots opening.cycle (width_of opening) opening.mask)
        (subst (λ fs. Contains fs frame) sofar.all (Contains-append_right (map (λ sent. sent.frame) done) left frame has))

    -- in a list whose front and back are in order, an element of the front stands before one of the back
    front_before_back : (front back : List DataFrame) → AllPairs (λ one other. one.identifier < other.identifier) (front ++ back)
        → (one other : DataFrame) → Contains front one → Contains back other → one.identifier < other.identifier
    front_before_back [] back pairs one other in_front in_back = absurd (Contains-nil one in_front)
    front_before_back (x ∷ front) back pairs one other in_front in_back = elim (Contains-cases x front one in_front) [
      | inl same ↦
          subst (λ f. f.identifier < other.identifier) same
          (All-contains (λ f. x.identifier < f.identifier) (front ++ back) other
          (AllPairs-head (λ a b. a.identifier < b.identifier) x (front ++ back) pairs) (Contains-append_right front back other in_back))
      | inr later ↦ front_before_back front back (AllPairs-tail (λ a b. a.identifier < b.identifier) x (front ++ back) pairs) one other later in_back
    ]

    -- one that is left is offered in the trigger part
    pub offers_left : (frame : DataFrame) (at : ℕ) → Contains left frame → start_of layout opening ≤ at → at < start_of layout opening + trigger_part layout
        → OffersTrigger layout opening (past ++ done) at frame
    offers_left frame at has late early = record {
      begun = late;
      within = early;
      among = subst (λ fs. Contains fs frame) sofar.all (Contains-append_right (map (λ sent. sent.frame) done) left frame has);
      unsent = All-append (λ sent. sent.frame.identifier ≡ frame.identifier → sent.start < start_of layout opening) past done
          (λ k d within same. sofar.before k d within)
          (λ k d within same.
          let sent = get_or done k d in
          let among : Contains (map (λ s. s.frame) done) sent.frame = contains_frame done k d within in
          absurd (omega (arith, same, front_before_back (map (λ s. s.frame) done) left rising_here sent.frame frame among has)));
    }
      where
        contains_frame : (xs : List TimedFrame) (k : ℕ) (d : TimedFrame) → k < length xs → Contains (map (λ s. s.frame) xs) (get_or xs k d).frame
        contains_frame [] k d within = absurd (omega arith)
        contains_frame (x ∷ xs) zero d within = Contains-here x.frame (map (λ s. s.frame) xs)
        contains_frame (x ∷ xs) (suc k) d within = Contains-later x.frame (map (λ s. s.frame) xs) (get_or xs k d).frame (contains_frame xs k d (omega arith))

    -- and no other one is
    pub is_left : (frame : DataFrame) (at : ℕ) → OffersTrigger layout opening (past ++ done) at frame → Contains left frame
    is_left frame at offers = elim (Contains-append_cases (map (λ sent. sent.frame) done) left frame (subst (λ fs. Contains fs frame) (sym sofar.all) offers.among)) [
      | inl was ↦
          let found = Contains-from_map (λ sent. sent.frame) done frame was in
          let early = All-contains (λ sent. sent.frame.identifier ≡ frame.identifier → sent.start < start_of layout opening) (past ++ done) found.0 offers.unsent
          (Contains-append_right past done found.0 found.1) (ap (λ f. f.identifier) found.2) in
          absurd (omega (arith, early, All-contains (λ sent. start_of layout opening ≤ sent.start) done found.0 sofar.begun found.1))
      | inr left_over ↦ left_over
    ]

  -- all of them, where they were sent one at once behind the other
  pub begun-at : (free : ℕ) (sent : List TimedFrame) → start_of layout opening ≤ free → AtOnce free sent → All (λ s. start_of layout opening ≤ s.start) sent
  begun-at free [] late at_once = All-nil (λ s. start_of layout opening ≤ s.start)
  begun-at free (sent ∷ later) late (starts, at_once) =
      All-cons (λ s. start_of layout opening ≤ s.start) sent later (omega (arith, late, starts.start)) (begun-at (end_of sent) later (omega (arith, late, starts.start)) at_once)

  pub AreLeft-sent : (past : List TimedFrame) (free : ℕ) (sent : List TimedFrame) → All (λ s. s.start < start_of layout opening) past
      → map (λ s. s.frame) sent ≡ trigger_frames layout opening → start_of layout opening ≤ free → AtOnce free sent → AreLeft past sent []
  AreLeft-sent past free sent before are late at_once = grind (arith, append-nil, begun-at)

  -- no trigger frame is offered any more
  abbrev pub NoTrigger : List TimedFrame → Type 0
  NoTrigger past = (at : ℕ) (frame : DataFrame) → OffersTrigger layout opening past at frame → ⊥

  pub NoTrigger-sent : (past done : List TimedFrame) → AreLeft past done [] → NoTrigger (past ++ done)
  NoTrigger-sent past done sofar at frame offers = Contains-nil frame (is_left past done [] sofar frame at offers)

  All-front : (P : TimedFrame → Type 0) (front back : List TimedFrame) → All P (front ++ back) → All P front
  All-front P [] back all = All-nil P
  All-front P (x ∷ front) back all = All-cons P x front (All-head P x (front ++ back) all) (All-front P front back (All-tail P x (front ++ back) all))

  pub NoTrigger-more : (past more : List TimedFrame) → NoTrigger past → NoTrigger (past ++ more)
  NoTrigger-more past more none at frame offers =
      none at frame (record {
        begun = offers.begun;
        within = offers.within;
        among = offers.among;
        unsent = All-front (λ sent. sent.frame.identifier ≡ frame.identifier → sent.start < start_of layout opening) past more offers.unsent;
      })

  -- What is next on the bus, while trigger frames are left

  module _ (sends : Instance → List ℕ) (requests : List Request) (past done : List TimedFrame) (frame : DataFrame) (left : List DataFrame) (sofar : AreLeft past done (frame ∷ left))
      (asynchronous : (before : List TimedFrame) (at : ℕ) (other : DataFrame) → OffersRequest layout requests opening before at other → greatest_trigger < other.identifier) where
    -- the first of those that are left has the least identifier of all frames that are offered
    pub least_left : (at : ℕ) (other : DataFrame) → offered_in sends layout requests opening (past ++ done) at other → frame.identifier ≤ other.identifier
    least_left at other (inl trigger) = elim (Contains-cases frame left other (is_left past done (frame ∷ left) sofar other at trigger)) [
      | inl same ↦ omega (arith, ap (λ f. f.identifier) same)
      | inr later ↦
          let here : Contains (map (λ s. s.frame) done ++ frame ∷ []) frame = Contains-append_right (map (λ s. s.frame) done) (frame ∷ []) frame (Contains-here frame []) in
          let pairs = subst (AllPairs (λ one two. one.identifier < two.identifier)) (sym (append_assoc (map (λ s. s.frame) done) (frame ∷ []) left)) (rising_here past done (frame ∷ left) sofar) in
          omega (arith, front_before_back past done (frame ∷ left) sofar (map (λ s. s.frame) done ++ frame ∷ []) left pairs frame other here later)
    ]
    least_left at other (inr (inl request)) = omega (arith, is_low past done (frame ∷ left) sofar frame (Contains-here frame left), asynchronous (past ++ done) at other request)
    least_left at other (inr (inr (slot, offers))) = omega (arith, is_low past done (frame ∷ left) sofar frame (Contains-here frame left), offers.identifier)

    -- it is sent at once, and no other frame
    pub next_left : (free until : ℕ) (sent : TimedFrame) → start_of layout opening ≤ free → free < start_of layout opening + trigger_part layout
        → IsNext (offered_in sends layout requests opening) (past ++ done) free until sent → StartAt free sent × (sent.frame ≡ frame)
    next_left free until sent late early next =
        let offer = offers_left past done (frame ∷ left) sofar frame free (Contains-here frame left) late early in
        let start : sent.start ≡ free = elim (cases_lt free sent.start) [
          | inl gap ↦ absurd (next.first free frame (omega arith) gap (inl offer))
          | inr no_gap ↦ omega (arith, no_gap, next.when_free)
        ] in
        let low : sent.frame.identifier ≤ frame.identifier = next.least.least frame (subst (λ at. offered_in sends layout requests opening (past ++ done) at frame) (sym start) (inl offer)) in
        let is_first : frame.identifier ≤ greatest_trigger = is_low past done (frame ∷ left) sofar frame (Contains-here frame left) in (
          record { start = start; whole = next.whole },
          elim next.least.offered [
            | inl trigger ↦ elim (Contains-cases frame left sent.frame (is_left past done (frame ∷ left) sofar sent.frame sent.start trigger)) [
              | inl same ↦ sym same
              | inr later ↦
                  let here : Contains (map (λ s. s.frame) done ++ frame ∷ []) frame = Contains-append_right (map (λ s. s.frame) done) (frame ∷ []) frame (Contains-here frame []) in
                  let pairs = subst (AllPairs (λ one two. one.identifier < two.identifier)) (sym (append_assoc (map (λ s. s.frame) done) (frame ∷ []) left)) (rising_here past done (frame ∷ left) sofar) in
                  absurd (omega (arith, low, front_before_back past done (frame ∷ left) sofar (map (λ s. s.frame) done ++ frame ∷ []) left pairs frame sent.frame here later))
            ]
            | inr choice ↦ elim choice [
              | inl request ↦ absurd (omega (arith, low, is_first, asynchronous (past ++ done) sent.start sent.frame request))
              | inr of_slot ↦ absurd (omega (arith, low, is_first, of_slot.1.identifier))
            ]
          ],
        )

    -- and the other way round
    pub is_next : (free until : ℕ) (sent : TimedFrame) → start_of layout opening ≤ free → free < start_of layout opening + trigger_part layout → free < until
        → StartAt free sent → sent.frame ≡ frame → IsNext (offered_in sends layout requests opening) (past ++ done) free until sent
    is_next free until sent late early within starts is = record {
      when_free = omega (arith, starts.start);
      within = omega (arith, starts.start, within);
      first = λ at other from before offered. absurd (omega (arith, from, before, starts.start));
      least = record {
        offered = subst (λ f. offered_in sends layout requests opening (past ++ done) sent.start f) (sym is)
            (inl (offers_left past done (frame ∷ left) sofar frame sent.start (Contains-here frame left) (omega (arith, starts.start, late)) (omega (arith, starts.start, early))));
        least = λ other offered. subst (λ f. f.identifier ≤ other.identifier) (sym is) (least_left sent.start other offered);
      };
      whole = starts.whole;
    }

  -- All of them, and what follows them
  module _ (sends : Instance → List ℕ) (requests : List Request)
      (asynchronous : (before : List TimedFrame) (at : ℕ) (other : DataFrame) → OffersRequest layout requests opening before at other → greatest_trigger < other.identifier) where
    abbrev offers : Offers
    offers = offered_in sends layout requests opening

    abbrev part_ends : ℕ
    part_ends = start_of layout opening + trigger_part layout

    -- the trigger frames that are left, one at once behind the other, and then what follows them
    pub Follows-left : (past done : List TimedFrame) (left : List DataFrame) (free until : ℕ) (sent later : List TimedFrame) → AreLeft past done left
        → start_of layout opening ≤ free → free + length left * 135 ≤ part_ends → part_ends ≤ until → All (λ frame. wire_length frame ≤ 135) left
        → map (λ s. s.frame) sent ≡ left → AtOnce free sent → Follows offers (past ++ (done ++ sent)) (free_after free sent) until later
        → Follows offers (past ++ done) free until (sent ++ later)
    Follows-left past done left free until [] later sofar late room ends short are at_once follows = grind (arith, append-nil)
    Follows-left past done [] free until (sent ∷ rest) later sofar late room ends short are at_once follows = absurd (cc)
    Follows-left past done (frame ∷ left) free until (sent ∷ rest) later sofar late room ends short are (starts, at_once) follows =
        let is : sent.frame ≡ frame = cc in
        let others : map (λ s. s.frame) rest ≡ left = cc in
        let long : wire_length frame ≤ 135 = All-head (λ f. wire_length f ≤ 135) frame left short in
        let ended : end_of sent ≤ free + 135 = omega (arith, long, starts.start, starts.whole, ap wire_length is) in
        let begun : start_of layout opening ≤ sent.start = omega (arith, late, starts.start) in
        let behind = Follows-left past (done ++ sent ∷ []) left (end_of sent) until rest later (AreLeft-more past done frame left sent is begun sofar)
        (omega (arith, begun)) (omega (arith, room, ended)) ends (All-tail (λ f. wire_length f ≤ 135) frame left short) others at_once
        (subst (λ front. Follows offers (past ++ front) (free_after (end_of sent) rest) until later) (sym (append_assoc done (sent ∷ []) rest)) follows) in (
          is_next sends requests past done frame left sofar asynchronous free until sent late (omega (arith, room)) (omega (arith, room, ends)) starts is,
          subst (λ front. Follows offers front (end_of sent) until (rest ++ later)) (sym (append_assoc past done (sent ∷ []))) behind,
        )

    -- frames that follow, cut behind the trigger frames that are left
    pub record CutBehind (past done : List TimedFrame) (left : List DataFrame) (free until : ℕ) (frames : List TimedFrame) : Type 0 where
      pub sent : List TimedFrame
      pub later : List TimedFrame
      pub split : frames ≡ sent ++ later
      pub are : map (λ s. s.frame) sent ≡ left
      pub at_once : AtOnce free sent
      pub sofar : AreLeft past (done ++ sent) []
      pub follows : Follows offers (past ++ (done ++ sent)) (free_after free sent) until later

    pub cut-left : (past done : List TimedFrame) (left : List DataFrame) (free until : ℕ) (frames : List TimedFrame) → AreLeft past done left
        → start_of layout opening ≤ free → free + length left * 135 ≤ part_ends → part_ends ≤ until → All (λ frame. wire_length frame ≤ 135) left
        → Follows offers (past ++ done) free until frames → CutBehind past done left free until frames
    cut-left past done [] free until frames sofar late room ends short follows = grind (arith, append-nil)
    cut-left past done (frame ∷ left) free until [] sofar late room ends short nothing =
        absurd (nothing free frame (omega arith) (omega (arith, room, ends))
        (inl (offers_left past done (frame ∷ left) sofar frame free (Contains-here frame left) late (omega (arith, room)))))
    cut-left past done (frame ∷ left) free until (sent ∷ later) sofar late room ends short (next, follows) =
        let first = next_left sends requests past done frame left sofar asynchronous free until sent late (omega (arith, room)) next in
        let starts : StartAt free sent = first.0 in
        let is : sent.frame ≡ frame = first.1 in
        let long : wire_length frame ≤ 135 = All-head (λ f. wire_length f ≤ 135) frame left short in
        let ended : end_of sent ≤ free + 135 = omega (arith, long, starts.start, starts.whole, ap wire_length is) in
        let begun : start_of layout opening ≤ sent.start = omega (arith, late, starts.start) in
        let rest = cut-left past (done ++ sent ∷ []) left (end_of sent) until later (AreLeft-more past done frame left sent is begun sofar)
        (omega (arith, begun)) (omega (arith, room, ended)) ends (All-tail (λ f. wire_length f ≤ 135) frame left short)
        (subst (λ front. Follows offers front (end_of sent) until later) (append_assoc past done (sent ∷ [])) follows) in
        grind (arith, append_assoc)
