-- Laws of traces: the CAN trace in the words of its definition, and frame by frame.
use Rattle.std.proofs.Common.{◌≡◌, ℕ, ◌+◌, ◌<◌, ◌≤◌, max, nat_lt, List, [], ◌∷◌, ◌++◌, All, AllPairs, Any, ◌↔◌, inl, inr, refl, sym, ap, ◌∙◌, subst, arith, append_assoc, append-nil, get_or}
use Rattle.std.proofs.lemmas.Grind.{common_steps}
use Rattle.std.proofs.lemmas.Bool.{lt-ltb, le-ltb, cases_lt, cases_order}
use Rattle.std.proofs.lemmas.List.Elements.{All-cons, All-head, All-tail}
use Rattle.can_frame.specs.DataFrame.{DataFrame}
use Rattle.can_frame.proofs.Shared.{wire-positive}
use Rattle.can_frame.specs.Wire.{wire_length}
use Rattle.can_frame.specs.declared.data_frame.TimedFrame.{TimedFrame}
use Rattle.bus_line.specs.Trace.{Offers, IsOrdered, IsTrace, IsLeastOffered, IsNext, IsDetermined, NothingOffered, Follows, started_before, end_of, free_after, AgreeAlong}
use Rattle.bus_line.proofs.Lists.{AllPairs-head, AllPairs-tail, AllPairs-cons, Any-nil, Any-head, Any-tail, Any-cases, Any-none, filter-none}

-- the time lies within the frame's interval
abbrev Covers : ℕ → TimedFrame → Type 0
Covers at sent = (sent.start ≤ at) × (at < end_of sent)

started-none : (at : ℕ) (frames : List TimedFrame) → All (λ sent. at ≤ sent.start) frames → started_before at frames ≡ []
started-none at frames none = filter-none (λ sent. nat_lt sent.start at) frames (λ k d within. le-ltb _ _ (none k d within))

started-first : (at : ℕ) (sent : TimedFrame) (later : List TimedFrame) → sent.start < at
    → started_before at (sent ∷ later) ≡ sent ∷ started_before at later
started-first at sent later before = rw (lt-ltb _ _ before)

-- what the definition of the CAN trace says of the frames that begin on a bus that is free from `free` on
record Rest (offers : Offers) (until : ℕ) (past : List TimedFrame) (free : ℕ) (frames : List TimedFrame) : Type 0 where
  lengths : All (λ sent. sent.len ≡ wire_length sent.frame) frames
  apart : AllPairs (λ earlier later. end_of earlier ≤ later.start) frames
  when_free : All (λ sent. free ≤ sent.start) frames
  within : All (λ sent. sent.start < until) frames
  least : All (λ sent. IsLeastOffered offers (past ++ started_before sent.start frames) sent.start sent.frame) frames
  busy : (at : ℕ) (frame : DataFrame) → free ≤ at → at < until → offers (past ++ started_before at frames) at frame → Any (Covers at) frames

module _ (offers : Offers) (until : ℕ) where
  -- up to the first start, nothing has been started
  front : (past : List TimedFrame) (at : ℕ) (frames : List TimedFrame) → All (λ sent. at ≤ sent.start) frames
      → past ++ started_before at frames ≡ past
  front past at frames none = ap (λ started. past ++ started) (started-none at frames none) ∙ append-nil past

  -- after the first start, the first frame counts as past
  behind : (past : List TimedFrame) (at : ℕ) (sent : TimedFrame) (later : List TimedFrame) → sent.start < at
      → (past ++ sent ∷ []) ++ started_before at later ≡ past ++ started_before at (sent ∷ later)
  behind past at sent later before = grind (arith, append_assoc, started-first)

  takes_time : (sent : TimedFrame) → sent.len ≡ wire_length sent.frame → sent.start < end_of sent
  takes_time sent whole = omega (arith, whole, wire-positive sent.frame)

  -- where the first frame does not start before a time, no frame does
  none_before : (at : ℕ) (sent : TimedFrame) (later : List TimedFrame) → at ≤ sent.start → sent.start < end_of sent
      → All (λ x. end_of sent ≤ x.start) later → All (λ x. at ≤ x.start) (sent ∷ later)
  none_before at sent later early lasts after = grind arith

  to_rest : (past : List TimedFrame) (free : ℕ) (frames : List TimedFrame) → Follows offers past free until frames → Rest offers until past free frames
  to_rest past free [] nothing = grind (arith, append-nil)
  to_rest past free (sent ∷ later) (next, follows) =
      let rest = to_rest (past ++ sent ∷ []) (end_of sent) later follows in
      let lasts = takes_time sent next.whole in
      record {
        lengths = All-cons (λ x. x.len ≡ wire_length x.frame) sent later next.whole rest.lengths;
        apart = AllPairs-cons (λ earlier x. end_of earlier ≤ x.start) sent later rest.when_free rest.apart;
        when_free = All-cons (λ x. free ≤ x.start) sent later next.when_free (λ k d within. omega (arith, rest.when_free k d within, next.when_free));
        within = All-cons (λ x. x.start < until) sent later next.within rest.within;
        least = grind (arith, front, none_before, behind);
        busy = λ at frame from before offered. elim (cases_lt at sent.start) [
          | inl early ↦ absurd (next.first at frame from early (subst (λ started. offers started at frame) (front past at (sent ∷ later) (none_before at sent later (omega arith) lasts rest.when_free)) offered))
          | inr begun ↦ elim (cases_lt at (end_of sent)) [
            | inl covered ↦ Any-head (Covers at) sent later (begun, covered)
            | inr over ↦ Any-tail (Covers at) sent later (rest.busy at frame over before (subst (λ started. offers started at frame) (sym (behind past at sent later (omega arith))) offered))
          ]
        ];
      }

  from_rest : (past : List TimedFrame) (free : ℕ) (frames : List TimedFrame) → Rest offers until past free frames → Follows offers past free until frames
  from_rest past free [] rest = λ at frame from before offered.
      Any-nil (Covers at) (rest.busy at frame from before (subst (λ started. offers started at frame) (sym (append-nil past)) offered))
  from_rest past free (sent ∷ later) rest =
      let whole = All-head (λ x. x.len ≡ wire_length x.frame) sent later rest.lengths in
      let lasts = takes_time sent whole in
      let after = AllPairs-head (λ earlier x. end_of earlier ≤ x.start) sent later rest.apart in
      let starts = All-head (λ x. x.start < until) sent later rest.within in
      let next : IsNext offers past free until sent = record {
        when_free = All-head (λ x. free ≤ x.start) sent later rest.when_free;
        within = starts;
        first = λ at frame from early offered. Any-none (Covers at) (sent ∷ later)
            (λ k d within covers. absurd (omega (arith, none_before (at + 1) sent later (omega arith) lasts after k d within, covers.0)))
            (rest.busy at frame from (omega arith) (subst (λ started. offers started at frame) (sym (front past at (sent ∷ later) (none_before at sent later (omega arith) lasts after))) offered));
        least = subst (λ started. IsLeastOffered offers started sent.start sent.frame) (front past sent.start (sent ∷ later) (none_before sent.start sent later (omega arith) lasts after))
            (All-head (λ x. IsLeastOffered offers (past ++ started_before x.start (sent ∷ later)) x.start x.frame) sent later rest.least);
        whole = whole;
      } in (
        next,
        from_rest (past ++ sent ∷ []) (end_of sent) later (record {
          lengths = All-tail (λ x. x.len ≡ wire_length x.frame) sent later rest.lengths;
          apart = AllPairs-tail (λ earlier x. end_of earlier ≤ x.start) sent later rest.apart;
          when_free = after;
          within = All-tail (λ x. x.start < until) sent later rest.within;
          least = λ k d within. subst (λ started. IsLeastOffered offers started (get_or later k d).start (get_or later k d).frame)
              (sym (behind past (get_or later k d).start sent later (omega (arith, after k d within))))
              (All-tail (λ x. IsLeastOffered offers (past ++ started_before x.start (sent ∷ later)) x.start x.frame) sent later rest.least k d within);
          busy = λ at frame from before offered. elim (Any-cases (Covers at) sent later
              (rest.busy at frame (omega (arith, next.when_free)) before (subst (λ started. offers started at frame) (behind past at sent later (omega arith)) offered))) [
                | inl covered ↦ absurd (omega (arith, covered.1))
                | inr found ↦ found
              ];
        }),
      )

  -- the CAN trace in the words of its definition is the CAN trace frame by frame
  pub Follows-from_trace : (trace : List TimedFrame) → IsTrace offers until trace → Follows offers [] 0 until trace
  Follows-from_trace trace is = grind (arith, from_rest)

  pub trace_from_Follows : (trace : List TimedFrame) → Follows offers [] 0 until trace → IsTrace offers until trace
  trace_from_Follows trace follows =
      let rest = to_rest [] 0 trace follows in
      grind arith

  -- frames that follow one another are ordered, and start from the first free time on
  pub IsOrdered-from_Follows : (past : List TimedFrame) (free : ℕ) (frames : List TimedFrame) → Follows offers past free until frames → IsOrdered frames
  IsOrdered-from_Follows past free frames follows = grind (arith, common_steps, to_rest)

  pub within_from_Follows : (past : List TimedFrame) (free : ℕ) (frames : List TimedFrame) → Follows offers past free until frames
      → All (λ sent. (free ≤ sent.start) × (sent.start < until)) frames
  within_from_Follows past free frames follows = grind (arith, to_rest)

  -- what stands behind a front of the frames follows that front
  pub Follows-behind : (past : List TimedFrame) (free : ℕ) (frames back : List TimedFrame) → Follows offers past free until (frames ++ back)
      → Follows offers (past ++ frames) (free_after free frames) until back
  Follows-behind past free [] back follows = subst (λ started. Follows offers started free until back) (sym (append-nil past)) follows
  Follows-behind past free (sent ∷ later) back (next, follows) =
      subst (λ started. Follows offers started (free_after (end_of sent) later) until back) (append_assoc past (sent ∷ []) later)
      (Follows-behind (past ++ sent ∷ []) (end_of sent) later back follows)

abbrev made : ℕ → ℕ → DataFrame → TimedFrame
made start len frame = record { start = start; len = len; frame = frame }

-- a timed frame is its start, its length and its frame
pub same_sent : (one other : TimedFrame) → one.start ≡ other.start → one.len ≡ other.len → one.frame ≡ other.frame → one ≡ other
same_sent one other start len frame = grind arith

module _ (offers : Offers) where
  -- the frame that is sent next is determined: another first start, or another identifier, is against its rule
  same_next : IsDetermined offers → (past : List TimedFrame) (free until : ℕ) (one other : TimedFrame)
      → IsNext offers past free until one → IsNext offers past free until other → one ≡ other
  same_next determined past free until one other is_one is_other = grind (arith, cases_order, same_sent)

  same_frames : IsDetermined offers → (past : List TimedFrame) (free until : ℕ) (one other : List TimedFrame)
      → Follows offers past free until one → Follows offers past free until other → one ≡ other
  same_frames determined past free until [] [] nothing also = refl
  same_frames determined past free until [] (y ∷ ys) nothing (next, follows) = grind arith
  same_frames determined past free until (x ∷ xs) [] (next, follows) nothing = grind arith
  same_frames determined past free until (x ∷ xs) (y ∷ ys) (next, follows) (other_next, other_follows) =
      let same = same_next determined past free until x y next other_next in
      let behind_x = subst (λ sent. Follows offers (past ++ sent ∷ []) (end_of sent) until ys) (sym same) other_follows in
      let rest = same_frames determined (past ++ x ∷ []) (end_of x) until xs ys follows behind_x in
      cc

  -- there is at most one CAN trace
  pub only-trace : IsDetermined offers → (until : ℕ) (one other : List TimedFrame) → IsTrace offers until one → IsTrace offers until other → one ≡ other
  only-trace determined until one other is_one is_other =
      same_frames determined [] 0 until one other (Follows-from_trace offers until one is_one) (Follows-from_trace offers until other is_other)

  NothingOffered-joined : (past : List TimedFrame) (low middle high : ℕ) → NothingOffered offers past low middle → NothingOffered offers past middle high
      → NothingOffered offers past low high
  NothingOffered-joined past low middle high early late = grind (arith, cases_lt)

  -- frames from a time on are those from an earlier time on, where nothing is offered between
  Follows-earlier : (past : List TimedFrame) (free from until : ℕ) (back : List TimedFrame) → free ≤ from → NothingOffered offers past free from
      → Follows offers past from until back → Follows offers past free until back
  Follows-earlier past free from until [] order nothing also = NothingOffered-joined past free from until nothing also
  Follows-earlier past free from until (sent ∷ later) order nothing (next, follows) = grind (arith, NothingOffered-joined)

  -- frames up to a time, and behind them those from that time or the first free one on
  pub Follows-joined : (past : List TimedFrame) (free middle until : ℕ) (front back : List TimedFrame) → middle ≤ until
      → Follows offers past free middle front → Follows offers (past ++ front) (max middle (free_after free front)) until back
      → Follows offers past free until (front ++ back)
  Follows-joined past free middle until [] back longer nothing after_it = grind (arith, Follows-earlier, append-nil)
  Follows-joined past free middle until (sent ∷ later) back longer (next, follows) after_it = (
    record {
      when_free = next.when_free;
      within = omega (arith, next.within);
      first = next.first;
      least = next.least;
      whole = next.whole;
    },
    Follows-joined (past ++ sent ∷ []) (end_of sent) middle until later back longer follows
        (subst (λ started. Follows offers started (max middle (free_after (end_of sent) later)) until back) (sym (append_assoc past (sent ∷ []) later)) after_it),
  )

-- where offers agree along the frames, they have the same frames
module _ (offers others : Offers) where
  -- behind the empty front
  agree_now : (past other_past : List TimedFrame) (free until : ℕ) (frames : List TimedFrame) → AgreeAlong offers others past other_past free until frames
      → (at : ℕ) (frame : DataFrame) → free ≤ at → at < until → (offers past at frame) ↔ (others other_past at frame)
  agree_now past other_past free until frames agree at frame from before =
      let both = agree [] frames at frame refl from before in (
        λ offered. subst (λ started. others started at frame) (append-nil other_past) (both.0 (subst (λ started. offers started at frame) (sym (append-nil past)) offered)),
        λ offered. subst (λ started. offers started at frame) (append-nil past) (both.1 (subst (λ started. others started at frame) (sym (append-nil other_past)) offered)),
      )

  agree_behind : (past other_past : List TimedFrame) (free until : ℕ) (sent : TimedFrame) (later : List TimedFrame)
      → AgreeAlong offers others past other_past free until (sent ∷ later)
      → AgreeAlong offers others (past ++ sent ∷ []) (other_past ++ sent ∷ []) (end_of sent) until later
  agree_behind past other_past free until sent later agree front back at frame split from before =
      let both = agree (sent ∷ front) back at frame (ap (λ frames. sent ∷ frames) split) from before in
      rw (append_assoc past (sent ∷ []) front, append_assoc other_past (sent ∷ []) front) both

  pub Follows-along : (past other_past : List TimedFrame) (free until : ℕ) (frames : List TimedFrame) → AgreeAlong offers others past other_past free until frames
      → Follows offers past free until frames → Follows others other_past free until frames
  Follows-along past other_past free until [] agree nothing = λ at frame from before offered.
      nothing at frame from before ((agree_now past other_past free until [] agree at frame from before).1 offered)
  Follows-along past other_past free until (sent ∷ later) agree (next, follows) =
      let now = agree_now past other_past free until (sent ∷ later) agree in (
        record {
          when_free = next.when_free;
          within = next.within;
          first = λ at frame from before offered. next.first at frame from before ((now at frame from (omega (arith, next.within))).1 offered);
          least = grind arith;
          whole = next.whole;
        },
        Follows-along (past ++ sent ∷ []) (other_past ++ sent ∷ []) (end_of sent) until later (agree_behind past other_past free until sent later agree) follows,
      )
