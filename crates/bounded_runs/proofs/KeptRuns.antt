-- What is kept is under way: the CAN trace of a legal history sends in each cycle what its opening says.
use Rattle.std.proofs.Common.{◌≡◌, ℕ, ◌+◌, ◌*◌, ◌≤◌, max, false, cond, List, [], ◌∷◌, ◌++◌, get_or, All, Contains, refl, sym, ap, ◌∙◌, subst, arith, append_assoc, append-nil, add-mul, zero-mul, add-zero, mul-le-mul_right}
use Rattle.std.proofs.Math.Nat.{div-eq_of_lt-le}
use Rattle.std.proofs.lemmas.List.{get_or_default}
use Rattle.std.proofs.lemmas.List.Sums.{sum_by_push, sum_by-append}
use Rattle.std.proofs.lemmas.List.Elements.{All-contains, Contains-append_right, Contains-append_left}
use Rattle.can_frame.specs.declared.data_frame.TimedFrame.{TimedFrame}
use Rattle.requirement_table.specs.Opening.{Opening}
use Rattle.bus_line.specs.Trace.{AgreeAlong, Follows, end_of, free_after}
use Rattle.bus_line.proofs.Shared.{Follows-along, Follows-from_trace, within_from_Follows}
use Rattle.master_core.specs.declared.event.Event.{Event}
use Rattle.master_core.specs.declared.event.Event.TheVariants.{Submit, Look, Open}
use Rattle.master_core.specs.History.{IsLegal, is_open, next_of, placed_of}
use Rattle.master_core.specs.Openings.{opening_of, openings_after, openings_of}
use Rattle.cycle_engine.specs.Offered.{SendsWhole, offered, offered_in}
use Rattle.cycle_engine.proofs.Shared.{free_after-begun, free_after-ended, in_cycle, same_by_number}
use Rattle.kept_run.specs.Kept.{Kept}
use Rattle.kept_run.specs.Progress.{IsUnderWay}
use Rattle.kept_run.specs.Setting.{IsSetting, Setting}
use Rattle.kept_run.proofs.Shared.{answered, begins, legal-but_last, legal-parts, opened, opened-legal}
use Rattle.async_bound.proofs.Shared.{Contains-here}
use Rattle.bounded_runs.proofs.Cut.{cut}

openings_after-append : (before xs ys : List Event) → openings_after before (xs ++ ys) ≡ openings_after before xs ++ openings_after (before ++ xs) ys
openings_after-append before [] ys = ap (λ b. openings_after b ys) (sym (append-nil before))
openings_after-append before (x ∷ xs) ys =
    ap (λ l. opening_of before x ++ l)
    (openings_after-append (before ++ x ∷ []) xs ys ∙ ap (λ b. openings_after (before ++ x ∷ []) xs ++ openings_after b ys) (append_assoc before (x ∷ []) xs))
    ∙ sym (append_assoc (opening_of before x) (openings_after (before ++ x ∷ []) xs) (openings_after (before ++ x ∷ xs) ys))

module _ (setting : Setting) (known : IsSetting setting) (whole : SendsWhole setting.sends) where
  abbrev length_ : ℕ
  length_ = setting.layout.cycle

  abbrev All_ : List Event → List TimedFrame → ℕ → ℕ → List TimedFrame → Type 0
  All_ history past free until frames = Follows (offered setting.sends setting.layout setting.requests (openings_of history)) past free until frames

  -- in a cycle's time only its opening offers
  agree : (before later : List Event) (cycle mask : ℕ) → IsLegal setting.rules (before ++ Open cycle mask ∷ later) → (past frames : List TimedFrame) (middle : ℕ)
      → All_ (before ++ Open cycle mask ∷ later) past (cycle * length_) middle frames → middle ≡ (cycle + 1) * length_
      → AgreeAlong (offered setting.sends setting.layout setting.requests (openings_of (before ++ Open cycle mask ∷ later)))
      (offered_in setting.sends setting.layout setting.requests (record { cycle = cycle; mask = mask; placed = placed_of before }))
      past past (cycle * length_) middle frames
  agree before later cycle mask legal past frames middle follows middle_is front back at frame split from early =
      let opening : Opening = record { cycle = cycle; mask = mask; placed = placed_of before } in
      let openings = openings_of (before ++ Open cycle mask ∷ later) in
      let among : Contains openings opening =
      subst (λ os. Contains os opening) (sym (openings_after-append [] before (Open cycle mask ∷ later)))
      (Contains-append_right (openings_of before) (opening ∷ openings_after (before ++ Open cycle mask ∷ []) later) opening
      (Contains-here opening (openings_after (before ++ Open cycle mask ∷ []) later))) in
      let starts = within_from_Follows (offered setting.sends setting.layout setting.requests openings) middle past (cycle * length_) frames follows in
      let begun : All (λ s. cycle * length_ ≤ s.start) (front ++ back) = subst (All (λ s. cycle * length_ ≤ s.start)) split (λ k d there. (starts k d there).0) in
      let late = free_after-begun (cycle * length_) (cycle * length_) front (omega arith) (λ k d there. first-part front back begun k d there) in (
        λ offer.
            let time = in_cycle setting.sends setting.layout setting.requests known.known offer.0 (past ++ front) at frame offer.2 in
            let same : offer.0.cycle ≡ cycle = sym (div-eq_of_lt-le length_ time.0 time.1) ∙ div-eq_of_lt-le length_ (omega (arith, late, from)) (omega (arith, early, middle_is)) in
            let is = same_by_number (λ o. o.cycle) openings offer.0 opening (opened-legal setting.rules (before ++ Open cycle mask ∷ later) legal).each_once offer.1 among same in
            subst (λ o. offered_in setting.sends setting.layout setting.requests o (past ++ front) at frame) is offer.2,
        λ offer. (opening, among, offer),
      )
    where
      first-part : (xs ys : List TimedFrame) → All (λ s. cycle * length_ ≤ s.start) (xs ++ ys) → All (λ s. cycle * length_ ≤ s.start) xs
      first-part xs ys all_ k d there =
          All-contains (λ s. cycle * length_ ≤ s.start) (xs ++ ys) (get_or xs k d) all_ (Contains-append_left xs ys (get_or xs k d) (k, there, get_or_default xs k (get_or xs k d) d there))

  abbrev Way : List Event → List TimedFrame → Type 0
  Way history trace = IsUnderWay setting history trace

  -- a call that opens no cycle
  quiet : (event : Event) → is_open event ≡ false → (later before : List Event) (front back : List TimedFrame) → IsLegal setting.rules (before ++ event ∷ later) → Way before front
      → All_ (before ++ event ∷ later) front (next_of before * length_) (next_of (before ++ event ∷ later) * length_) back
      → (IsLegal setting.rules ((before ++ event ∷ []) ++ later) → Way (before ++ event ∷ []) front
      → All_ ((before ++ event ∷ []) ++ later) front (next_of (before ++ event ∷ []) * length_) (next_of ((before ++ event ∷ []) ++ later) * length_) back
      → Way ((before ++ event ∷ []) ++ later) (front ++ back))
      → Way (before ++ event ∷ later) (front ++ back)
  quiet event none later before front back legal way follows go =
      let assoc : (before ++ event ∷ []) ++ later ≡ before ++ event ∷ later = append_assoc before (event ∷ []) later in
      let moved : IsLegal setting.rules ((before ++ event ∷ []) ++ later) = subst (IsLegal setting.rules) (sym assoc) legal in
      let one = (legal-parts setting.rules (before ++ event ∷ []) later moved).0 in
      let under = answered setting front before event none one way in
      let next_same : next_of (before ++ event ∷ []) ≡ next_of before
      = sum_by_push (λ e. cond (is_open e) 1 0) before event ∙ ap (λ b. next_of before + cond b 1 0) none ∙ add-zero (next_of before) in
      let from : All_ (before ++ event ∷ later) front (next_of (before ++ event ∷ []) * length_) (next_of (before ++ event ∷ later) * length_) back
      = subst (λ n. All_ (before ++ event ∷ later) front (n * length_) (next_of (before ++ event ∷ later) * length_) back) (sym next_same) follows in
      let behind : All_ ((before ++ event ∷ []) ++ later) front (next_of (before ++ event ∷ []) * length_) (next_of ((before ++ event ∷ []) ++ later) * length_) back
      = subst (λ h. All_ h front (next_of (before ++ event ∷ []) * length_) (next_of h * length_) back) (sym assoc) from in
      subst (λ h. Way h (front ++ back)) assoc (go moved under behind)

  -- a cycle that is opened
  loud : (cycle mask : ℕ) (later before : List Event) (front back : List TimedFrame) → IsLegal setting.rules (before ++ Open cycle mask ∷ later) → Way before front
      → All_ (before ++ Open cycle mask ∷ later) front (next_of before * length_) (next_of (before ++ Open cycle mask ∷ later) * length_) back
      → ((mid rest : List TimedFrame) → IsLegal setting.rules ((before ++ Open cycle mask ∷ []) ++ later) → Way (before ++ Open cycle mask ∷ []) (front ++ mid)
      → All_ ((before ++ Open cycle mask ∷ []) ++ later) (front ++ mid) (next_of (before ++ Open cycle mask ∷ []) * length_) (next_of ((before ++ Open cycle mask ∷ []) ++ later) * length_) rest
      → Way ((before ++ Open cycle mask ∷ []) ++ later) ((front ++ mid) ++ rest))
      → Way (before ++ Open cycle mask ∷ later) (front ++ back)
  loud cycle mask later before front back legal way follows go =
      let event = Open cycle mask in
      let offers = offered setting.sends setting.layout setting.requests (openings_of (before ++ Open cycle mask ∷ later)) in
      let assoc : (before ++ Open cycle mask ∷ []) ++ later ≡ before ++ Open cycle mask ∷ later = append_assoc before (Open cycle mask ∷ []) later in
      let moved : IsLegal setting.rules ((before ++ Open cycle mask ∷ []) ++ later) = subst (IsLegal setting.rules) (sym assoc) legal in
      let one = (legal-parts setting.rules (before ++ Open cycle mask ∷ []) later moved).0 in
      let now : cycle ≡ next_of before = (legal-but_last setting.rules before (Open cycle mask) one).1.0 in
      let next_is : next_of (before ++ Open cycle mask ∷ []) ≡ cycle + 1
      = sum_by_push (λ e. cond (is_open e) 1 0) before (Open cycle mask) ∙ ap (λ n. n + 1) (sym now) in
      let split : next_of ((before ++ Open cycle mask ∷ []) ++ later) ≡ next_of (before ++ Open cycle mask ∷ []) + next_of later
      = sum_by-append (λ e. cond (is_open e) 1 0) (before ++ Open cycle mask ∷ []) later in
      let middle = next_of (before ++ Open cycle mask ∷ []) * length_ in
      let middle_is : middle ≡ (cycle + 1) * length_ = ap (λ n. n * length_) next_is in
      let counts : next_of (before ++ Open cycle mask ∷ later) ≡ next_of ((before ++ Open cycle mask ∷ []) ++ later) = ap (λ h. next_of h) (sym assoc) in
      let order : middle ≤ next_of (before ++ Open cycle mask ∷ later) * length_ = mul-le-mul_right length_ (omega (arith, counts, split)) in
      let from : All_ (before ++ Open cycle mask ∷ later) front (cycle * length_) (next_of (before ++ Open cycle mask ∷ later) * length_) back
      = subst (λ n. All_ (before ++ Open cycle mask ∷ later) front (n * length_) (next_of (before ++ Open cycle mask ∷ later) * length_) back) (sym now) follows in
      let parts = cut offers front (cycle * length_) middle (next_of (before ++ Open cycle mask ∷ later) * length_) back order from in
      let its = Follows-along offers (offered_in setting.sends setting.layout setting.requests (record { cycle = cycle; mask = mask; placed = placed_of before }))
      front front (cycle * length_) middle parts.front (agree before later cycle mask legal front parts.front middle parts.first middle_is) parts.first in
      let own = subst (λ m. Follows (offered_in setting.sends setting.layout setting.requests (record { cycle = cycle; mask = mask; placed = placed_of before })) front (cycle * length_) m parts.front) middle_is its in
      let under = opened setting before cycle mask known one whole front parts.front way own in
      let ended : All (λ s. end_of s ≤ middle) parts.front
      = λ k d there.
      let s = get_or parts.front k d in
      All-contains (λ x. end_of x ≤ middle) (front ++ parts.front) s under.ended (Contains-append_right front parts.front s (k, there, get_or_default parts.front k s d there)) in
      let longer = add-mul cycle 1 length_ in
      let free = free_after-ended (cycle * length_) middle parts.front (omega (arith, middle_is, longer)) ended in
      let rest_from : max middle (free_after (cycle * length_) parts.front) ≡ middle = omega (arith, free) in
      let rest = subst (λ n. Follows offers (front ++ parts.front) n (next_of (before ++ Open cycle mask ∷ later) * length_) parts.back) rest_from parts.behind in
      let behind : All_ ((before ++ Open cycle mask ∷ []) ++ later) (front ++ parts.front) middle (next_of ((before ++ Open cycle mask ∷ []) ++ later) * length_) parts.back
      = subst (λ h. All_ h (front ++ parts.front) middle (next_of h * length_) parts.back) (sym assoc) rest in
      let all = go parts.front parts.back moved under behind in
      let joined : (front ++ parts.front) ++ parts.back ≡ front ++ back = append_assoc front parts.front parts.back ∙ ap (λ l. front ++ l) (sym parts.whole) in
      subst (λ t. Way (before ++ Open cycle mask ∷ later) t) joined (subst (λ h. Way h ((front ++ parts.front) ++ parts.back)) assoc all)

  grow : (events before : List Event) (front back : List TimedFrame) → IsLegal setting.rules (before ++ events) → IsUnderWay setting before front
      → All_ (before ++ events) front (next_of before * length_) (next_of (before ++ events) * length_) back → IsUnderWay setting (before ++ events) (front ++ back)
  grow [] before front [] legal way follows =
      subst (λ h. IsUnderWay setting h (front ++ [])) (sym (append-nil before)) (subst (λ t. IsUnderWay setting before t) (sym (append-nil front)) way)
  grow [] before front (sent ∷ later) legal way (next, follows) =
      let same : next_of (before ++ []) * length_ ≡ next_of before * length_ = ap (λ h. next_of h * length_) (append-nil before) in
      absurd (omega (arith, next.when_free, next.within, same))
  grow (Submit caller change from verdict trail ∷ later) before front back legal way follows =
      quiet (Submit caller change from verdict trail) refl later before front back legal way follows
      (λ moved under behind. grow later (before ++ Submit caller change from verdict trail ∷ []) front back moved under behind)
  grow (Look caller next ∷ later) before front back legal way follows =
      quiet (Look caller next) refl later before front back legal way follows
      (λ moved under behind. grow later (before ++ Look caller next ∷ []) front back moved under behind)
  grow (Open cycle mask ∷ later) before front back legal way follows =
      loud cycle mask later before front back legal way follows
      (λ mid rest moved under behind. grow later (before ++ Open cycle mask ∷ []) (front ++ mid) rest moved under behind)

  pub under-way : (history : List Event) (trace : List TimedFrame) → Kept setting history trace → IsUnderWay setting history trace
  under-way history trace kept =
      let follows = Follows-from_trace (offered setting.sends setting.layout setting.requests (openings_of history)) (next_of history * length_) trace kept.can_trace in
      let from : All_ history [] (next_of [] * length_) (next_of history * length_) trace
      = subst (λ n. All_ history [] n (next_of history * length_) trace) (sym (zero-mul length_)) follows in
      grow history [] [] trace kept.legal (begins setting) from
