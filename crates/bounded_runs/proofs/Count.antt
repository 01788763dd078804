-- Times that are covered by frames are at most as many as the frames have bit times.
use Rattle.std.proofs.Common.{◌≡◌, ℕ, zero, suc, ◌+◌, ◌-◌, ◌<◌, ◌≤◌, min, Bool, true, false, cond, List, [], ◌∷◌, Contains, inl, inr, refl, sym, ap, ◌∙◌, subst, arith, add-zero, add-suc}
use Rattle.std.proofs.lemmas.List.Sums.{sum_by-cons}
use Rattle.std.specs.Prelude.{sum_by}
use Rattle.can_frame.specs.declared.data_frame.TimedFrame.{TimedFrame}
use Rattle.bus_line.specs.Trace.{end_of}
use Rattle.async_bound.specs.Room.{count_below}
use Rattle.bounded_runs.specs.Runs.{time_of}
use Rattle.async_bound.proofs.Shared.{Contains-cases, Contains-nil}

module _ (passes : TimedFrame → Bool) where
  -- the bit times below `at` of a frame that passes
  abbrev part : ℕ → TimedFrame → ℕ
  part at sent = cond (passes sent) (min sent.len (at - sent.start)) 0

  abbrev parts : ℕ → List TimedFrame → ℕ
  parts at frames = sum_by (part at) frames

  part-more : (b : Bool) (len at start : ℕ) → cond b (min len (at - start)) 0 ≤ cond b (min len (suc at - start)) 0
  part-more true len at start = omega arith
  part-more false len at start = omega arith

  part-one : (b : Bool) (len at start : ℕ) → b ≡ true → start ≤ at → at < start + len
      → cond b (min len (at - start)) 0 + 1 ≤ cond b (min len (suc at - start)) 0
  part-one true len at start passed from before = omega arith
  part-one false len at start passed from before = absurd (cc)

  part-all : (b : Bool) (len at start : ℕ) → cond b (min len (at - start)) 0 ≤ cond b len 0
  part-all true len at start = omega arith
  part-all false len at start = omega arith

  parts-more : (at : ℕ) (frames : List TimedFrame) → parts at frames ≤ parts (suc at) frames
  parts-more at [] = omega arith
  parts-more at (sent ∷ later) =
      let now = sum_by-cons (part at) sent later in
      let then_ = sum_by-cons (part (suc at)) sent later in
      let one = part-more (passes sent) sent.len at sent.start in
      let rest = parts-more at later in
      omega (arith, now, then_, one, rest)

  parts-one : (at : ℕ) (frames : List TimedFrame) (sent : TimedFrame) → Contains frames sent → passes sent ≡ true
      → sent.start ≤ at → at < end_of sent → parts at frames + 1 ≤ parts (suc at) frames
  parts-one at [] sent has passed from before = absurd (Contains-nil sent has)
  parts-one at (first ∷ later) sent has passed from before =
      let now = sum_by-cons (part at) first later in
      let then_ = sum_by-cons (part (suc at)) first later in
      elim (Contains-cases first later sent has) [
        | inl same ↦
            let one = part-one (passes first) first.len at first.start (ap passes same ∙ passed)
            (subst (λ s. s.start ≤ at) (sym same) from) (subst (λ s. at < end_of s) (sym same) before) in
            let rest = parts-more at later in
            omega (arith, now, then_, one, rest)
        | inr behind ↦
            let one = part-more (passes first) first.len at first.start in
            let rest = parts-one at later sent behind passed from before in
            omega (arith, now, then_, one, rest)
      ]

  parts-all : (at : ℕ) (frames : List TimedFrame) → parts at frames ≤ time_of passes frames
  parts-all at [] = omega arith
  parts-all at (sent ∷ later) =
      let now = sum_by-cons (part at) sent later in
      let whole = sum_by-cons (λ s. cond (passes s) s.len 0) sent later in
      let one = part-all (passes sent) sent.len at sent.start in
      let rest = parts-all at later in
      omega (arith, now, whole, one, rest)

  module _ (test : ℕ → Bool) (frames : List TimedFrame) where
    -- the time lies in the interval of a frame that passes
    pub record IsCovered (at : ℕ) : Type 0 where
      pub sent : TimedFrame
      pub among : Contains frames sent
      pub passed : passes sent ≡ true
      pub from : sent.start ≤ at
      pub before : at < end_of sent

    one-step : (b : Bool) (at low : ℕ) → (b ≡ true → IsCovered at) → count_below test at ≤ count_below test low + parts at frames
        → count_below test at + cond b 1 0 ≤ count_below test low + parts (suc at) frames
    one-step true at low covered sofar =
        let is = covered refl in
        let one = parts-one at frames is.sent is.among is.passed is.from is.before in
        omega (arith, one, sofar)
    one-step false at low covered sofar =
        let more = parts-more at frames in
        omega (arith, more, sofar)

    counted : (low k : ℕ) → ((at : ℕ) → low ≤ at → at < low + k → test at ≡ true → IsCovered at)
        → count_below test (low + k) ≤ count_below test low + parts (low + k) frames
    counted low zero covered = rw (add-zero low) (omega arith)
    counted low (suc k) covered =
        let sofar = counted low k (λ at from before. covered at from (omega arith)) in
        rw (add-suc low k) (one-step (test (low + k)) (low + k) low (covered (low + k) (omega arith) (omega arith)) sofar)

    pub covered-times : (low high : ℕ) → low ≤ high → ((at : ℕ) → low ≤ at → at < high → test at ≡ true → IsCovered at)
        → count_below test high ≤ count_below test low + time_of passes frames
    covered-times low high order covered =
        let same : low + (high - low) ≡ high = omega arith in
        let all = subst (λ n. count_below test n ≤ count_below test low + parts n frames) same
        (counted low (high - low) (λ at from before. covered at from (omega arith))) in
        let whole = parts-all high frames in
        omega (arith, all, whole)
