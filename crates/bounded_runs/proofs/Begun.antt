-- How many frames of an identifier have started before a time.
use Rattle.std.proofs.Common.{◌≡◌, ◌≢◌, ℕ, zero, suc, ◌+◌, ◌-◌, ◌<◌, ◌≤◌, Bool, true, false, cond, List, [], ◌∷◌, All, AllPairs, Contains, ◌⊎◌, inl, inr, refl, sym, ap, ◌∙◌, subst, arith, add-zero, add-suc}
use Rattle.std.specs.Prelude.{nat_lt, ◌==◌}
use Rattle.std.proofs.lemmas.Bool.{cases_lt, cases_eq, eq-eqb, ne_eqb, lt-ltb, le-ltb}
use Rattle.std.proofs.lemmas.List.Sums.{sum_by-cons}
use Rattle.std.proofs.lemmas.List.Elements.{All-head, All-tail}
use Rattle.can_frame.specs.declared.data_frame.TimedFrame.{TimedFrame}
use Rattle.async_window.specs.Waiting.{frames_with}
use Rattle.bus_line.specs.Trace.{end_of, started_before}
use Rattle.async_bound.proofs.Shared.{AllPairs-head, AllPairs-tail, Contains-here, Contains-later, Contains-cases, Contains-nil}

module _ (id : ℕ) where
  abbrev pub begun : ℕ → List TimedFrame → ℕ
  begun at frames = frames_with (started_before at frames) id

  abbrev pub of_id : TimedFrame → ℕ
  of_id sent = cond (sent.frame.identifier == id) 1 0

  abbrev pub mark : ℕ → TimedFrame → ℕ
  mark at sent = cond (nat_lt sent.start at) (of_id sent) 0

  split : (b : Bool) (x : TimedFrame) (xs : List TimedFrame) → frames_with (cond b (x ∷ xs) xs) id ≡ cond b (of_id x) 0 + frames_with xs id
  split true x xs = sum_by-cons of_id x xs
  split false x xs = omega arith

  pub begun-cons : (at : ℕ) (x : TimedFrame) (xs : List TimedFrame) → begun at (x ∷ xs) ≡ mark at x + begun at xs
  begun-cons at x xs = split (nat_lt x.start at) x (started_before at xs)

  mark-same : (at : ℕ) (x : TimedFrame) → x.start ≢ at → mark (suc at) x ≡ mark at x
  mark-same at x other = elim (cases_lt x.start at) [
    | inl before ↦ ap (λ b. cond b (of_id x) 0) (lt-ltb x.start (suc at) (omega arith) ∙ sym (lt-ltb x.start at before))
    | inr behind ↦ ap (λ b. cond b (of_id x) 0) (le-ltb x.start (suc at) (omega (arith, other, behind)) ∙ sym (le-ltb x.start at behind))
  ]

  none : (b : Bool) → cond {A = ℕ} b 0 0 ≡ 0
  none true = refl
  none false = refl

  mark-other : (at : ℕ) (x : TimedFrame) → x.frame.identifier ≢ id → mark at x ≡ 0
  mark-other at x other = ap (λ b. cond (nat_lt x.start at) (cond b 1 0) 0) (ne_eqb x.frame.identifier id other) ∙ none (nat_lt x.start at)

  mark-now : (at : ℕ) (x : TimedFrame) → x.start ≡ at → x.frame.identifier ≡ id → (mark (suc at) x ≡ 1) × (mark at x ≡ 0)
  mark-now at x now same = (
    ap (λ b. cond b (of_id x) 0) (lt-ltb x.start (suc at) (omega (arith, now))) ∙ ap (λ b. cond b 1 0) (eq-eqb x.frame.identifier id same),
    ap (λ b. cond b (of_id x) 0) (le-ltb x.start at (omega (arith, now))),
  )

  mark-more : (at : ℕ) (x : TimedFrame) → mark at x ≤ mark (suc at) x
  mark-more at x = elim (cases_eq x.start at) [
    | inl now ↦ elim (cases_eq x.frame.identifier id) [
      | inl same ↦ let marks = mark-now at x now same in omega (arith, marks.1)
      | inr other ↦ omega (arith, mark-other at x other)
    ]
    | inr apart ↦ omega (arith, mark-same at x apart)
  ]

  pub begun-next : (at : ℕ) (xs : List TimedFrame) → begun at xs ≤ begun (suc at) xs
  begun-next at [] = omega arith
  begun-next at (x ∷ xs) = omega (arith, begun-cons at x xs, begun-cons (suc at) x xs, mark-more at x, begun-next at xs)

  begun-by : (at k : ℕ) (xs : List TimedFrame) → begun at xs ≤ begun (at + k) xs
  begun-by at zero xs = rw (add-zero at) (omega arith)
  begun-by at (suc k) xs = rw (add-suc at k) (omega (arith, begun-by at k xs, begun-next (at + k) xs))

  pub begun-le : (at later : ℕ) (xs : List TimedFrame) → at ≤ later → begun at xs ≤ begun later xs
  begun-le at later xs order = subst (λ n. begun at xs ≤ begun n xs) (omega arith) (begun-by at (later - at) xs)

  pub begun-zero : (xs : List TimedFrame) → begun 0 xs ≡ 0
  begun-zero [] = refl
  begun-zero (x ∷ xs) = begun-cons 0 x xs ∙ ap (λ b. cond b (of_id x) 0 + begun 0 xs) (le-ltb x.start 0 (omega arith)) ∙ (omega (arith, begun-zero xs))

  -- a frame that starts then is one more
  pub begun-one : (at : ℕ) (xs : List TimedFrame) (sent : TimedFrame) → Contains xs sent → sent.start ≡ at → sent.frame.identifier ≡ id
      → begun at xs + 1 ≤ begun (suc at) xs
  begun-one at [] sent has now same = absurd (Contains-nil sent has)
  begun-one at (x ∷ xs) sent has now same = elim (Contains-cases x xs sent has) [
    | inl is ↦
        let marks = mark-now at x (subst (λ s. s.start ≡ at) (sym is) now) (subst (λ s. s.frame.identifier ≡ id) (sym is) same) in
        omega (arith, begun-cons at x xs, begun-cons (suc at) x xs, marks.0, marks.1, begun-next at xs)
    | inr later ↦ omega (arith, begun-cons at x xs, begun-cons (suc at) x xs, mark-more at x, begun-one at xs sent later now same)
  ]

  begun-still : (at : ℕ) (xs : List TimedFrame) → All (λ s. s.start ≢ at) xs → begun (suc at) xs ≡ begun at xs
  begun-still at [] apart = refl
  begun-still at (x ∷ xs) apart =
      omega (
        arith,
        begun-cons at x xs,
        begun-cons (suc at) x xs,
        mark-same at x (All-head (λ s. s.start ≢ at) x xs apart),
        begun-still at xs (All-tail (λ s. s.start ≢ at) x xs apart),
      )

  -- a frame of the identifier starts at the time
  pub record StartsAt (at : ℕ) (xs : List TimedFrame) : Type 0 where
    pub sent : TimedFrame
    pub among : Contains xs sent
    pub now : sent.start ≡ at
    pub same : sent.frame.identifier ≡ id
    pub one : begun (suc at) xs ≡ begun at xs + 1

  pub begun-step : (at : ℕ) (xs : List TimedFrame) → All (λ s. 0 < s.len) xs → AllPairs (λ earlier later. end_of earlier ≤ later.start) xs
      → (begun (suc at) xs ≡ begun at xs) ⊎ StartsAt at xs
  begun-step at [] some apart = inl refl
  begun-step at (x ∷ xs) some apart =
      let cons = begun-cons at x xs in
      let next = begun-cons (suc at) x xs in
      let rest = begun-step at xs (All-tail (λ s. 0 < s.len) x xs some) (AllPairs-tail (λ earlier later. end_of earlier ≤ later.start) x xs apart) in
      let go_on : mark (suc at) x ≡ mark at x → (begun (suc at) (x ∷ xs) ≡ begun at (x ∷ xs)) ⊎ StartsAt at (x ∷ xs)
      = λ still. elim rest [
        | inl same ↦ inl (omega (arith, cons, next, still, same))
        | inr starts ↦ inr (record {
          sent = starts.sent;
          among = Contains-later x xs starts.sent starts.among;
          now = starts.now;
          same = starts.same;
          one = omega (arith, cons, next, still, starts.one);
        })
      ] in
      elim (cases_eq x.start at) [
        | inr other ↦ go_on (mark-same at x other)
        | inl now ↦ elim (cases_eq x.frame.identifier id) [
          | inr other ↦ go_on (mark-other (suc at) x other ∙ sym (mark-other at x other))
          | inl same ↦
              let behind = AllPairs-head (λ earlier later. end_of earlier ≤ later.start) x xs apart in
              let long = All-head (λ s. 0 < s.len) x xs some in
              let still = begun-still at xs (λ k d within is. let after = behind k d within in omega (arith, after, long, is, now)) in
              let marks = mark-now at x now same in
              inr (record {
                sent = x;
                among = Contains-here x xs;
                now = now;
                same = same;
                one = omega (arith, cons, next, still, marks.0, marks.1);
              })
        ]
      ]

  -- where there are more at a later time, the frame in between that follows so many others
  pub record Crosses (low high place : ℕ) (xs : List TimedFrame) : Type 0 where
    pub at : ℕ
    pub from : low ≤ at
    pub before : at < high
    pub starts : StartsAt at xs
    pub number : begun at xs ≡ place

  crosses : (low k place : ℕ) (xs : List TimedFrame) → All (λ s. 0 < s.len) xs → AllPairs (λ earlier later. end_of earlier ≤ later.start) xs
      → begun low xs ≤ place → place + 1 ≤ begun (low + k) xs → Crosses low (low + k) place xs
  crosses low zero place xs some apart few many =
      let same : begun (low + 0) xs ≡ begun low xs = ap (λ n. begun n xs) (add-zero low) in absurd (omega (arith, few, many, same))
  crosses low (suc k) place xs some apart few many =
      let end : begun (low + suc k) xs ≡ begun (suc (low + k)) xs = ap (λ n. begun n xs) (add-suc low k) in
      elim (cases_lt place (begun (low + k) xs)) [
        | inl more ↦
            let found = crosses low k place xs some apart few (omega (arith, more)) in
            record { at = found.at; from = found.from; before = omega (arith, found.before); starts = found.starts; number = found.number }
        | inr less ↦ elim (begun-step (low + k) xs some apart) [
          | inl same ↦ absurd (omega (arith, less, many, same, end))
          | inr starts ↦ record { at = low + k; from = omega arith; before = omega arith; starts = starts; number = omega (arith, starts.one, many, less, end) }
        ]
      ]

  pub crossing : (low high place : ℕ) (xs : List TimedFrame) → All (λ s. 0 < s.len) xs → AllPairs (λ earlier later. end_of earlier ≤ later.start) xs
      → low ≤ high → begun low xs ≤ place → place + 1 ≤ begun high xs → Crosses low high place xs
  crossing low high place xs some apart order few many =
      let same : low + (high - low) ≡ high = omega arith in
      subst (λ n. Crosses low n place xs) same (crosses low (high - low) place xs some apart few (subst (λ n. place + 1 ≤ begun n xs) (sym same) many))
