-- The frames of some streams that start from one time to another have at most the bit times that their requests may need.
use Rattle.std.proofs.Common.{◌≡◌, ℕ, ◌+◌, ◌*◌, ◌<◌, ◌≤◌, Bool, true, false, cond, List, [], ◌∷◌, All, Contains, inl, inr, refl, ap, ◌∙◌, subst, arith, sum_by, add-mul, mul-le-mul_right, one-mul}
use Rattle.std.specs.Prelude.{◌==◌, nat_lt, nat_le, ◌&&◌}
use Rattle.std.proofs.lemmas.Bool.{and_from, and_left, and_parts, and_right, cases_lt, eq-eqb, lt-ltb, le-ltb, le-leb, lt-leb}
use Rattle.std.proofs.lemmas.List.Sums.{sum_by-cons}
use Rattle.std.proofs.lemmas.List.Elements.{All-head, All-tail}
use Rattle.profile.specs.Limits.{least_asynchronous}
use Rattle.stuff_bound.specs.Stuffing.{worst}
use Rattle.can_frame.specs.declared.data_frame.TimedFrame.{TimedFrame}
use Rattle.async_bound.specs.declared.stream.BurstStream.{BurstStream}
use Rattle.async_bound.specs.Bound.{demand}
use Rattle.async_bound.specs.Streams.{arrivals}
use Rattle.bounded_runs.specs.Runs.{is_ahead, is_inside, time_of}
use Rattle.bounded_runs.proofs.Begun.{begun, begun-cons, mark, of_id}
use Rattle.async_bound.proofs.Shared.{sum-le, sum-le-one}

module _ (low high : ℕ) (order : low ≤ high) where
  -- how many frames of an identifier start from one time to the other
  abbrev inside_one : ℕ → TimedFrame → ℕ
  inside_one id sent = cond (is_inside low high sent) (of_id id sent) 0

  abbrev pub inside : ℕ → List TimedFrame → ℕ
  inside id frames = sum_by (inside_one id) frames

  mark-split : (id : ℕ) (x : TimedFrame) → mark id high x ≡ mark id low x + inside_one id x
  mark-split id x = elim (cases_lt x.start low) [
    | inl before ↦
        let one = ap (λ b. cond b (of_id id x) 0) (lt-ltb x.start high (omega (arith, before, order))) in
        let two = ap (λ b. cond b (of_id id x) 0) (lt-ltb x.start low before) in
        let out = ap (λ b. cond b (of_id id x) 0) (and_left (nat_le low x.start) (nat_lt x.start high) (lt-leb low x.start before)) in
        omega (arith, one, two, out)
    | inr behind ↦ elim (cases_lt x.start high) [
      | inl within ↦
          let one = ap (λ b. cond b (of_id id x) 0) (lt-ltb x.start high within) in
          let two = ap (λ b. cond b (of_id id x) 0) (le-ltb x.start low behind) in
          let in_ = ap (λ b. cond b (of_id id x) 0) (and_from (nat_le low x.start) (nat_lt x.start high) (le-leb low x.start behind) (lt-ltb x.start high within)) in
          omega (arith, one, two, in_)
      | inr late ↦
          let one = ap (λ b. cond b (of_id id x) 0) (le-ltb x.start high late) in
          let two = ap (λ b. cond b (of_id id x) 0) (le-ltb x.start low behind) in
          let out = ap (λ b. cond b (of_id id x) 0) (and_right (nat_le low x.start) (nat_lt x.start high) (le-ltb x.start high late)) in
          omega (arith, one, two, out)
    ]
  ]

  pub begun-split : (id : ℕ) (xs : List TimedFrame) → begun id high xs ≡ begun id low xs + inside id xs
  begun-split id [] = refl
  begun-split id (x ∷ xs) =
      omega (arith, begun-cons id high x xs, begun-cons id low x xs, sum_by-cons (inside_one id) x xs, mark-split id x, begun-split id xs)

  -- the frame starts from one time to the other, and has the identifier
  abbrev pub is_own : ℕ → TimedFrame → Bool
  is_own id sent = is_inside low high sent && (sent.frame.identifier == id)

  own-one : (b c : Bool) (len longest : ℕ) → ((b && c) ≡ true → len ≤ longest) → cond (b && c) len 0 ≤ cond b (cond c 1 0) 0 * longest
  own-one true true len longest short = let is = short refl in omega (arith, is, one-mul longest)
  own-one true false len longest short = omega arith
  own-one false c len longest short = omega arith

  pub own-time : (id longest : ℕ) (xs : List TimedFrame) → All (λ s. is_own id s ≡ true → s.len ≤ longest) xs
      → time_of (is_own id) xs ≤ inside id xs * longest
  own-time id longest [] all = omega arith
  own-time id longest (x ∷ xs) all =
      let one = own-one (is_inside low high x) (x.frame.identifier == id) x.len longest (All-head (λ s. is_own id s ≡ true → s.len ≤ longest) x xs all) in
      let rest = own-time id longest xs (All-tail (λ s. is_own id s ≡ true → s.len ≤ longest) x xs all) in
      let product : inside id (x ∷ xs) * longest ≡ inside_one id x * longest + inside id xs * longest
      = ap (λ n. n * longest) (sum_by-cons (inside_one id) x xs) ∙ add-mul (inside_one id x) (inside id xs) longest in
      omega (arith, one, rest, product, sum_by-cons (λ s. cond (is_own id s) s.len 0) x xs)

  module _ (streams : List BurstStream) (level : ℕ) where
    abbrev used : List TimedFrame → BurstStream → ℕ
    used xs stream = cond (nat_lt stream.id level) (inside stream.id xs * worst stream.bytes) 0

    -- the frame is that of a stream, and no longer than that allows
    pub record IsServed (sent : TimedFrame) : Type 0 where
      pub stream : BurstStream
      pub among : Contains streams stream
      pub same : sent.frame.identifier ≡ stream.id
      pub short : sent.len ≤ worst stream.bytes

    used-if : (b : Bool) (few many width : ℕ) → few ≤ many → cond b (few * width) 0 ≤ cond b (many * width) 0
    used-if true few many width less = mul-le-mul_right width less
    used-if false few many width less = omega arith

    used-more : (x : TimedFrame) (xs : List TimedFrame) (stream : BurstStream) → used xs stream ≤ used (x ∷ xs) stream
    used-more x xs stream =
        used-if (nat_lt stream.id level) (inside stream.id xs) (inside stream.id (x ∷ xs)) (worst stream.bytes)
        (omega (arith, sum_by-cons (inside_one stream.id) x xs))

    used-one : (x : TimedFrame) (xs : List TimedFrame) (stream : BurstStream) → is_ahead level low high x ≡ true → x.frame.identifier ≡ stream.id
        → used xs stream + worst stream.bytes ≤ used (x ∷ xs) stream
    used-one x xs stream ahead same =
        let parts = and_parts (is_inside low high x) (nat_le least_asynchronous x.frame.identifier && nat_lt x.frame.identifier level) ahead in
        let below = and_parts (nat_le least_asynchronous x.frame.identifier) (nat_lt x.frame.identifier level) parts.1 in
        let yes_ : nat_lt stream.id level ≡ true = subst (λ n. nat_lt n level ≡ true) same below.1 in
        let now = ap (λ b. cond b (inside stream.id xs * worst stream.bytes) 0) yes_ in
        let then_ = ap (λ b. cond b (inside stream.id (x ∷ xs) * worst stream.bytes) 0) yes_ in
        let one : inside_one stream.id x ≡ 1 = ap (λ b. cond b (of_id stream.id x) 0) parts.0 ∙ ap (λ b. cond b 1 0) (eq-eqb x.frame.identifier stream.id same) in
        let more : inside stream.id (x ∷ xs) ≡ 1 + inside stream.id xs = omega (arith, sum_by-cons (inside_one stream.id) x xs, one) in
        let product : inside stream.id (x ∷ xs) * worst stream.bytes ≡ worst stream.bytes + inside stream.id xs * worst stream.bytes
        = ap (λ n. n * worst stream.bytes) more ∙ add-mul 1 (inside stream.id xs) (worst stream.bytes) ∙ ap (λ n. n + inside stream.id xs * worst stream.bytes) (one-mul (worst stream.bytes)) in
        omega (arith, now, then_, product)

    time-cons : (b : Bool) (x : TimedFrame) (xs : List TimedFrame) → is_ahead level low high x ≡ b
        → time_of (is_ahead level low high) (x ∷ xs) ≡ cond b x.len 0 + time_of (is_ahead level low high) xs
    time-cons b x xs is = sum_by-cons (λ s. cond (is_ahead level low high s) s.len 0) x xs ∙ ap (λ c. cond c x.len 0 + time_of (is_ahead level low high) xs) is

    at-head : (x : TimedFrame) (xs : List TimedFrame) → All (λ s. is_ahead level low high s ≡ true → IsServed s) (x ∷ xs)
        → time_of (is_ahead level low high) xs ≤ sum_by (used xs) streams
        → (b : Bool) → is_ahead level low high x ≡ b → time_of (is_ahead level low high) (x ∷ xs) ≤ sum_by (used (x ∷ xs)) streams
    at-head x xs served rest true is =
        let its = All-head (λ s. is_ahead level low high s ≡ true → IsServed s) x xs served is in
        let all = sum-le-one (used xs) (used (x ∷ xs)) streams its.stream (worst its.stream.bytes) (λ stream has. used-more x xs stream) its.among
        (used-one x xs its.stream is its.same) in
        omega (arith, rest, all, time-cons true x xs is, its.short)
    at-head x xs served rest false is =
        let all = sum-le (used xs) (used (x ∷ xs)) streams (λ stream has. used-more x xs stream) in
        omega (arith, rest, all, time-cons false x xs is)

    time-within : (xs : List TimedFrame) → All (λ s. is_ahead level low high s ≡ true → IsServed s) xs
        → time_of (is_ahead level low high) xs ≤ sum_by (used xs) streams
    time-within [] served = omega arith
    time-within (x ∷ xs) served =
        at-head x xs served (time-within xs (All-tail (λ s. is_ahead level low high s ≡ true → IsServed s) x xs served)) (is_ahead level low high x) refl

    pub time-demand : (span : ℕ) (xs : List TimedFrame) → All (λ s. is_ahead level low high s ≡ true → IsServed s) xs
        → ((stream : BurstStream) → Contains streams stream → stream.id < level → inside stream.id xs ≤ arrivals stream span)
        → time_of (is_ahead level low high) xs ≤ demand streams level span
    time-demand span xs served few =
        let all = sum-le (used xs) (λ stream. cond (nat_lt stream.id level) (arrivals stream span * worst stream.bytes) 0) streams
        (λ stream has. elim (cases_lt stream.id level) [
          | inl below ↦ used-if (nat_lt stream.id level) (inside stream.id xs) (arrivals stream span) (worst stream.bytes) (few stream has below)
          | inr above ↦
              let none : used xs stream ≡ 0 = ap (λ b. cond b (inside stream.id xs * worst stream.bytes) 0) (le-ltb stream.id level above) in
              omega (arith, none)
        ]) in
        omega (arith, time-within xs served, all)
