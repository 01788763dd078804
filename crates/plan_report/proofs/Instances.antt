-- The instances of an entry that were sent, against the frames that start in a cycle.
use Rattle.std.proofs.Common.{◌≡◌, ℕ, zero, suc, ◌+◌, ◌<◌, ◌≤◌, ◌||◌, ◌≢◌, Bool, true, false, cond, eqb, Option, Some, None, List, [], ◌∷◌, ◌++◌, length, get_or, refl, sym, ap, subst, ◌∙◌, arith, append_assoc, inl, inr}
use Rattle.std.specs.List.{list_any, All, AllPairs, Any}
use Rattle.std.proofs.lemmas.Bool.{cases_Bool, cond-true, cond-false, eqb-true, eq-eqb}
use Rattle.std.proofs.lemmas.List.{append-nil}
use Rattle.std.proofs.lemmas.List.Elements.{All-append, All-cons, All-head, All-tail}
use Rattle.std.proofs.lemmas.List.Folds.{Any-from_list_any, list_any-append}
use Rattle.std.proofs.lemmas.List.Kept.{AllPairs-cons}
use Rattle.profile.specs.Limits.{first_identifier}
use Rattle.can_frame.specs.declared.data_frame.TimedFrame.{TimedFrame}
use Rattle.requirement_table.specs.declared.entries.Placed.{Placed}
use Rattle.requirement_table.specs.Instance.{MaySend, instance_of}
use Rattle.requirement_table.proofs.Shared.{MaySend-from_instance, instance_of-sent}
use Rattle.bus_trace.specs.Log.{started_in, trigger_count_with}
use Rattle.plan_report.specs.Report.{Sending, first_sendings, is_sent, sending_at, sendings, sent_by, sent_of}
use Rattle.plan_report.specs.Sent.{WasSentIn}

-- Tests

pub or-left : (a b : Bool) → a ≡ true → (a || b) ≡ true
or-left true b is = refl
or-left false b is = absurd (cc)

pub or-right : (a b : Bool) → b ≡ true → (a || b) ≡ true
or-right true b is = refl
or-right false b is = is

or-none : (a b : Bool) → (a || b) ≡ false → (a ≡ false) × (b ≡ false)
or-none true b is = absurd (cc)
or-none false b is = (refl, is)

or_assoc : (a b c : Bool) → ((a || b) || c) ≡ (a || (b || c))
or_assoc true b c = refl
or_assoc false b c = refl

-- whether the frame is of the entry's slot
abbrev of_slot : Placed → TimedFrame → Bool
of_slot p sent = eqb sent.frame.identifier (first_identifier + p.entry.slot)

-- an instance was sent by one of the frames, where `seen` triggers came before them
pub record IsAmong (p : Placed) (seen : ℕ) (trace : List TimedFrame) (s : Sending) : Type 0 where
  pub sent : list_any (of_slot p) (started_in s.cycle seen trace) ≡ true
  pub in_time : MaySend p s.number s.cycle

-- Each sending is of such an instance

module _ (p : Placed) (seen : ℕ) (sent : TimedFrame) (later : List TimedFrame) where
  among-later : (s : Sending) → IsAmong p (trigger_count_with seen sent) later s → IsAmong p seen (sent ∷ later) s
  among-later s is = record {
    sent = list_any-append (of_slot p) (cond (eqb (trigger_count_with seen sent) (s.cycle + 1)) (sent ∷ []) []) (started_in s.cycle (trigger_count_with seen sent) later)
        ∙ or-right _ _ is.sent;
    in_time = is.in_time;
  }

  among-first : (cycle number : ℕ) → trigger_count_with seen sent ≡ suc cycle → of_slot p sent ≡ true → instance_of p cycle ≡ Some number
      → IsAmong p seen (sent ∷ later) (record { number = number; cycle = cycle })
  among-first cycle number now here sends = record {
    sent = list_any-append (of_slot p) (cond (eqb (trigger_count_with seen sent) (cycle + 1)) (sent ∷ []) []) (started_in cycle (trigger_count_with seen sent) later)
        ∙ or-left _ _ (ap (list_any (of_slot p)) (cond-true (eqb (trigger_count_with seen sent) (cycle + 1)) (sent ∷ []) [] (eq-eqb _ _ (omega arith)))
        ∙ or-left _ _ here);
    in_time = MaySend-from_instance p number cycle sends;
  }

  all-at : (cycle : ℕ) (o : Option ℕ) → instance_of p cycle ≡ o → trigger_count_with seen sent ≡ suc cycle → of_slot p sent ≡ true
      → All (IsAmong p seen (sent ∷ later)) (sending_at cycle o)
  all-at cycle None is now here = λ k d within. absurd (omega arith)
  all-at cycle (Some number) is now here = λ k d within.
      let first : k ≡ 0 = omega arith in
      subst (λ n. IsAmong p seen (sent ∷ later) (get_or (record { number = number; cycle = cycle } ∷ []) n d)) (sym first)
      (among-first cycle number now here is)

  all-by : (now : ℕ) → trigger_count_with seen sent ≡ now → All (IsAmong p seen (sent ∷ later)) (sent_by p now sent)
  all-by zero is = λ k d within. absurd (omega arith)
  all-by (suc cycle) is =
      elim (cases_Bool (of_slot p sent)) [
        | inl here ↦
            subst (All (IsAmong p seen (sent ∷ later))) (sym (cond-true (of_slot p sent) (sending_at cycle (instance_of p cycle)) [] here))
            (all-at cycle (instance_of p cycle) refl is here)
        | inr other ↦
            subst (All (IsAmong p seen (sent ∷ later))) (sym (cond-false (of_slot p sent) (sending_at cycle (instance_of p cycle)) [] other))
            (λ k d within. absurd (omega arith))
      ]

sound : (p : Placed) (seen : ℕ) (trace : List TimedFrame) → All (IsAmong p seen trace) (sendings p seen trace)
sound p seen [] = λ k d within. absurd (omega arith)
sound p seen (sent ∷ later) =
    All-append (IsAmong p seen (sent ∷ later)) (sent_by p (trigger_count_with seen sent) sent) (sendings p (trigger_count_with seen sent) later)
    (all-by p seen sent later (trigger_count_with seen sent) refl)
    (λ k d within. among-later p seen sent later _ (sound p (trigger_count_with seen sent) later k d within))

-- And each instance has one

module _ (p : Placed) (number cycle : ℕ) (sends : instance_of p cycle ≡ Some number) where
  by-frame : (now : ℕ) (sent : TimedFrame) → now ≡ suc cycle → of_slot p sent ≡ true → is_sent (sent_by p now sent) number ≡ true
  by-frame now sent is here =
      ap (λ n. is_sent (sent_by p n sent) number) is
      ∙ ap (λ l. is_sent l number) (cond-true (of_slot p sent) (sending_at cycle (instance_of p cycle)) [] here ∙ ap (sending_at cycle) sends)
      ∙ or-left _ _ (eq-eqb number number refl)

  complete : (seen : ℕ) (trace : List TimedFrame) → list_any (of_slot p) (started_in cycle seen trace) ≡ true → is_sent (sendings p seen trace) number ≡ true
  complete seen [] found = absurd (cc)
  complete seen (sent ∷ later) found = by (eqb now (cycle + 1)) refl (complete now later)
    where
      now : ℕ
      now = trigger_count_with seen sent

      parts : is_sent (sendings p seen (sent ∷ later)) number ≡ (is_sent (sent_by p now sent) number || is_sent (sendings p now later) number)
      parts = list_any-append (λ s. eqb s.number number) (sent_by p now sent) (sendings p now later)

      by : (b : Bool) → eqb now (cycle + 1) ≡ b
          → (list_any (of_slot p) (started_in cycle now later) ≡ true → is_sent (sendings p now later) number ≡ true)
          → is_sent (sendings p seen (sent ∷ later)) number ≡ true
      by false other rest =
          parts ∙ or-right _ _ (rest (sym (ap (λ b. list_any (of_slot p) (cond b (sent ∷ []) [] ++ started_in cycle now later)) other) ∙ found))
      by true here rest = elim (cases_Bool (of_slot p sent)) [
        | inl of ↦
            let same : now ≡ cycle + 1 = eqb-true now (cycle + 1) here in
            parts ∙ or-left _ _ (by-frame now sent (omega arith) of)
        | inr not ↦
            parts ∙ or-right _ _ (rest (sym (ap (λ b. list_any (of_slot p) (cond b (sent ∷ []) [] ++ started_in cycle now later)) here
            ∙ ap (λ b. b || list_any (of_slot p) (started_in cycle now later)) not) ∙ found))
      ]

-- The first ones

or-empty : (b : Bool) → (b || false) ≡ b
or-empty true = refl
or-empty false = refl

absorbed : (a b : Bool) → (b ≡ true → a ≡ true) → (a || b) ≡ a
absorbed true b within = refl
absorbed false true within = sym (within refl)
absorbed false false within = refl

sent-push : (before : List Sending) (s : Sending) (k : ℕ) → is_sent (before ++ s ∷ []) k ≡ (is_sent before k || eqb s.number k)
sent-push before s k = list_any-append (λ t. eqb t.number k) before (s ∷ []) ∙ ap (λ b. is_sent before k || b) (or-empty (eqb s.number k))

firsts-sent : (before xs : List Sending) (k : ℕ) → (is_sent before k || is_sent (first_sendings before xs) k) ≡ is_sent (before ++ xs) k
firsts-sent before [] k = or-empty (is_sent before k) ∙ ap (λ l. is_sent l k) (sym (append-nil before))
firsts-sent before (s ∷ xs) k =
    by (is_sent before s.number) refl (firsts-sent (before ++ s ∷ []) xs k ∙ ap (λ l. is_sent l k) (append_assoc before (s ∷ []) xs))
  where
    by : (b : Bool) → is_sent before s.number ≡ b
        → (is_sent (before ++ s ∷ []) k || is_sent (first_sendings (before ++ s ∷ []) xs) k) ≡ is_sent (before ++ s ∷ xs) k
        → (is_sent before k || is_sent (cond b [] (s ∷ []) ++ first_sendings (before ++ s ∷ []) xs) k) ≡ is_sent (before ++ s ∷ xs) k
    by false fresh rest =
        sym (or_assoc (is_sent before k) (eqb s.number k) _)
        ∙ ap (λ b. b || is_sent (first_sendings (before ++ s ∷ []) xs) k) (sym (sent-push before s k)) ∙ rest
    by true known rest =
        ap (λ b. b || is_sent (first_sendings (before ++ s ∷ []) xs) k)
        (sym (sent-push before s k ∙ absorbed (is_sent before k) (eqb s.number k)
        (λ same. subst (λ n. is_sent before n ≡ true) (eqb-true s.number k same) known)))
        ∙ rest

firsts-all : (P : Sending → Type 0) (before xs : List Sending) → All P xs → All P (first_sendings before xs)
firsts-all P before [] all = all
firsts-all P before (s ∷ xs) all = by (is_sent before s.number) (firsts-all P (before ++ s ∷ []) xs (All-tail P s xs all))
  where
    by : (b : Bool) → All P (first_sendings (before ++ s ∷ []) xs) → All P (cond b [] (s ∷ []) ++ first_sendings (before ++ s ∷ []) xs)
    by true rest = rest
    by false rest = All-cons P s (first_sendings (before ++ s ∷ []) xs) (All-head P s xs all) rest

-- none of them was sent before
firsts-fresh : (before xs : List Sending) → All (λ s. is_sent before s.number ≡ false) (first_sendings before xs)
firsts-fresh before [] = λ k d within. absurd (omega arith)
firsts-fresh before (s ∷ xs) =
    by (is_sent before s.number) refl (λ k d within.
    (or-none _ _ (sym (sent-push before s (get_or (first_sendings (before ++ s ∷ []) xs) k d).number) ∙ firsts-fresh (before ++ s ∷ []) xs k d within)).0)
  where
    by : (b : Bool) → is_sent before s.number ≡ b → All (λ t. is_sent before t.number ≡ false) (first_sendings (before ++ s ∷ []) xs)
        → All (λ t. is_sent before t.number ≡ false) (cond b [] (s ∷ []) ++ first_sendings (before ++ s ∷ []) xs)
    by true known rest = rest
    by false fresh rest = All-cons (λ t. is_sent before t.number ≡ false) s (first_sendings (before ++ s ∷ []) xs) fresh rest

firsts-once : (before xs : List Sending) → AllPairs (λ one other. one.number ≢ other.number) (first_sendings before xs)
firsts-once before [] = λ i j d lower within. absurd (omega arith)
firsts-once before (s ∷ xs) = by (is_sent before s.number) (firsts-once (before ++ s ∷ []) xs)
  where
    others : All (λ other. s.number ≢ other.number) (first_sendings (before ++ s ∷ []) xs)
    others = λ k d within same.
        let number : ℕ = (get_or (first_sendings (before ++ s ∷ []) xs) k d).number in
        let fresh : eqb s.number number ≡ false =
        (or-none (is_sent before number) (eqb s.number number) (sym (sent-push before s number) ∙ firsts-fresh (before ++ s ∷ []) xs k d within)).1 in
        let equal : eqb s.number number ≡ true = eq-eqb s.number number same in
        let none : ⊥ = cc in none

    by : (b : Bool) → AllPairs (λ one other. one.number ≢ other.number) (first_sendings (before ++ s ∷ []) xs)
        → AllPairs (λ one other. one.number ≢ other.number) (cond b [] (s ∷ []) ++ first_sendings (before ++ s ∷ []) xs)
    by true rest = rest
    by false rest = AllPairs-cons (λ one other. one.number ≢ other.number) s (first_sendings (before ++ s ∷ []) xs) others rest

-- The laws

pub sent-once : (trace : List TimedFrame) (p : Placed) → AllPairs (λ one other. one.number ≢ other.number) (sent_of trace p)
sent-once trace p = firsts-once [] (sendings p 0 trace)

slot-frame : (p : Placed) (frames : List TimedFrame) → list_any (of_slot p) frames ≡ true
    → Any (λ sent. sent.frame.identifier ≡ first_identifier + p.entry.slot) frames
slot-frame p frames some =
    let found = Any-from_list_any (of_slot p) frames some in
    (found.0, found.1, found.2, found.3, eqb-true _ _ found.4)

pub sent-sound : (trace : List TimedFrame) (p : Placed) → All (λ s. WasSentIn trace p s.number s.cycle) (sent_of trace p)
sent-sound trace p =
    firsts-all (λ s. WasSentIn trace p s.number s.cycle) [] (sendings p 0 trace) (λ k d within.
    let s = get_or (sendings p 0 trace) k d in
    let is : IsAmong p 0 trace s = sound p 0 trace k d within in
    record { sent = slot-frame p (started_in s.cycle 0 trace) is.sent; in_time = is.in_time })

pub any-test : {X : Type 0} (test : X → Bool) (P : X → Type 0) → ((x : X) → P x → test x ≡ true) → (xs : List X) → Any P xs → list_any test xs ≡ true
any-test test P passes [] some = absurd (let within = some.2 in omega arith)
any-test {X} test P passes (y ∷ later) some = by some.0 some.1 some.2 some.3 some.4 (any-test test P passes later)
  where
    by : (k : ℕ) (x : X) → k < suc (length later) → get_or (y ∷ later) k x ≡ x → P x → (Any P later → list_any test later ≡ true)
        → (test y || list_any test later) ≡ true
    by zero x within here is rest = or-left _ _ (passes y (subst P (sym here) is))
    by (suc k) x within here is rest = or-right _ _ (rest (k, x, omega arith, here, is))

slot-test : (p : Placed) (frames : List TimedFrame) → Any (λ sent. sent.frame.identifier ≡ first_identifier + p.entry.slot) frames
    → list_any (of_slot p) frames ≡ true
slot-test p frames some =
    any-test (of_slot p) (λ sent. sent.frame.identifier ≡ first_identifier + p.entry.slot) (λ sent same. eq-eqb _ _ same) frames some

pub sent-complete : (trace : List TimedFrame) (p : Placed) (number cycle : ℕ) → p.entry.deadline ≤ p.entry.period → WasSentIn trace p number cycle
    → Any (λ s. s.number ≡ number) (sent_of trace p)
sent-complete trace p number cycle period is =
    let sends : instance_of p cycle ≡ Some number = instance_of-sent p number cycle period is.in_time in
    let among : is_sent (sent_of trace p) number ≡ true =
    firsts-sent [] (sendings p 0 trace) number ∙ complete p number cycle sends 0 trace (slot-test p (started_in cycle 0 trace) is.sent) in
    let found = Any-from_list_any (λ s. eqb s.number number) (sent_of trace p) among in
    (found.0, found.1, found.2, found.3, eqb-true _ _ found.4)
