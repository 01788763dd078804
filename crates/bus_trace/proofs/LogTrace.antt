-- The frames of a trace that start in a cycle, cut at the triggers.
use Rattle.std.proofs.Common.{◌≡◌, ◌≢◌, ℕ, suc, ◌+◌, ◌-◌, ◌<◌, ◌≤◌, Bool, true, false, cond, not, eqb, List, [], ◌∷◌, ◌++◌, take, drop, length, refl, sym, ap, subst, ◌∙◌, arith, inl, inr}
use Rattle.std.specs.List.{position_or_len}
use Rattle.std.proofs.lemmas.Bool.{cases_Bool, ne_eqb, eqb-true, eq-eqb, cond-true, cond-false}
use Rattle.std.proofs.lemmas.Grind.{common_steps}
use Rattle.std.proofs.lemmas.List.{append-nil}
use Rattle.can_frame.specs.declared.data_frame.TimedFrame.{TimedFrame}
use Rattle.bus_trace.specs.Log.{trigger_count_with, started_in}
use Rattle.bus_trace.specs.Logged.{is_trigger, BeginsWithTrigger, IsLeft}

-- the number of frames before the first trigger
abbrev until : List TimedFrame → ℕ
until frames = position_or_len is_trigger frames

until-trigger : (sent : TimedFrame) (later : List TimedFrame) → is_trigger sent ≡ true → until (sent ∷ later) ≡ 0
until-trigger sent later here = ap (λ b. cond (not b) (1 + until later) 0) {x = is_trigger sent} {y = true} here

until-other : (sent : TimedFrame) (later : List TimedFrame) → is_trigger sent ≡ false
    → until (sent ∷ later) ≡ suc (until later)
until-other sent later other =
    let more : 1 + until later ≡ suc (until later) = omega arith in
    ap (λ b. cond (not b) (1 + until later) 0) {x = is_trigger sent} {y = false} other ∙ more

pub trigger_count_with-trigger : (seen : ℕ) (sent : TimedFrame) → sent.frame.identifier ≡ 0 → trigger_count_with seen sent ≡ seen + 1
trigger_count_with-trigger seen sent here = cond-true (is_trigger sent) (seen + 1) seen (eq-eqb _ _ here)

trigger_count_with-other : (seen : ℕ) (sent : TimedFrame) → is_trigger sent ≡ false → trigger_count_with seen sent ≡ seen
trigger_count_with-other seen sent other = cond-false (is_trigger sent) (seen + 1) seen other

cond_both : {A : Type 0} (b : Bool) (x : A) → cond b x x ≡ x
cond_both true x = refl
cond_both false x = refl

cond_joined : (b : Bool) (x : TimedFrame) (xs rest : List TimedFrame)
    → cond b (x ∷ []) [] ++ (cond b xs [] ++ rest) ≡ cond b (x ∷ xs) [] ++ rest
cond_joined true x xs rest = refl
cond_joined false x xs rest = refl

-- the frames before the first trigger start in the cycle of which the trigger was the last one seen
started_in-until : (cycle seen : ℕ) (frames : List TimedFrame)
    → started_in cycle seen frames ≡ cond (eqb seen (cycle + 1)) (take (until frames) frames) [] ++ started_in cycle seen (drop (until frames) frames)
started_in-until cycle seen [] = sym (ap (λ l. l ++ []) (cond_both (eqb seen (cycle + 1)) []))
started_in-until cycle seen (sent ∷ later) =
    let split : ℕ → List TimedFrame = λ n. cond (eqb seen (cycle + 1)) (take n (sent ∷ later)) [] ++ started_in cycle seen (drop n (sent ∷ later)) in
    elim (cases_Bool (is_trigger sent)) [
      | inl here ↦ sym (ap split (until-trigger sent later here) ∙ ap (λ l. l ++ started_in cycle seen (sent ∷ later)) (cond_both (eqb seen (cycle + 1)) []))
      | inr other ↦
          ap (λ n. cond (eqb n (cycle + 1)) (sent ∷ []) [] ++ started_in cycle n later) (trigger_count_with-other seen sent other)
          ∙ ap (λ l. cond (eqb seen (cycle + 1)) (sent ∷ []) [] ++ l) (started_in-until cycle seen later)
          ∙ cond_joined (eqb seen (cycle + 1)) sent (take (until later) later) _
          ∙ sym (ap split (until-other sent later other))
    ]

-- what is behind these frames begins with a trigger
begins-until : (frames : List TimedFrame) → BeginsWithTrigger (drop (until frames) frames)
begins-until [] = tt
begins-until (sent ∷ later) =
    elim (cases_Bool (is_trigger sent)) [
      | inl here ↦ subst (λ n. BeginsWithTrigger (drop n (sent ∷ later))) (sym (until-trigger sent later here)) (eqb-true _ _ here)
      | inr other ↦ subst (λ n. BeginsWithTrigger (drop n (sent ∷ later))) (sym (until-other sent later other)) (begins-until later)
    ]

pub trigger_count_with-le : (seen : ℕ) (sent : TimedFrame) → seen ≤ trigger_count_with seen sent
trigger_count_with-le seen sent =
    elim (cases_Bool (is_trigger sent)) [
      | inl here ↦ omega (arith, trigger_count_with-trigger seen sent (eqb-true _ _ here))
      | inr other ↦ omega (arith, trigger_count_with-other seen sent other)
    ]

-- where the count of triggers is not that of the cycle, the frame starts in another one
pub starts-elsewhere : (cycle seen : ℕ) (sent : TimedFrame) (rest : List TimedFrame) → seen ≢ cycle + 1
    → cond (eqb seen (cycle + 1)) (sent ∷ []) [] ++ rest ≡ rest
starts-elsewhere cycle seen sent rest other = ap (λ l. l ++ rest) (cond-false (eqb seen (cycle + 1)) (sent ∷ []) [] (ne_eqb _ _ other))

-- no frame starts in a cycle after the next one's trigger
started_in-past : (cycle seen : ℕ) (frames : List TimedFrame) → cycle + 1 < seen → started_in cycle seen frames ≡ []
started_in-past cycle seen [] past = refl
started_in-past cycle seen (sent ∷ later) past =
    let more = trigger_count_with-le seen sent in
    starts-elsewhere cycle (trigger_count_with seen sent) sent _ (λ is. omega arith)
    ∙ started_in-past cycle (trigger_count_with seen sent) later (omega arith)

-- nor from the next one's trigger on
pub started_in-later : (cycle seen : ℕ) (frames : List TimedFrame) → BeginsWithTrigger frames → cycle + 1 ≤ seen
    → started_in cycle seen frames ≡ []
started_in-later cycle seen [] begins past = refl
started_in-later cycle seen (sent ∷ later) begins past =
    let now = trigger_count_with-trigger seen sent begins in
    starts-elsewhere cycle (trigger_count_with seen sent) sent _ (λ is. omega arith)
    ∙ started_in-past cycle (trigger_count_with seen sent) later (omega arith)

-- Cycle by cycle

-- without the frames before the first trigger
pub IsLeft-first : (trace : List TimedFrame) → IsLeft trace 0 (drop (until trace) trace)
IsLeft-first trace = record {
  begins = begins-until trace;
  later = λ cycle _. started_in-until cycle 0 trace
      ∙ ap (λ l. l ++ started_in cycle 0 (drop (until trace) trace)) (cond-false (eqb 0 (cycle + 1)) (take (until trace) trace) [] (ne_eqb 0 (cycle + 1) (omega arith)));
}

-- the number of frames of the first cycle of those left
abbrev pub cycle_len : List TimedFrame → ℕ
cycle_len [] = 0
cycle_len (sent ∷ later) = suc (until later)

-- as it is counted
pub cycle_len-is : (left : List TimedFrame) (n : ℕ) → 1 ≤ length left
    → n ≡ until (take (length left - 1) (drop 1 left)) → 1 + n ≡ cycle_len left
cycle_len-is [] n some is = absurd (omega arith)
cycle_len-is (sent ∷ later) n some is =
    let all : take (suc (length later) - 1) later ≡ later = grind (arith, common_steps) in
    let count : n ≡ until later = is ∙ ap until all in
    omega arith

-- after a trigger a cycle's frames go on up to the next trigger
started_in-trigger : (cycle seen : ℕ) (sent : TimedFrame) (later : List TimedFrame) → sent.frame.identifier ≡ 0
    → started_in cycle seen (sent ∷ later)
    ≡ cond (eqb (seen + 1) (cycle + 1)) (sent ∷ take (until later) later) [] ++ started_in cycle (seen + 1) (drop (until later) later)
started_in-trigger cycle seen sent later zero_id =
    ap (λ n. cond (eqb n (cycle + 1)) (sent ∷ []) [] ++ started_in cycle n later) (trigger_count_with-trigger seen sent zero_id)
    ∙ ap (λ l. cond (eqb (seen + 1) (cycle + 1)) (sent ∷ []) [] ++ l) (started_in-until cycle (seen + 1) later)
    ∙ cond_joined (eqb (seen + 1) (cycle + 1)) sent (take (until later) later) _

-- they are the frames that start in the next cycle
pub started_in-cycle : (trace : List TimedFrame) (next : ℕ) (left : List TimedFrame) → IsLeft trace next left
    → take (cycle_len left) left ≡ started_in next 0 trace
started_in-cycle trace next [] is = sym (is.later next (omega arith))
started_in-cycle trace next (sent ∷ later) is =
    sym (is.later next (omega arith) ∙ started_in-trigger next next sent later is.begins
    ∙ ap (λ l. cond (eqb (next + 1) (next + 1)) (sent ∷ take (until later) later) [] ++ l) (started_in-later next (next + 1) (drop (until later) later) (begins-until later) (omega arith))
    ∙ append-nil _
    ∙ cond-true (eqb (next + 1) (next + 1)) (sent ∷ take (until later) later) [] (eq-eqb _ _ refl))

-- and without them the cycles after it are left
pub IsLeft-next : (trace : List TimedFrame) (next : ℕ) (left : List TimedFrame) → IsLeft trace next left
    → IsLeft trace (next + 1) (drop (cycle_len left) left)
IsLeft-next trace next [] is = record { begins = tt; later = λ cycle above. is.later cycle (omega arith) }
IsLeft-next trace next (sent ∷ later) is = record {
  begins = begins-until later;
  later = λ cycle above. is.later cycle (omega arith) ∙ started_in-trigger cycle next sent later is.begins
      ∙ ap (λ l. l ++ started_in cycle (next + 1) (drop (until later) later))
      (cond-false (eqb (next + 1) (cycle + 1)) (sent ∷ take (until later) later) [] (ne_eqb (next + 1) (cycle + 1) (omega arith)));
}
