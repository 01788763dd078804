-- The frames that start in a cycle, where each frame has the cycle that the triggers up to it count.
use Rattle.std.proofs.Common.{◌≡◌, ℕ, ◌+◌, Bool, true, false, cond, List, [], ◌∷◌, ◌++◌, length, filter, refl, sym, ap, ◌∙◌, arith, append_assoc}
use Rattle.std.specs.Prelude.{◌==◌, if◌then◌else◌}
use Rattle.std.proofs.lemmas.Bool.Decides.{nat_tests}
use Rattle.std.proofs.lemmas.List.{length-append}
use Rattle.std.proofs.lemmas.List.Elements.{filter-append}
use Rattle.can_frame.specs.declared.data_frame.TimedFrame.{TimedFrame}
use Rattle.bus_trace.specs.Log.{started_in, trigger_count_with}
use Rattle.bus_trace.specs.Logged.{is_trigger}

-- one frame more has its trigger counted
counted-one : (b : Bool) (seen : ℕ) (sent : TimedFrame) → seen + length (cond b (sent ∷ []) []) ≡ (if b then seen + 1 else seen)
counted-one true seen sent = omega arith
counted-one false seen sent = omega arith

counted-more : (front : List TimedFrame) (sent : TimedFrame) (seen : ℕ) → length (filter is_trigger front) ≡ seen
    → length (filter is_trigger (front ++ sent ∷ [])) ≡ trigger_count_with seen sent
counted-more front sent seen counted =
    ap length (filter-append is_trigger front (sent ∷ []))
    ∙ length-append (filter is_trigger front) (filter is_trigger (sent ∷ []))
    ∙ ap (λ n. n + length (filter is_trigger (sent ∷ []))) counted
    ∙ counted-one (is_trigger sent) seen sent

same-test : (a b : ℕ) → (a + 1 == b + 1) ≡ (a == b)
same-test a b = grind (arith, nat_tests)

put-front : (b : Bool) (sent : TimedFrame) (later : List TimedFrame) → (if b then sent ∷ [] else []) ++ later ≡ cond b (sent ∷ later) later
put-front true sent later = refl
put-front false sent later = refl

module _ (cycle_of : TimedFrame → ℕ) (cycle : ℕ) where
  -- the triggers up to each frame of the rest, which these frames come before, are one more than its cycle
  abbrev Counts : List TimedFrame → List TimedFrame → Type 0
  Counts front rest = (first later : List TimedFrame) (sent : TimedFrame) → front ++ rest ≡ first ++ sent ∷ later
      → length (filter is_trigger (first ++ sent ∷ [])) ≡ cycle_of sent + 1

  pub rest-by_cycle : (front rest : List TimedFrame) (seen : ℕ) → length (filter is_trigger front) ≡ seen → Counts front rest
      → started_in cycle seen rest ≡ filter (λ sent. cycle_of sent == cycle) rest
  rest-by_cycle front [] seen counted counts = refl
  rest-by_cycle front (sent ∷ later) seen counted counts =
      let more = counted-more front sent seen counted in
      let here : trigger_count_with seen sent ≡ cycle_of sent + 1 = sym more ∙ counts front later sent refl in
      let test : (trigger_count_with seen sent == cycle + 1) ≡ (cycle_of sent == cycle)
      = ap (λ n. n == cycle + 1) here ∙ same-test (cycle_of sent) cycle in
      let rest = rest-by_cycle (front ++ sent ∷ []) later (trigger_count_with seen sent) more
      (λ first behind other split. counts first behind other (sym (append_assoc front (sent ∷ []) later) ∙ split)) in
      ap (λ b. (if b then sent ∷ [] else []) ++ started_in cycle (trigger_count_with seen sent) later) test
      ∙ ap (λ l. (if cycle_of sent == cycle then sent ∷ [] else []) ++ l) rest
      ∙ put-front (cycle_of sent == cycle) sent (filter (λ other. cycle_of other == cycle) later)
