-- How a run goes on in the steps of a file.
use Rattle.std.proofs.Common.{◌≡◌, ℕ, zero, suc, ◌+◌, ◌<◌, ◌≤◌, ◌++◌, ◌==◌, ◌∷◌, [], Bool, false, true, cond, All, List, Option, None, Some, drop, length, slice_get, slice_set, refl, sym, ap, ◌∙◌, subst, inl, inr, arith}
use Rattle.std.specs.Prelude.{count_by, is_some, slice_index}
use Rattle.std.specs.List.{cons_option}
use Rattle.std.proofs.lemmas.Bool.{cases_Bool, cond-false, cond-true, eqb-false, eqb-true}
use Rattle.std.proofs.lemmas.List.{drop-drop, get_or-set_other, get_or-set_same, length-set}
use Rattle.std.proofs.lemmas.List.Elements.{All-head, All-tail}
use Rattle.std.proofs.lemmas.List.Sums.{sum_by-append}
use Rattle.std.proofs.lemmas.Option.{slice_get_past}
use Rattle.change_protocol.specs.declared.operations.Act.{Act}
use Rattle.master_core.specs.declared.event.Event.{Event}
use Rattle.steps_file.specs.StepsFile.{AreLegalSteps, IsStep}
use Rattle.steps_file.specs.declared.steps.Step.{Step}
use Rattle.steps_file.specs.declared.steps.Step.TheVariants as step
use Rattle.live_master.specs.Callers.{is_called_by}
use Rattle.live_steps.specs.Live.{act_of, acts_of}
use Rattle.trace_audit.specs.Ahead.{AreStepsAhead, act_in}
use Rattle.trace_audit.specs.declared.ahead.StepsAhead.{StepsAhead}
use Rattle.trace_audit.proofs.Readings.{get-drop}

-- The first act of what is left

first-of : (found : Option Act) (later : List Act) → is_some found ≡ true → found ≡ slice_get (cons_option found later) 0
first-of found later is = grind arith

act-first : (operator : ℕ) (steps : List Step) (place : ℕ)
    → ((d : Step) → slice_get steps place ≡ Some d → is_some (act_of operator d) ≡ true)
    → act_in operator steps place ≡ slice_get (acts_of operator (drop place steps)) 0
act-first operator [] zero first = refl
act-first operator [] (suc place) first = refl
act-first operator (s ∷ steps) zero first = first-of (act_of operator s) (acts_of operator steps) (first s refl)
act-first operator (s ∷ steps) (suc place) first = act-first operator steps place first

-- what is left behind it
act-rest : (operator : ℕ) (steps : List Step) (place : ℕ) → is_some (act_in operator steps place) ≡ true
    → drop 1 (acts_of operator (drop place steps)) ≡ acts_of operator (drop (suc place) steps)
act-rest operator [] zero some = absurd (cc)
act-rest operator [] (suc place) some = absurd (cc)
act-rest operator (s ∷ steps) zero some = behind (act_of operator s) some where
  behind : (found : Option Act) → is_some found ≡ true → drop 1 (cons_option found (acts_of operator steps)) ≡ acts_of operator steps
  behind found is = grind arith
act-rest operator (s ∷ steps) (suc place) some = act-rest operator steps place some

-- Operators that nobody is

no-act : (operator : ℕ) (s : Step) → 8 < operator → IsStep s → act_of operator s ≡ None
no-act operator s many is = grind (arith, eqb-true, cond-false)

no-acts : (operator : ℕ) (steps : List Step) → 8 < operator → All IsStep steps → acts_of operator steps ≡ []
no-acts operator [] many all = refl
no-acts operator (s ∷ steps) many all =
    ap (λ a. cons_option a (acts_of operator steps)) (no-act operator s many (All-head IsStep s steps all))
    ∙ no-acts operator steps many (All-tail IsStep s steps all)

-- nobody has an act behind all steps
none-behind : (operator : ℕ) (steps : List Step) → act_in operator steps (length steps) ≡ None
none-behind operator [] = refl
none-behind operator (s ∷ steps) = none-behind operator steps

pub some-within : (operator : ℕ) (steps : List Step) (place : ℕ) → length steps ≤ place → is_some (act_in operator steps place) ≡ true → ⊥
some-within operator [] zero past some = cc
some-within operator [] (suc place) past some = cc
some-within operator (s ∷ steps) zero past some = absurd (omega (arith, past))
some-within operator (s ∷ steps) (suc place) past some = some-within operator steps place (omega (arith, past)) some

pub nobody : (operator : ℕ) (steps : List Step) (count : ℕ) → 8 < operator → AreLegalSteps steps
    → act_in operator steps (length steps) ≡ slice_get (acts_of operator steps) count
nobody operator steps count many legal =
    none-behind operator steps ∙ sym (slice_get_past [] count (omega arith))
    ∙ ap (λ l. slice_get l count) (sym (no-acts operator steps many legal.each))

-- The next act, and the run behind it

count-more : (p : Event → Bool) (history : List Event) (event : Event)
    → count_by p (history ++ event ∷ []) ≡ count_by p history + cond (p event) 1 0
count-more p history event = let sum = sum_by-append (λ e. cond (p e) 1 0) history (event ∷ []) in omega (arith, sum)

module _ (steps : List Step) (history : List Event) (ahead : StepsAhead) (is : AreStepsAhead steps history ahead) (operator place : ℕ)
    (few : operator < 9)
    (same : acts_of operator (drop place steps) ≡ acts_of operator (drop (slice_index ahead.places operator) steps)) where
  pub next-act : ((d : Step) → slice_get steps place ≡ Some d → is_some (act_of operator d) ≡ true)
      → act_in operator steps place ≡ slice_get (acts_of operator steps) (count_by (is_called_by operator) history)
  next-act first = grind (arith, act-first, slice_get, get-drop)

  -- after the act
  abbrev behind : StepsAhead
  behind = record ahead { places = slice_set ahead.places operator (place + 1) }

  own-acts : (event : Event) → is_called_by operator event ≡ true → is_some (act_in operator steps place) ≡ true
      → acts_of operator (drop (place + 1) steps)
      ≡ drop (count_by (is_called_by operator) (history ++ event ∷ [])) (acts_of operator steps)
  own-acts event own some =
      let count : ℕ = count_by (is_called_by operator) history in
      let next : place + 1 ≡ suc place = omega arith in
      let one : cond {A = ℕ} (is_called_by operator event) 1 0 ≡ 1 = cond-true (is_called_by operator event) 1 0 own in
      ap (λ p. acts_of operator (drop p steps)) next ∙ sym (act-rest operator steps place some)
      ∙ ap (drop 1) (same ∙ is.acts operator few) ∙ drop-drop 1 count (acts_of operator steps)
      ∙ ap (λ n. drop n (acts_of operator steps)) (ap (λ n. count + n) (sym one) ∙ sym (count-more (is_called_by operator) history event))

  pub ahead-behind : (event : Event) → ((caller : ℕ) → is_called_by caller event ≡ (operator == caller))
      → is_some (act_in operator steps place) ≡ true → AreStepsAhead steps (history ++ event ∷ []) behind
  ahead-behind event calls some =
      grind (arith, length-set, eqb-true, get_or-set_same, behind, own-acts, cond-false, get_or-set_other, eqb-false, count-more)

-- after the opening of a cycle
pub ahead-opened : (steps : List Step) (history : List Event) (ahead : StepsAhead) (event : Event)
    → ((caller : ℕ) → is_called_by caller event ≡ false) → AreStepsAhead steps history ahead → AreStepsAhead steps (history ++ event ∷ []) ahead
ahead-opened steps history ahead event none is = grind (arith, cond-false, count-more)
