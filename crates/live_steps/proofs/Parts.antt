-- One step more.
use Rattle.std.proofs.Common.{◌≡◌, ◌∙◌, ℕ, ◌+◌, ◌<◌, ◌==◌, [], ◌∷◌, ◌++◌, if◌then◌else◌, Bool, true, false, List, Some, None, length, slice_index_or, sum_by, sym, ap, arith, append-nil, take}
use Rattle.std.specs.List.{cons_option}
use Rattle.std.proofs.lemmas.List.{take_all, take-append-le}
use Rattle.std.proofs.lemmas.List.Elements.{filter_map-append}
use Rattle.std.proofs.lemmas.List.Sums.{sum_by-append, sum_by-cons}
use Rattle.change_protocol.specs.declared.operations.Act.{Act}
use Rattle.steps_file.specs.StepsFile.{count_of}
use Rattle.steps_file.specs.declared.steps.Step.{Step}
use Rattle.steps_file.specs.declared.steps.Step.TheVariants as step
use Rattle.live_run.specs.declared.script.Script.{Script}
use Rattle.live_steps.specs.Live.{act_of, acts_of}
use Rattle.live_steps.specs.Parts.{AreScripts}

acts-none : (k : ℕ) (ys : List Step) (s : Step) → act_of k s ≡ None → acts_of k (ys ++ s ∷ []) ≡ acts_of k ys
acts-none k ys s none =
    filter_map-append (act_of k) ys (s ∷ []) ∙ (ap (λ o. acts_of k ys ++ cons_option o []) none ∙ append-nil (acts_of k ys))

acts-some : (k : ℕ) (ys : List Step) (s : Step) (a : Act) → act_of k s ≡ Some a → acts_of k (ys ++ s ∷ []) ≡ acts_of k ys ++ a ∷ []
acts-some k ys s a some =
    filter_map-append (act_of k) ys (s ∷ []) ∙ ap (λ o. acts_of k ys ++ cons_option o []) some

-- the counts so far and one more
pub counts-more : (ys : List Step) (s : Step) (cycles count : ℕ) → s ≡ step.Cycle count → cycles ≡ sum_by count_of ys
    → cycles + count ≡ sum_by count_of (ys ++ s ∷ [])
counts-more ys s cycles count is so_far =
    let one : count_of s ≡ count = ap count_of is in
    let all = sum_by-append count_of ys (s ∷ []) in
    let last = sum_by-cons count_of s [] in
    omega (arith, one, all, last, so_far)

pub counts-same : (ys : List Step) (s : Step) (cycles caller : ℕ) (a : Act) → s ≡ step.Act caller a → cycles ≡ sum_by count_of ys
    → cycles ≡ sum_by count_of (ys ++ s ∷ [])
counts-same ys s cycles caller a is so_far =
    let one : count_of s ≡ 0 = ap count_of is in
    let all = sum_by-append count_of ys (s ∷ []) in
    let last = sum_by-cons count_of s [] in
    omega (arith, one, all, last, so_far)

-- a count asks nothing of an operator
pub scripts-same : (ys : List Step) (s : Step) (count : ℕ) (scripts : List Script) → s ≡ step.Cycle count → AreScripts ys scripts
    → AreScripts (ys ++ s ∷ []) scripts
scripts-same ys s count scripts is old = record {
  count = old.count;
  each = λ k d less. old.each k d less ∙ sym (acts-none (k + 1) ys s (ap (act_of (k + 1)) is));
}

by-case : (k : ℕ) (ys : List Step) (s : Step) (a : Act) (b : Bool) (before after : List Act) → act_of k s ≡ (if b then Some a else None)
    → after ≡ (if b then before ++ a ∷ [] else before) → before ≡ acts_of k ys → after ≡ acts_of k (ys ++ s ∷ [])
by-case k ys s a true before after is new old = new ∙ (ap (λ (l : List Act). l ++ a ∷ []) old ∙ sym (acts-some k ys s a is))
by-case k ys s a false before after is new old = new ∙ (old ∙ sym (acts-none k ys s is))

-- an act is added to the script of its operator
pub scripts-more : (ys : List Step) (s : Step) (caller : ℕ) (a : Act) (old new : List Script) → s ≡ step.Act caller a → AreScripts ys old
    → length new ≡ length old
    → ((k : ℕ) (d : Script) → k < 8 → (slice_index_or new k d).acts
    ≡ (if caller == k + 1 then (slice_index_or old k d).acts ++ a ∷ [] else (slice_index_or old k d).acts))
    → AreScripts (ys ++ s ∷ []) new
scripts-more ys s caller a old new is are same added = record {
  count = same ∙ are.count;
  each = λ k d less. by-case (k + 1) ys s a (caller == k + 1) (slice_index_or old k d).acts (slice_index_or new k d).acts
      (ap (act_of (k + 1)) is) (added k d less) (are.each k d less);
}

-- a slice of a whole list, written back
pub whole : (long : ℕ) (xs rest : List Script) → long ≡ length xs → take long (xs ++ rest) ≡ xs
whole long xs rest same = take-append-le long xs rest (omega arith) ∙ take_all long xs (omega arith)
