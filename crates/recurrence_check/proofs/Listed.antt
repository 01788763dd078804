-- The states that a walk has come to, in a list.
use Rattle.std.proofs.Common.{◌≡◌, ℕ, zero, suc, ◌+◌, ◌-◌, ◌<◌, ◌≤◌, List, [], ◌∷◌, ◌++◌, length, Some, refl, sym, ◌∙◌, arith, subst, inl, inr}
use Rattle.std.specs.List.{slice_get}
use Rattle.std.proofs.lemmas.Bool.{cases_lt}
use Rattle.std.proofs.lemmas.List.{length-append}
use Rattle.std.proofs.lemmas.Option.{slice_get_within}
use Rattle.recurrence_check.specs.Course.{Course, state_after, IsRepeat, NoneSame, IsFirstSame}
use Rattle.recurrence_check.specs.Ends.{IsFirstRepeat}
use Rattle.recurrence_check.proofs.Shared.{state_after-next}
use Rattle.recurrence_check.proofs.Walking.{Walking, Walking-next, IsFirstRepeat-new}

module _ {State : Type 0} where
  slice_get-front : (states : List State) (state : State) (k : ℕ) → k < length states
      → slice_get (states ++ state ∷ []) k ≡ slice_get states k
  slice_get-front [] state k within = absurd (omega arith)
  slice_get-front (one ∷ states) state zero within = refl
  slice_get-front (one ∷ states) state (suc k) within = slice_get-front states state k (omega arith)

  slice_get-last : (states : List State) (state : State) → slice_get (states ++ state ∷ []) (length states) ≡ Some state
  slice_get-last [] state = refl
  slice_get-last (one ∷ states) state = slice_get-last states state

module _ {State : Type 0} (course : Course State) where
  -- these are the states before n steps
  pub record Listed (states : List State) (n : ℕ) : Type 0 where
    pub count : length states ≡ n
    pub each : (k : ℕ) → k < n → slice_get states k ≡ state_after course k

  pub Listed-start : Listed [] 0
  Listed-start = record { count = refl; each = λ k within. absurd (omega arith) }

  pub Listed-next : (states more : List State) (n : ℕ) (here : State) → Listed states n
      → state_after course n ≡ Some here → more ≡ states ++ here ∷ [] → Listed more (n + 1)
  Listed-next states more n here listed here_is pushed =
      subst (λ list. Listed list (n + 1)) (sym pushed) (record {
        count = simp length-append (omega (arith, listed.count));
        each = λ k within. elim (cases_lt k n) [
          | inl before ↦ slice_get-front states here k (omega (arith, listed.count)) ∙ listed.each k before
          | inr last ↦
              let here_k : k ≡ length states = omega (arith, listed.count) in
              let here_n : k ≡ n = omega arith in
              subst (λ m. slice_get (states ++ here ∷ []) m ≡ Some here) (sym here_k) (slice_get-last states here)
              ∙ sym (subst (λ m. state_after course m ≡ Some here) (sym here_n) here_is)
        ];
      })

  -- each listed state is there
  pub Listed-there : (states : List State) (n k : ℕ) (one : State) → Listed states n → slice_get states k ≡ Some one
      → (k < n) × (state_after course k ≡ Some one)
  Listed-there states n k one listed stands =
      let within : k < length states = slice_get_within states k one stands in
      let before : k < n = omega (arith, listed.count) in
      (before, sym (listed.each k before) ∙ stands)

  -- the first listed state that is the same as the next one is where the walk repeats
  pub Listed-repeats : (states : List State) (n place : ℕ) (next : State) → Listed states (n + 1)
      → state_after course (n + 1) ≡ Some next → IsFirstSame course states next place → IsRepeat course place (n + 1)
  Listed-repeats states n place next listed next_is found =
      let there = Listed-there states (n + 1) place found.one listed found.stands in
      record {
        order = there.0;
        before = found.one;
        again = next;
        before_is = there.1;
        again_is = next_is;
        same = found.same;
      }

  pub Listed-new : (states : List State) (n end : ℕ) (next : State) → Listed states (n + 1) → end ≤ n + 1
      → state_after course (n + 1) ≡ Some next → NoneSame course states end next
      → (one : ℕ) → one < end → ¬ IsRepeat course one (n + 1)
  Listed-new states n end next listed within next_is none one before again =
      let stands : slice_get states one ≡ Some again.before = listed.each one (omega arith) ∙ again.before_is in
      let same : again.again ≡ next = let there = again.again_is in cc in
      none one again.before before stands (subst (λ state. course.alike again.before state) same again.same)

  module _ (is_good : State → Type 0) (number : State → ℕ) where
    -- what a step of the search has: the walk is at a state without a repeat, which is listed behind the others, and
    -- goes on
    pub record Searching (n : ℕ) (here next : State) (states more : List State) : Type 0 where
      pub walking : Walking course is_good number n here
      pub listed : Listed states n
      pub pushed : more ≡ states ++ here ∷ []
      pub goes_on : Some next ≡ course.next here

    module _ (n : ℕ) (here next : State) (states more : List State) (at : Searching n here next states more) where
      pub Searching-listed : Listed more (n + 1)
      Searching-listed = Listed-next states more n here at.listed at.walking.here_is at.pushed

      next_is : state_after course (n + 1) ≡ Some next
      next_is = state_after-next course n here at.walking.here_is ∙ sym at.goes_on

      pub Searching-good : (k : ℕ) (one : State) → slice_get more k ≡ Some one → n < 100000
          → is_good one × (number one ≤ 100000)
      Searching-good k one stands below =
          let there = Listed-there more (n + 1) k one Searching-listed stands in
          let good = at.walking.all_good k one (omega (arith, there.0)) there.1 in
          (good.0, omega (arith, good.1, there.0))

      pub Searching-found : (place : ℕ) → IsFirstSame course more next place → IsRepeat course place (n + 1)
      Searching-found place found = Listed-repeats more n place next Searching-listed next_is found

      pub Searching-first : (place horizon : ℕ) → n < horizon → IsFirstSame course more next place
          → IsFirstRepeat course horizon (record { first = place; length = n + 1 - place })
      Searching-first place horizon below found =
          let repeats = Searching-found place found in
          let within : place ≤ n + 1 = let order : place < n + 1 = repeats.order in omega arith in
          IsFirstRepeat-new course n place horizon below at.walking.new repeats
          (Listed-new more n place next Searching-listed within next_is found.first)

      pub Searching-next : is_good next → number next ≡ number here + 1 → NoneSame course more (length more) next
          → Walking course is_good number (n + 1) next
      Searching-next good number_is none =
          let count : length more ≡ n + 1 = Searching-listed.count in
          Walking-next course is_good number n here next at.walking (sym at.goes_on) good number_is
          (λ one again. let order : one < n + 1 = again.order in
          Listed-new more n (length more) next Searching-listed (omega arith) next_is none one (omega arith) again)
