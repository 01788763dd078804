-- One frame more: what it changes of what is counted of an entry, and of all of them.
use Rattle.std.proofs.Common.{◌≡◌, ℕ, zero, suc, ◌+◌, ◌-◌, ◌<◌, ◌≤◌, ◌^◌, ◌*◌, ◌||◌, Bool, true, false, cond, eqb, min, max, Option, Some, None, IfSome, List, [], ◌∷◌, replicate, ◌++◌, length, map, get_or, slice_get, slice_set, refl, sym, ap, subst, ◌∙◌, arith, append_assoc, inl, inr}
use Rattle.std.specs.List.{fold, reduce, All}
use Rattle.std.specs.Option.{option_map_or}
use Rattle.std.proofs.lemmas.Bool.{cases_eq, cases_Bool, cond-true, cond-false, eqb-true, eq-eqb, ne_eqb}
use Rattle.std.proofs.lemmas.List.{append-nil, length-replicate, get_or-set_same, get_or-set_other, length-append, map-append, length-set}
use Rattle.std.proofs.lemmas.List.Folds.{list_any-append}
use Rattle.std.proofs.lemmas.List.Sums.{fold-append}
use Rattle.std.proofs.lemmas.Nat.{le-div, mul-le}
use Rattle.std.proofs.Math.Nat.{div-mul-le_self}
use Rattle.std.proofs.lemmas.Option.{slice_get_within, get_or_from_slice_get, slice_get-get_or}
use Rattle.profile.specs.Limits.{first_identifier}
use Rattle.can_frame.specs.declared.data_frame.TimedFrame.{TimedFrame}
use Rattle.requirement_table.specs.declared.entries.Placed.{Placed}
use Rattle.requirement_table.specs.Instance.{Exists, MaySend, exists, latest, instance_of, release_of}
use Rattle.bit_sets.specs.Sets.{most_slots}
use Rattle.requirement_table.specs.Table.{IsInRange, IsWellPlaced}
use Rattle.requirement_table.proofs.Shared.{Exists-from_test, MaySend-from_instance, latest-of_sent}
use Rattle.bus_trace.specs.Log.{trigger_count_with, triggers_in}
use Rattle.bus_trace.proofs.Shared.{trigger_count_with-le}
use Rattle.plan_report.specs.Report.{Sending, delay_of, first_sendings, greatest_of, is_sent, least_of, sendings, sending_at, sent_by, sent_of}
use Rattle.plan_report.specs.Current.{IsCurrentInstance, IsTheOne}
use Rattle.plan_report.specs.declared.current.CurrentInstance.{CurrentInstance}
use Rattle.plan_report.specs.Tally.{AreReleased, AreTallies, CountsOne, IsCountedIn, IsLastSent, IsNextCount, IsTally, TellsRelease, count_with, is_last, tally_of, tally_with}
use Rattle.plan_report.specs.declared.tally.Count.{Count}
use Rattle.plan_report.specs.declared.tally.Tally.{Tally}
use Rattle.plan_report.proofs.OneOfSlot.{the-one}

-- Lists with one element more

reduce-push : (f : ℕ → ℕ → ℕ) (xs : List ℕ) (x : ℕ) → reduce f (xs ++ x ∷ []) ≡ Some (option_map_or (λ y. f y x) (reduce f xs) x)
reduce-push f [] x = refl
reduce-push f (y ∷ ys) x = ap (λ z. Some z) (fold-append f y ys (x ∷ []))

sendings-push : (p : Placed) (seen : ℕ) (frames : List TimedFrame) (sent : TimedFrame)
    → sendings p seen (frames ++ sent ∷ []) ≡ sendings p seen frames ++ sent_by p (trigger_count_with (fold trigger_count_with seen frames) sent) sent
sendings-push p seen [] sent = append-nil _
sendings-push p seen (first ∷ frames) sent =
    let now = trigger_count_with seen first in
    ap (λ l. sent_by p now first ++ l) (sendings-push p now frames sent) ∙ sym (append_assoc (sent_by p now first) (sendings p now frames) _)

first_sendings-push : (before xs : List Sending) (s : Sending)
    → first_sendings before (xs ++ s ∷ []) ≡ first_sendings before xs ++ cond (is_sent (before ++ xs) s.number) [] (s ∷ [])
first_sendings-push before [] s =
    append-nil _ ∙ ap (λ b. cond (is_sent b s.number) [] (s ∷ [])) (sym (append-nil before))
first_sendings-push before (x ∷ xs) s =
    let front = cond (is_sent before x.number) [] (x ∷ []) in
    ap (λ l. front ++ l) (first_sendings-push (before ++ x ∷ []) xs s
    ∙ ap (λ b. first_sendings (before ++ x ∷ []) xs ++ cond (is_sent b s.number) [] (s ∷ [])) (append_assoc before (x ∷ []) xs))
    ∙ sym (append_assoc front (first_sendings (before ++ x ∷ []) xs) _)

triggers-push : (frames : List TimedFrame) (sent : TimedFrame) → triggers_in (frames ++ sent ∷ []) ≡ trigger_count_with (triggers_in frames) sent
triggers-push frames sent = fold-append trigger_count_with 0 frames (sent ∷ [])

-- An entry

-- more triggers leave the last instance the last one
last-later : (p : Placed) (seen now : ℕ) (xs : List Sending) (last : Option ℕ) → seen ≤ now → IsLastSent p seen xs last → IsLastSent p now xs last
last-later p seen now xs None more is = is
last-later p seen now xs (Some n) more is = (is.0, λ cycle above. is.1 cycle (omega arith))

-- whether it was sent is known by the last one
last-tells : (p : Placed) (seen cycle : ℕ) (xs : List Sending) (last : Option ℕ) → seen ≤ cycle + 1 → IsLastSent p seen xs last
    → is_sent xs (latest p cycle) ≡ is_last last (latest p cycle)
last-tells p seen cycle xs None on is = is (latest p cycle)
last-tells p seen cycle xs (Some n) on is = is.0 (latest p cycle) (is.1 cycle on)

or-same : (a b : Bool) → (a ≡ true → b ≡ true) → (a || b) ≡ b
or-same true b same = sym (same refl)
or-same false b same = refl

or-false : (b : Bool) → (b || false) ≡ b
or-false true = refl
or-false false = refl

latest-mono : (p : Placed) (c d : ℕ) → 0 < p.entry.period → c ≤ d → latest p c ≤ latest p d
latest-mono p c d some on =
    let parts = div-mul-le_self (c - (p.origin + p.entry.phase)) p.entry.period in
    le-div (latest p c) (d - (p.origin + p.entry.phase)) p.entry.period some (omega arith)

-- the instance that was sent now is the last one
last-next : (p : Placed) (seen cycle : ℕ) (xs : List Sending) (last : Option ℕ) → 0 < p.entry.period → seen ≤ cycle + 1 → IsLastSent p seen xs last
    → IsLastSent p (suc cycle) (xs ++ record { number = latest p cycle; cycle = cycle } ∷ []) (Some (latest p cycle))
last-next p seen cycle xs last some on is = (tells, λ later above. latest-mono p cycle later some (omega arith))
  where
    number : ℕ
    number = latest p cycle

    earlier : (last : Option ℕ) → IsLastSent p seen xs last → (k : ℕ) → number ≤ k → is_sent xs k ≡ true → eqb number k ≡ true
    earlier None is k above sent = absurd (let no = is k in let none : ⊥ = cc in none)
    earlier (Some n) is k above sent =
        let before : n ≤ number = is.1 cycle on in
        let same : n ≡ k = eqb-true n k (sym (is.0 k (omega arith)) ∙ sent) in
        eq-eqb number k (omega arith)

    tells : (k : ℕ) → number ≤ k → is_sent (xs ++ record { number = number; cycle = cycle } ∷ []) k ≡ eqb number k
    tells k above =
        list_any-append (λ s. eqb s.number k) xs (record { number = number; cycle = cycle } ∷ [])
        ∙ ap (λ b. is_sent xs k || b) (or-false (eqb number k))
        ∙ or-same (is_sent xs k) (eqb number k) (earlier last is k above)

-- a frame that sends nothing of the entry
pub tally-same : (frames : List TimedFrame) (p : Placed) (sent : TimedFrame) (tally : Tally)
    → sent_by p (trigger_count_with (triggers_in frames) sent) sent ≡ [] → IsTally frames p tally → IsTally (frames ++ sent ∷ []) p tally
tally-same frames p sent tally nothing is =
    let same : sendings p 0 (frames ++ sent ∷ []) ≡ sendings p 0 frames =
    sendings-push p 0 frames sent ∙ ap (λ l. sendings p 0 frames ++ l) nothing ∙ append-nil _ in
    let more = length-append frames (sent ∷ []) in
    let few = is.few in
    record {
      instances = is.instances ∙ ap (λ l. length (first_sendings [] l)) (sym same);
      least = is.least ∙ ap (λ l. least_of (map (delay_of p) (first_sendings [] l))) (sym same);
      greatest = is.greatest ∙ ap (λ l. greatest_of (map (delay_of p) (first_sendings [] l))) (sym same);
      last = subst (λ l. IsLastSent p (triggers_in (frames ++ sent ∷ [])) l tally.last) (sym same)
          (subst (λ n. IsLastSent p n (sendings p 0 frames) tally.last) (sym (triggers-push frames sent))
          (last-later p (triggers_in frames) (trigger_count_with (triggers_in frames) sent) (sendings p 0 frames) tally.last (trigger_count_with-le _ sent) is.last));
      few = omega arith;
    }

is_last-some : (last : Option ℕ) (number : ℕ) → is_last last number ≡ true → last ≡ Some number
is_last-some None number is = cc
is_last-some (Some n) number is = ap (λ k. Some k) (eqb-true n number is)

-- a frame that sends the instance of a cycle
module _ (frames : List TimedFrame) (p : Placed) (sent : TimedFrame) (tally : Tally) (cycle : ℕ) (some : 0 < p.entry.period)
    (now : trigger_count_with (triggers_in frames) sent ≡ suc cycle)
    (sends : sent_by p (suc cycle) sent ≡ record { number = latest p cycle; cycle = cycle } ∷ [])
    (is : IsTally frames p tally) where
  abbrev number : ℕ
  number = latest p cycle

  abbrev this : Sending
  this = record { number = number; cycle = cycle }

  abbrev xs : List Sending
  xs = sendings p 0 frames

  on : triggers_in frames ≤ cycle + 1
  on = let more = trigger_count_with-le (triggers_in frames) sent in omega arith

  all : sendings p 0 (frames ++ sent ∷ []) ≡ xs ++ this ∷ []
  all = sendings-push p 0 frames sent ∙ ap (λ n. xs ++ sent_by p n sent) now ∙ ap (λ l. xs ++ l) sends

  firsts : sent_of (frames ++ sent ∷ []) p ≡ sent_of frames p ++ cond (is_sent xs number) [] (this ∷ [])
  firsts = ap (first_sendings []) all ∙ first_sendings-push [] xs this

  tells : is_sent xs number ≡ is_last tally.last number
  tells = last-tells p (triggers_in frames) cycle xs tally.last on is.last

  after : IsLastSent p (triggers_in (frames ++ sent ∷ [])) (sendings p 0 (frames ++ sent ∷ [])) (Some number)
  after =
      subst (λ l. IsLastSent p (triggers_in (frames ++ sent ∷ [])) l (Some number)) (sym all)
      (subst (λ n. IsLastSent p n (xs ++ this ∷ []) (Some number)) (sym (triggers-push frames sent ∙ now))
      (last-next p (triggers_in frames) cycle xs tally.last some on is.last))

  more : length (frames ++ sent ∷ []) ≡ length frames + 1
  more = length-append frames (sent ∷ [])

  -- one that was sent before
  again : is_last tally.last number ≡ true → IsTally (frames ++ sent ∷ []) p tally
  again known =
      let same : sent_of (frames ++ sent ∷ []) p ≡ sent_of frames p =
      firsts ∙ ap (λ b. sent_of frames p ++ cond b [] (this ∷ [])) (tells ∙ known) ∙ append-nil _ in
      let few = is.few in
      let long = more in
      record {
        instances = is.instances ∙ ap length (sym same);
        least = is.least ∙ ap (λ l. least_of (map (delay_of p) l)) (sym same);
        greatest = is.greatest ∙ ap (λ l. greatest_of (map (delay_of p) l)) (sym same);
        last = subst (λ o. IsLastSent p (triggers_in (frames ++ sent ∷ [])) (sendings p 0 (frames ++ sent ∷ [])) o) (sym (is_last-some tally.last number known)) after;
        few = omega arith;
      }

  delays : is_last tally.last number ≡ false
      → map (delay_of p) (sent_of (frames ++ sent ∷ []) p) ≡ map (delay_of p) (sent_of frames p) ++ delay_of p this ∷ []
  delays fresh =
      ap (map (delay_of p)) (firsts ∙ ap (λ b. sent_of frames p ++ cond b [] (this ∷ [])) (tells ∙ fresh))
      ∙ map-append (delay_of p) (sent_of frames p) (this ∷ [])

  -- one that was not
  first : is_last tally.last number ≡ false
      → IsTally (frames ++ sent ∷ []) p (record {
        instances = tally.instances + 1;
        last = Some number;
        least = Some (option_map_or (λ least. min least (delay_of p this)) tally.least (delay_of p this));
        greatest = Some (option_map_or (λ greatest. max greatest (delay_of p this)) tally.greatest (delay_of p this));
      })
  first fresh =
      let one : sent_of (frames ++ sent ∷ []) p ≡ sent_of frames p ++ this ∷ [] =
      firsts ∙ ap (λ b. sent_of frames p ++ cond b [] (this ∷ [])) (tells ∙ fresh) in
      let few = is.few in
      let long = more in
      let count = length-append (sent_of frames p) (this ∷ []) in
      let length_is : length (sent_of (frames ++ sent ∷ []) p) ≡ length (sent_of frames p) + 1 = ap length one ∙ count in
      let before = is.instances in
      record {
        instances = omega arith;
        least = ap (λ o. Some (option_map_or (λ least. min least (delay_of p this)) o (delay_of p this))) is.least
            ∙ sym (reduce-push min (map (delay_of p) (sent_of frames p)) (delay_of p this)) ∙ ap least_of (sym (delays fresh));
        greatest = ap (λ o. Some (option_map_or (λ greatest. max greatest (delay_of p this)) o (delay_of p this))) is.greatest
            ∙ sym (reduce-push max (map (delay_of p) (sent_of frames p)) (delay_of p this)) ∙ ap greatest_of (sym (delays fresh));
        last = after;
        few = omega arith;
      }

  pub tally-next : IsTally (frames ++ sent ∷ []) p (tally_with tally number (cycle - release_of p number))
  tally-next =
      elim (cases_Bool (is_last tally.last number)) [
        | inl known ↦ subst (λ t. IsTally (frames ++ sent ∷ []) p t) (sym (cond-true (is_last tally.last number) tally _ known)) (again known)
        | inr fresh ↦ subst (λ t. IsTally (frames ++ sent ∷ []) p t) (sym (cond-false (is_last tally.last number) tally _ fresh)) (first fresh)
      ]

-- All entries

-- none of them is sent by the frame
pub tallies-same : (frames : List TimedFrame) (placed : List Placed) (sent : TimedFrame) (counts : List (Option Count))
    → ((place : ℕ) (p : Placed) → slice_get placed place ≡ Some p → sent_by p (trigger_count_with (triggers_in frames) sent) sent ≡ [])
    → AreTallies frames placed counts → AreTallies (frames ++ sent ∷ []) placed counts
tallies-same frames placed sent counts nothing are = record {
  count = are.count;
  each = λ place p count here there.
      let known = are.each place p count here there in
      record { tally = tally-same frames p sent (tally_of count) (nothing place p here) known.tally; released = known.released };
}

none-at : (n k : ℕ) (o : Option Count) → slice_get (replicate n None) k ≡ Some o → o ≡ None
none-at zero k o is = let none : ⊥ = cc in absurd none
none-at (suc n) zero o is = cc
none-at (suc n) (suc k) o is = none-at n k o is

-- nothing is counted of no frames
pub tallies-start : (placed : List Placed) (counts : List (Option Count)) → counts ≡ replicate (length placed) None → AreTallies [] placed counts
tallies-start placed counts is = record {
  count = ap length is ∙ length-replicate (length placed) None;
  each = λ place p count here there.
      let nothing : IsCountedIn [] p None = record {
        tally = record { instances = refl; least = refl; greatest = refl; last = λ number. refl; few = omega arith };
        released = tt;
      } in
      subst (λ o. IsCountedIn [] p o) (sym (none-at (length placed) place count (ap (λ l. slice_get l place) (sym is) ∙ there))) nothing;
}

-- that at the place alone is
pub tallies-next : (frames : List TimedFrame) (placed : List Placed) (sent : TimedFrame) (counts : List (Option Count)) (at : ℕ) (d count next : Option Count)
    → at < length counts → count ≡ get_or counts at d
    → ((place : ℕ) (p : Placed) → slice_get placed place ≡ Some p → (place ≡ at → ⊥) → sent_by p (trigger_count_with (triggers_in frames) sent) sent ≡ [])
    → ((p : Placed) → slice_get placed at ≡ Some p → IsCountedIn frames p count → IsCountedIn (frames ++ sent ∷ []) p next)
    → AreTallies frames placed counts → AreTallies (frames ++ sent ∷ []) placed (slice_set counts at next)
tallies-next frames placed sent counts at d count next within this others step are = record {
  count = length-set counts at next ∙ are.count;
  each = λ place p new here counted.
      let read : get_or (slice_set counts at next) place new ≡ new = get_or_from_slice_get (slice_set counts at next) place new new counted in
      let short = slice_get_within (slice_set counts at next) place new counted in
      let same = length-set counts at next in
      elim (cases_eq place at) [
        | inl here_is ↦
            let there : slice_get placed at ≡ Some p = ap (slice_get placed) (sym here_is) ∙ here in
            let old : slice_get counts at ≡ Some count = slice_get-get_or counts at d within ∙ ap (λ t. Some t) (sym this) in
            let value : next ≡ new = sym (get_or-set_same counts at next new within) ∙ ap (λ n. get_or (slice_set counts at next) n new) (sym here_is) ∙ read in
            subst (λ t. IsCountedIn (frames ++ sent ∷ []) p t) value (step p there (are.each at p count there old))
        | inr elsewhere ↦
            let value : get_or counts place new ≡ new = sym (get_or-set_other counts at place next new elsewhere) ∙ read in
            let old : slice_get counts place ≡ Some new = slice_get-get_or counts place new (omega arith) ∙ ap (λ t. Some t) value in
            let known = are.each place p new here old in
            record { tally = tally-same frames p sent (tally_of new) (others place p here elsewhere) known.tally; released = known.released }
      ];
}

-- a frame of another slot, and one in a cycle in which the entry has no instance to send
pub other-slot : (p : Placed) (seen : ℕ) (sent : TimedFrame) → (sent.frame.identifier ≡ first_identifier + p.entry.slot → ⊥) → sent_by p seen sent ≡ []
other-slot p zero sent other = refl
other-slot p (suc cycle) sent other = cond-false (eqb sent.frame.identifier (first_identifier + p.entry.slot)) _ [] (ne_eqb _ _ other)

cond-nothing : (b : Bool) (some : List Sending) → some ≡ [] → cond b some [] ≡ []
cond-nothing true some none = none
cond-nothing false some none = refl

pub no-instance : (p : Placed) (cycle : ℕ) (sent : TimedFrame) → instance_of p cycle ≡ None → sent_by p (suc cycle) sent ≡ []
no-instance p cycle sent none =
    ap (λ o. cond (eqb sent.frame.identifier (first_identifier + p.entry.slot)) (sending_at cycle o) []) none
    ∙ cond-nothing (eqb sent.frame.identifier (first_identifier + p.entry.slot)) (sending_at cycle None) refl

pub one-instance : (p : Placed) (cycle k : ℕ) (sent : TimedFrame) → sent.frame.identifier ≡ first_identifier + p.entry.slot
    → instance_of p cycle ≡ Some k → sent_by p (suc cycle) sent ≡ record { number = k; cycle = cycle } ∷ []
one-instance p cycle k sent of_slot some =
    cond-true (eqb sent.frame.identifier (first_identifier + p.entry.slot)) _ [] (eq-eqb _ _ of_slot) ∙ ap (sending_at cycle) some

slice_get-none : {X : Type 0} (xs : List X) (k : ℕ) → slice_get xs k ≡ None → length xs ≤ k
slice_get-none [] k none = omega arith
slice_get-none (x ∷ xs) zero none = absurd (cc)
slice_get-none (x ∷ xs) (suc k) none = let past = slice_get-none xs k none in omega arith

-- few are counted
pub few-counted : (frames : List TimedFrame) (placed : List Placed) (counts : List (Option Count)) (most : ℕ) → AreTallies frames placed counts
    → length frames < most → All (λ count. (tally_of count).instances < most) counts
few-counted frames placed counts most are short = λ k d within.
    let same = are.count in
    by k d within (slice_get placed k) refl (omega arith)
  where
    by : (k : ℕ) (d : Option Count) → k < length counts → (o : Option Placed) → slice_get placed k ≡ o → k < length placed
        → (tally_of (get_or counts k d)).instances < most
    by k d within None none inside = absurd (let past = slice_get-none placed k none in omega arith)
    by k d within (Some p) here inside =
        let known = are.each k p (get_or counts k d) here (slice_get-get_or counts k d within) in
        let few = known.tally.few in
        omega arith

pub in-range : (placed : List Placed) → IsWellPlaced placed → (place : ℕ) (p : Placed) → slice_get placed place ≡ Some p → IsInRange p
in-range placed well place p here =
    subst IsInRange (get_or_from_slice_get placed place p p here) (well.in_range place p (slice_get_within placed place p here))

-- The frames of the code

-- a frame before the first trigger
pub tallies-before : (frames : List TimedFrame) (placed : List Placed) (sent : TimedFrame) (counts : List (Option Count))
    → trigger_count_with (triggers_in frames) sent ≡ 0 → AreTallies frames placed counts → AreTallies (frames ++ sent ∷ []) placed counts
tallies-before frames placed sent counts none are =
    tallies-same frames placed sent counts (λ place p here. ap (λ n. sent_by p n sent) none) are

-- a frame that is of no slot
pub tallies-strange : (frames : List TimedFrame) (placed : List Placed) (sent : TimedFrame) (counts : List (Option Count)) → IsWellPlaced placed
    → ((slot : ℕ) → slot < most_slots → sent.frame.identifier ≡ first_identifier + slot → ⊥)
    → AreTallies frames placed counts → AreTallies (frames ++ sent ∷ []) placed counts
tallies-strange frames placed sent counts well strange are =
    tallies-same frames placed sent counts (λ place p here.
    let range = in-range placed well place p here in
    other-slot p (trigger_count_with (triggers_in frames) sent) sent (strange p.entry.slot range.entry.slot)) are

-- a frame of a slot, in a cycle
module _ (frames : List TimedFrame) (placed : List Placed) (sent : TimedFrame) (counts : List (Option Count)) (slot cycle : ℕ) (well : IsWellPlaced placed)
    (of_slot : sent.frame.identifier ≡ first_identifier + slot) (now : trigger_count_with (triggers_in frames) sent ≡ suc cycle)
    (are : AreTallies frames placed counts) where
  nothing : (p : Placed) → (p.entry.slot ≡ slot → instance_of p cycle ≡ None) → sent_by p (trigger_count_with (triggers_in frames) sent) sent ≡ []
  nothing p none =
      elim (cases_eq p.entry.slot slot) [
        | inl same ↦ ap (λ n. sent_by p n sent) now ∙ no-instance p cycle sent (none same)
        | inr other ↦ other-slot p (trigger_count_with (triggers_in frames) sent) sent (λ identifier. other (omega arith))
      ]

  -- of which no entry has an instance to send
  pub tallies-none : IsCurrentInstance placed slot cycle None → AreTallies (frames ++ sent ∷ []) placed counts
  tallies-none none = tallies-same frames placed sent counts (λ place p here. nothing p (none place p here)) are

  -- and one has
  pub tallies-one : (found : CurrentInstance) (d next : Option Count) → IsTheOne placed slot cycle found
      → tally_of next ≡ tally_with (tally_of (get_or counts found.place d)) found.number (cycle - release_of found.placed found.number)
      → IfSome next (TellsRelease found.placed)
      → AreTallies (frames ++ sent ∷ []) placed (slice_set counts found.place next)
  tallies-one found d next one is released =
      let count = are.count in
      let inside = one.within in
      let range = in-range placed well found.place found.placed one.here in
      let deadline = range.entry.some_time in
      let period = range.entry.deadline in
      let known : Option Count = get_or counts found.place d in
      let number : latest found.placed cycle ≡ found.number =
      latest-of_sent found.placed found.number cycle period (MaySend-from_instance found.placed found.number cycle one.instance) in
      tallies-next frames placed sent counts found.place d known next (omega arith) refl
      (λ place p here elsewhere. nothing p (λ same. one.alone place p here same elsewhere))
      (λ p here counted.
      let pair : Some found.placed ≡ Some p = sym one.here ∙ here in
      let same : found.placed ≡ p = cc in
      subst (λ q. IsCountedIn (frames ++ sent ∷ []) q next) same
      (record {
        tally = subst (λ t. IsTally (frames ++ sent ∷ []) found.placed t) (sym is)
            (subst (λ k. IsTally (frames ++ sent ∷ []) found.placed (tally_with (tally_of known) k (cycle - release_of found.placed k))) number
            (tally-next frames found.placed sent (tally_of known) cycle (omega arith) now
            (subst (λ k. sent_by found.placed (suc cycle) sent ≡ record { number = k; cycle = cycle } ∷ []) (sym number)
            (one-instance found.placed cycle found.number sent (of_slot ∙ ap (λ s. first_identifier + s) (sym one.of_slot)) one.instance))
            (subst (λ q. IsTally frames q (tally_of known)) (sym same) counted.tally)));
        released = released;
      }))
      are

-- The counts of the code

-- the releases of what is counted are those of the entries
pub released-counted : (frames : List TimedFrame) (placed : List Placed) (counts : List (Option Count)) → AreTallies frames placed counts
    → AreReleased placed counts
released-counted frames placed counts are = λ place p count here there. (are.each place p count here there).released

-- the instance after the last one: its release, its number, and that it may be sent
next-release : (p : Placed) (number : ℕ) → release_of p (number + 1) ≡ release_of p number + p.entry.period
next-release p number =
    let more : (number + 1) * p.entry.period ≡ number * p.entry.period + p.entry.period = grind arith in
    omega (arith, more)

-- an instance is not released before the cycle of its number
late-number : (p : Placed) (number : ℕ) → 1 ≤ p.entry.period → number ≤ release_of p number
late-number p number some = let least = mul-le number 1 number p.entry.period (omega arith) some in omega (arith, least)

-- what is counted with an instance more that is not the last one
fresh-tally : (count : Count) (number release delay : ℕ) → (count.number ≡ number → ⊥)
    → tally_of (Some (count_with count number release delay)) ≡ tally_with (tally_of (Some count)) number delay
fresh-tally count number release delay other = sym (cond-false (eqb count.number number) _ _ (ne_eqb count.number number other))

pub is-next : (p : Placed) (cycle : ℕ) (count : Count) (release : ℕ) → IsInRange p → TellsRelease p count → cycle < 2 ^ 63
    → release ≡ count.release + p.entry.period → release ≤ cycle → cycle - release < p.entry.deadline → exists p release ≡ true
    → IsNextCount p cycle count (count_with count (count.number + 1) release (cycle - release))
is-next p cycle count release range known near is released in_time exists =
    let number = count.number + 1 in
    let same : release ≡ release_of p number = is ∙ ap (λ n. n + p.entry.period) known.release ∙ sym (next-release p count.number) in
    let some = range.entry.some_time in
    let period = range.entry.deadline in
    let least = known.number in
    record {
      sends = record {
        exists = subst (Exists p) same (Exists-from_test p release exists);
        released = omega (arith, same, released);
        in_time = omega (arith, same, released, in_time);
      };
      tally = fresh-tally count number release (cycle - release) (λ no. omega arith) ∙ ap (λ r. tally_with (tally_of (Some count)) number (cycle - r)) same;
      released = record { release = same; number = omega (arith, is, least, some, period); early = omega (arith, released, near) };
    }

-- one counted at once or later
pub is-released : (p : Placed) (number release cycle : ℕ) → IsInRange p → MaySend p number cycle → cycle < 2 ^ 63 → release ≡ release_of p number
    → (number ≤ release) × (release < 2 ^ 63)
is-released p number release cycle range sends near is =
    let some = range.entry.some_time in
    let period = range.entry.deadline in
    let late = late-number p number (omega arith) in
    let released = sends.released in
    (omega (arith, late, is), omega (arith, released, is, near))

-- the instance after the last one is counted at its place
pub counts-next : (placed : List Placed) (slot cycle place : ℕ) (p : Placed) (counts : List (Option Count)) (d : Option Count) (known next : Count)
    → IsWellPlaced placed → slice_get placed place ≡ Some p → p.entry.slot ≡ slot → get_or counts place d ≡ Some known → IsNextCount p cycle known next
    → CountsOne placed slot cycle counts (slice_set counts place (Some next))
counts-next placed slot cycle place p counts d known next well here of_slot known_is is = λ frames sent are identifier seen.
    let now : trigger_count_with (triggers_in frames) sent ≡ suc cycle = omega (arith, seen) in
    tallies-one frames placed sent counts slot cycle well identifier now are (record { place = place; placed = p; number = next.number }) d (Some next)
    (the-one placed slot cycle place p next.number well here of_slot is.sends)
    (is.tally ∙ ap (λ k. tally_with (tally_of k) next.number (cycle - release_of p next.number)) (sym known_is))
    is.released
