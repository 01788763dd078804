-- What a standby followed of what it was told: one thing more, and where it stopped.
use Rattle.std.proofs.Common.{◌≡◌, ℕ, ◌+◌, ◌<◌, ◌≤◌, List, [], ◌∷◌, ◌++◌, Some, drop, get_or, length, slice_get, take, refl, sym, ap, ◌∙◌, subst, ⊎_elim, arith}
use Rattle.std.proofs.lemmas.Bool.{cases_lt}
use Rattle.std.proofs.lemmas.List.{append-nil, append_assoc, drop_more, get_or_append_left, get_or_push, length_push, take-append-drop, take-append-le, take_all, take_at, take_more}
use Rattle.std.proofs.lemmas.Option.{get_or_from_slice_get, slice_get-get_or, slice_get_within}
use Rattle.admission_rules.specs.declared.Rules.{Rules}
use Rattle.master_core.specs.declared.event.Event.{Event}
use Rattle.standby.specs.declared.follow_fault.FollowFault.{FollowFault}
use Rattle.standby.specs.declared.told.Told.{Told}
use Rattle.standby.specs.declared.told.Told.TheVariants.{Change, Trigger}
use Rattle.standby.specs.Following.{StandbyView}
use Rattle.standby.specs.Telling.{FollowsAll, FollowsOne, IsFollowFault, StopsAt}

-- nothing was told
pub follows_none : (old : StandbyView) → FollowsAll old [] old.history
follows_none old = record {
  events = [];
  history = sym (append-nil old.history);
  one_each = refl;
  each = λ place one at. absurd (cc);
}

record AddsOne (old new : List Event) : Type 0 where
  event : Event
  is : new ≡ old ++ event ∷ []

adds-one : (old : StandbyView) (one : Told) (new : List Event) → FollowsOne old one new → AddsOne old.history new
adds-one old (Change caller change) new is = record { event = _; is = is.history }
adds-one old (Trigger frames) new is = record { event = _; is = is.history }

-- the same, said of what is equal
moved : (one same : StandbyView) (told also : Told) (new later : List Event) → one ≡ same → told ≡ also → new ≡ later → FollowsOne one told new
    → FollowsOne same also later
moved one same told also new later views things histories is =
    subst (λ (h : List Event). FollowsOne same also h) histories
    (subst (λ (t : Told). FollowsOne same t new) things (subst (λ (v : StandbyView). FollowsOne v told new) views is))

abbrev seen : Rules → List Event → StandbyView
seen rules own = record { rules = rules; history = own }

module _ (old mid : StandbyView) (told : List Told) (one : Told) (new : List Event) (same : mid.rules ≡ old.rules) (all : FollowsAll old told mid.history)
    (is : FollowsOne mid one new) where
  added : AddsOne mid.history new
  added = adds-one mid one new is

  abbrev events : List Event
  events = all.events ++ added.event ∷ []

  whole : new ≡ old.history ++ events
  whole = added.is ∙ ap (λ (l : List Event). l ++ added.event ∷ []) all.history ∙ append_assoc old.history all.events (added.event ∷ [])

  -- what was followed before
  earlier : (place : ℕ) (x : Told) → place < length told → slice_get (told ++ one ∷ []) place ≡ Some x
      → FollowsOne (seen old.rules (old.history ++ take place events)) x (old.history ++ take (place + 1) events)
  earlier place x below at =
      let few = all.one_each in
      let read : get_or told place x ≡ x = sym (get_or_append_left told (one ∷ []) x place below) ∙ get_or_from_slice_get (told ++ one ∷ []) place x x at in
      let there : slice_get told place ≡ Some x = slice_get-get_or told place x below ∙ ap (λ (t : Told). Some t) read in
      let front : take place all.events ≡ take place events = sym (take-append-le place all.events (added.event ∷ []) (omega arith)) in
      let next : take (place + 1) all.events ≡ take (place + 1) events = sym (take-append-le (place + 1) all.events (added.event ∷ []) (omega arith)) in
      moved _ _ x x _ _ (ap (λ (l : List Event). seen old.rules (old.history ++ l)) front) refl (ap (λ (l : List Event). old.history ++ l) next)
      (all.each place x there)

  -- the last one
  latest : (place : ℕ) (x : Told) → place ≡ length told → slice_get (told ++ one ∷ []) place ≡ Some x
      → FollowsOne (seen old.rules (old.history ++ take place events)) x (old.history ++ take (place + 1) events)
  latest place x last at =
      let few = all.one_each in
      let thing : one ≡ x = sym (get_or_push told one x place (sym last)) ∙ get_or_from_slice_get (told ++ one ∷ []) place x x at in
      let count = length_push all.events added.event in
      let front : all.events ≡ take place events = sym (take_at all.events (added.event ∷ []) place (omega arith)) in
      let next : events ≡ take (place + 1) events = sym (take_all (place + 1) events (omega arith)) in
      let view : mid ≡ seen old.rules (old.history ++ take place events) =
      ap (λ (r : Rules). seen r mid.history) same
      ∙ ap (seen old.rules) all.history
      ∙ ap (λ (l : List Event). seen old.rules (old.history ++ l)) front in
      moved mid _ one x new _ view thing (whole ∙ ap (λ (l : List Event). old.history ++ l) next) is

  pub follows-more : FollowsAll old (told ++ one ∷ []) new
  follows-more = record {
    events = events;
    history = whole;
    one_each =
        let few = all.one_each in
        let count = length_push all.events added.event in
        let more = length_push told one in
        omega arith;
    each = λ place x at.
        let within = slice_get_within (told ++ one ∷ []) place x at in
        let more = length_push told one in
        ⊎_elim
        (λ (below : place < length told). earlier place x below at)
        (λ (behind : length told ≤ place). latest place x (omega arith) at)
        (cases_lt place (length told));
  }

-- one thing of the list more
pub follows_next : (old mid : StandbyView) (told : List Told) (place : ℕ) (one : Told) (new : List Event) → place < length told → one ≡ get_or told place one
    → mid.rules ≡ old.rules → FollowsAll old (take place told) mid.history → FollowsOne mid one new → FollowsAll old (take (place + 1) told) new
follows_next old mid told place one new within read same all is =
    let more : take place told ++ one ∷ [] ≡ take (place + 1) told =
    ap (λ (t : Told). take place told ++ t ∷ []) read ∙ sym (take_more told place one within) in
    subst (λ (l : List Told). FollowsAll old l new) more (follows-more old mid (take place told) one new same all is)

-- all of the list
pub follows_whole : (old : StandbyView) (told : List Told) (place : ℕ) (new : List Event) → length told ≤ place → FollowsAll old (take place told) new
    → FollowsAll old told new
follows_whole old told place new past all = subst (λ (l : List Told). FollowsAll old l new) (take_all place told past) all

-- where it stopped
pub stops_there : (old mid : StandbyView) (told : List Told) (place : ℕ) (one : Told) (new : List Event) (fault : FollowFault) → place < length told
    → one ≡ get_or told place one → mid.rules ≡ old.rules → FollowsAll old (take place told) mid.history → new ≡ mid.history → IsFollowFault mid one fault
    → StopsAt old told new fault
stops_there old mid told place one new fault within read same all stays is =
    let view : mid ≡ seen old.rules new = ap (λ (r : Rules). seen r mid.history) same ∙ ap (seen old.rules) (sym stays) in
    record {
      before = take place told;
      one = one;
      rest = drop (place + 1) told;
      parts =
          sym (take-append-drop place told)
          ∙ ap (λ (l : List Told). take place told ++ l) (drop_more told place one within)
          ∙ ap (λ (t : Told). take place told ++ t ∷ drop (place + 1) told) (sym read);
      followed = subst (FollowsAll old (take place told)) (sym stays) all;
      due = subst (λ (v : StandbyView). IsFollowFault v one fault) view is;
    }
