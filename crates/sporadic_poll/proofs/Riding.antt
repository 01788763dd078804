-- What is known of the requests of a slot, as its instances take them and are sent.
use Rattle.std.proofs.Common.{◌≡◌, inl, inr, ℕ, zero, suc, ◌+◌, ◌<◌, List, [], ◌∷◌, length, set, get_or, Option, Some, None, option_and_then, refl, sym, ap, subst, ◌∙◌, arith}
use Rattle.std.proofs.lemmas.Bool.{cases_eq, cases_lt}
use Rattle.std.proofs.lemmas.List.{get_or-set_other, get_or-set_same}
use Rattle.std.proofs.lemmas.Option.{none-some, same_Some}
use Rattle.std.specs.List.{slice_get}
use Rattle.sporadic_poll.specs.declared.fate.Fate.{Fate}
use Rattle.sporadic_poll.specs.declared.fate.Fate.TheVariants.{Taken, Sent}
use Rattle.sporadic_poll.specs.declared.fate.Ride.{Ride}
use Rattle.sporadic_poll.specs.declared.stream.Stream.{Stream}
use Rattle.sporadic_poll.specs.Ride.{IsOfSlot}
use Rattle.sporadic_poll.specs.Rides.{HasRidden, Riding, SameSent, release_noted, taken_in}
use Rattle.sporadic_poll.specs.Waiting.{HasTaken, Queued}

-- what is read of a list of which one item was set
pub read-set_same : {X : Type 0} (xs : List X) (i : ℕ) (x : X) → i < length xs → slice_get (set xs i x) i ≡ Some x
read-set_same [] i x within = absurd (omega (arith, within))
read-set_same (y ∷ xs) zero x within = refl
read-set_same (y ∷ xs) (suc i) x within = read-set_same xs i x (omega (arith, within))

pub read-set_other : {X : Type 0} (xs : List X) (i j : ℕ) (x : X) → (j ≡ i → ⊥) → slice_get (set xs i x) j ≡ slice_get xs j
read-set_other [] i j x apart = refl
read-set_other (y ∷ xs) zero zero x apart = absurd (apart refl)
read-set_other (y ∷ xs) zero (suc j) x apart = refl
read-set_other (y ∷ xs) (suc i) zero x apart = refl
read-set_other (y ∷ xs) (suc i) (suc j) x apart = read-set_other xs i j x (λ same. apart (ap suc same))

-- a request is of one slot
pub one_slot : (streams : List Stream) (slot other place : ℕ) → IsOfSlot streams slot place → IsOfSlot streams other place → slot ≡ other
one_slot streams slot other place one two = grind (arith, same_Some)

-- what is noted after a request that was taken
pub taken-same : (fates : List Fate) (place : ℕ) (fate : Fate) → place < length fates → taken_in (set fates place fate) place ≡ release_noted fate
taken-same fates place fate within = ap (option_and_then release_noted) (read-set_same fates place fate within)

pub taken-other : (fates : List Fate) (place other : ℕ) (fate : Fate) → (other ≡ place → ⊥) → taken_in (set fates place fate) other ≡ taken_in fates other
taken-other fates place other fate apart = ap (option_and_then release_noted) (read-set_other fates place other fate apart)

module _ (slot : ℕ) (carried : ℕ → Option ℕ) (old new : Queued) (streams : new.streams ≡ old.streams) where
  -- an instance that takes none leaves what is known
  pub takes_none : (cycle : ℕ) (latest : List (Option Ride)) (fates : List Fate)
      → HasRidden slot carried cycle (record { queued = old; latest = latest; fates = fates })
      → HasTaken old.streams slot carried (cycle + 1) (get_or new.next slot 0) → carried cycle ≡ None
      → HasRidden slot carried (cycle + 1) (record { queued = new; latest = latest; fates = fates })
  takes_none cycle latest fates ridden taken none =
      let earlier : (place release : ℕ) → carried release ≡ Some place → release < cycle + 1 → release < cycle = grind (arith, cases_lt, none-some) in
      record {
        taken = rw streams taken;
        noted = λ place release took before.
            let it = ridden.noted place release took (earlier place release took before) in
            record { of_slot = rw streams it.of_slot; noted = it.noted };
        only = λ place release is.
            let it = ridden.only place release (record { of_slot = rw streams at is.of_slot; noted = is.noted }) in
            (omega (arith, it.0), it.1);
        latest = ridden.latest;
        none_later = λ place release took before. ridden.none_later place release took (earlier place release took before);
      }

  -- the request that an instance takes was not noted as taken before
  pub fresh : (cycle : ℕ) (latest : List (Option Ride)) (fates : List Fate) (place release : ℕ)
      → HasRidden slot carried cycle (record { queued = old; latest = latest; fates = fates })
      → place ≡ get_or old.next slot 0 → IsOfSlot old.streams slot place → taken_in fates place ≡ Some release → ⊥
  fresh cycle latest fates place release ridden at of_slot noted =
      let it = ridden.only place release (record { of_slot = of_slot; noted = noted }) in
      omega (arith, ridden.taken.only place (record { release = release; earlier = it.0; took = it.1 }), at)

  -- an instance takes a request
  pub takes_one : (cycle place : ℕ) (latest : List (Option Ride)) (fates : List Fate)
      → HasRidden slot carried cycle (record { queued = old; latest = latest; fates = fates })
      → HasTaken old.streams slot carried (cycle + 1) (get_or new.next slot 0) → carried cycle ≡ Some place → IsOfSlot old.streams slot place → place ≡ get_or old.next slot 0
      → place < length fates → slot < length latest
      → HasRidden slot carried (cycle + 1) (record {
        queued = new;
        latest = set latest slot (Some (record { release = cycle; place = place }));
        fates = set fates place (Taken cycle);
      })
  takes_one cycle place latest fates ridden taken took of_slot at inside known =
      let ride : Ride = record { release = cycle; place = place } in
      let last : get_or (set latest slot (Some ride)) slot None ≡ Some ride = get_or-set_same latest slot (Some ride) None known in
      record {
        taken = rw streams taken;
        noted = λ other release carries before. elim (cases_lt release cycle) [
          | inl less ↦
              let it = ridden.noted other release carries less in
              let apart : other ≡ place → ⊥ = λ same. fresh cycle latest fates place release ridden at of_slot (ap (taken_in fates) (sym same) ∙ it.noted) in
              record { of_slot = rw streams it.of_slot; noted = taken-other fates place other (Taken cycle) apart ∙ it.noted }
          | inr past ↦
              let now : release ≡ cycle = omega (arith, past, before) in
              let same : place ≡ other = same_Some _ _ (sym took ∙ ap carried (sym now) ∙ carries) in
              record {
                of_slot = rw streams (subst (IsOfSlot old.streams slot) same of_slot);
                noted = ap (taken_in (set fates place (Taken cycle))) (sym same) ∙ taken-same fates place (Taken cycle) inside ∙ ap Some (sym now);
              }
        ];
        only = λ other release is. elim (cases_eq other place) [
          | inl same ↦
              let now : cycle ≡ release = same_Some _ _ (sym (taken-same fates place (Taken cycle) inside) ∙ ap (taken_in (set fates place (Taken cycle))) (sym same) ∙ is.noted) in
              (omega (arith, now), ap carried (sym now) ∙ took ∙ ap Some (sym same))
          | inr apart ↦
              let it = ridden.only other release (record { of_slot = rw streams at is.of_slot; noted = sym (taken-other fates place other (Taken cycle) apart) ∙ is.noted }) in
              (omega (arith, it.0), it.1)
        ];
        latest = rw last took;
        none_later = λ other release carries before. rw last (omega (arith, before));
      }

-- what is known of another slot
pub takes_elsewhere : (slot since : ℕ) (carried : ℕ → Option ℕ) (old new : Riding) → new.queued.streams ≡ old.queued.streams
    → get_or new.queued.next slot 0 ≡ get_or old.queued.next slot 0 → get_or new.latest slot None ≡ get_or old.latest slot None
    → ((place : ℕ) → IsOfSlot old.queued.streams slot place → taken_in new.fates place ≡ taken_in old.fates place)
    → HasRidden slot carried since old → HasRidden slot carried since new
takes_elsewhere slot since carried old new streams next latest fates ridden =
    record {
      taken = rw (streams, next) ridden.taken;
      noted = grind arith;
      only = λ place release is.
          let of_slot : IsOfSlot old.queued.streams slot place = rw streams at is.of_slot in
          ridden.only place release (record { of_slot = of_slot; noted = sym (fates place of_slot) ∙ is.noted });
      latest = rw latest ridden.latest;
      none_later = λ place release took before. rw latest (ridden.none_later place release took before);
    }

-- what is known of another slot, where a request is taken
pub other_takes : (slot other since cycle place : ℕ) (carried : ℕ → Option ℕ) (old new : Queued) (latest : List (Option Ride)) (fates : List Fate) → new.streams ≡ old.streams
    → get_or new.next other 0 ≡ get_or old.next other 0 → (other ≡ slot → ⊥) → IsOfSlot old.streams slot place
    → HasRidden other carried since (record { queued = old; latest = latest; fates = fates })
    → HasRidden other carried since (record {
      queued = new;
      latest = set latest slot (Some (record { release = cycle; place = place }));
      fates = set fates place (Taken cycle);
    })
other_takes slot other since cycle place carried old new latest fates streams next apart of_slot ridden =
    let ride : Ride = record { release = cycle; place = place } in
    takes_elsewhere other since carried (record { queued = old; latest = latest; fates = fates }) (record { queued = new; latest = set latest slot (Some ride); fates = set fates place (Taken cycle) })
    streams next (get_or-set_other latest slot other (Some ride) None apart)
    (λ at its. taken-other fates place at (Taken cycle) (λ same. apart (one_slot old.streams other slot place (subst (IsOfSlot old.streams other) same its) of_slot)))
    ridden

-- the same are sent where a request is taken that no instance took before
pub same_sent : (fates : List Fate) (place cycle : ℕ) → ((release : ℕ) → taken_in fates place ≡ Some release → ⊥) → place < length fates → SameSent fates (set fates place (Taken cycle))
same_sent fates place cycle none inside other release sent = (
  λ is. elim (cases_eq other place) [
    | inl same ↦ absurd (not_sent (same_Some _ _ (sym (read-set_same fates place (Taken cycle) inside) ∙ ap (slice_get (set fates place (Taken cycle))) (sym same) ∙ is)))
    | inr apart ↦ sym (read-set_other fates place other (Taken cycle) apart) ∙ is
  ],
  λ is.
      let apart : other ≡ place → ⊥ = λ same. none release (ap (option_and_then release_noted) (ap (slice_get fates) (sym same) ∙ is)) in
      read-set_other fates place other (Taken cycle) apart ∙ is,
)
  where
    not_sent : Taken cycle ≡ Sent release sent → ⊥
    not_sent same = let none : ⊥ = cc in none

pub same_sent-refl : (fates : List Fate) → SameSent fates fates
same_sent-refl fates place release cycle = (λ is. is, λ is. is)

pub same_sent-then : (one two three : List Fate) → SameSent one two → SameSent two three → SameSent one three
same_sent-then one two three first second place release cycle =
    (λ is. (first place release cycle).0 ((second place release cycle).0 is), λ is. (second place release cycle).1 ((first place release cycle).1 is))
