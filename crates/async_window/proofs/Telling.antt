-- Numbers that tell of the first requests of mailboxes: how they are noted.
use Rattle.std.proofs.Common.{◌≡◌, ℕ, ◌+◌, ◌^◌, ◌<◌, ◌≤◌, Option, None, Some, List, length, get_or, set, inl, inr, ◌∙◌, subst, arith}
use Rattle.std.proofs.lemmas.Grind.{common_steps}
use Rattle.std.proofs.lemmas.Bool.{cases_lt}
use Rattle.std.proofs.lemmas.List.{get_or_default}
use Rattle.async_window.specs.declared.request.Request.{Request}
use Rattle.async_window.specs.Mailbox.{Mail, IsLeastWith}
use Rattle.async_window.specs.Tournament.{never, nobody, IsFirstWithin, IsSoonestStart, Tell, Notes, TellFirsts, arrival_within, first_bytes, first_length}
use Rattle.stuff_bound.specs.Stuffing.{worst}
use Rattle.std.specs.Prelude.{IfSome}
use Rattle.async_window.proofs.Soonest.{arrives-later}

-- one mailbox more
pub Tell-more : (place : ℕ) (told : List Request → ℕ) (boxes : List Mail) (old new : List ℕ) → Notes told boxes place old new
    → Tell place told boxes old → Tell (place + 1) told boxes new
Tell-more place told boxes old new notes tell = grind arith

-- a number that comes is that of a mailbox
pub told-within : (told : List Request → ℕ) (boxes : List Mail) (numbers : List ℕ) → Tell (length boxes) told boxes numbers
    → (place bound : ℕ) → place < length numbers → get_or numbers place 0 ≤ bound → bound < never → place < length boxes
told-within told boxes numbers tell place bound within low time = grind (arith, cases_lt)

pub told-at : (told : List Request → ℕ) (boxes : List Mail) (numbers : List ℕ) → Tell (length boxes) told boxes numbers
    → (place : ℕ) (d : Mail) → place < length boxes → get_or numbers place 0 ≡ told (get_or boxes place d).unsent
told-at told boxes numbers tell place d within = tell.each place d within within

module _ (told : List Request → ℕ) (boxes : List Mail) (numbers : List ℕ) (tell : Tell (length boxes) told boxes numbers) (least : ℕ)
    (low : (place : ℕ) → place < length numbers → least ≤ get_or numbers place 0)
    (some : (bound : ℕ) → least ≤ bound → (place : ℕ) × (place < length numbers) × (get_or numbers place 0 ≤ bound)) where
  -- what the least number says of all mailboxes, and of one
  pub least-told : (place : ℕ) (d : Mail) → place < length boxes → least ≤ told (get_or boxes place d).unsent
  least-told place d within = grind (arith, told-at)

  pub some-told : (bound : ℕ) → bound < never → least ≤ bound
      → (place : ℕ) × (place < length boxes) × ((d : Mail) → told (get_or boxes place d).unsent ≤ bound)
  some-told bound time here = grind (arith, told-within, told-at)

-- both kinds of numbers
pub TellFirsts-noted : (place : ℕ) (box : Mail) (boxes : List Mail) (arrivals lengths new_arrivals new_lengths : List ℕ)
    → Notes (arrival_within 8) (set boxes place box) place arrivals new_arrivals
    → Notes first_length (set boxes place box) place lengths new_lengths → place < length boxes
    → TellFirsts (length boxes) boxes arrivals lengths
    → TellFirsts (length (set boxes place box)) (set boxes place box) new_arrivals new_lengths
TellFirsts-noted place box boxes arrivals lengths new_arrivals new_lengths arrive long inside tell = grind (arith, common_steps)

-- the first mailbox whose first request has arrived, by the numbers
module _ (bytes at : ℕ) (few : bytes ≤ 8) (time : at < never) (boxes : List Mail) (arrivals : List ℕ)
    (tell : Tell (length boxes) (arrival_within 8) boxes arrivals) where
  pub none-first : ((place : ℕ) → place < length arrivals → at < get_or arrivals place 0) → (place : ℕ) (d : Mail) → place < length boxes
      → at < arrival_within bytes (get_or boxes place d).unsent
  none-first none place d within = grind (arith, arrives-later, told-at)

-- where the request that arrives soonest may start then, no other one starts sooner
pub soonest-starts : (boxes : List Mail) (arrivals : List ℕ) (opened closed at soonest place sooner bytes : ℕ) (box : Mail) (found : Option ℕ)
    → closed < 2 ^ 64 → soonest < closed → Tell (length boxes) (arrival_within 8) boxes arrivals
    → ((other : ℕ) → other < length arrivals → soonest ≤ get_or arrivals other 0) → IsFirstWithin soonest arrivals place sooner
    → box ≡ get_or boxes place box → bytes ≡ first_bytes box.unsent
    → IsLeastWith (λ later. (at < later) × (soonest ≤ later) × (opened ≤ later) × (later + worst bytes ≤ closed)) found
    → IfSome found (λ next. IsSoonestStart boxes opened closed at (length boxes) (Some next))
soonest-starts boxes arrivals opened closed at soonest place sooner bytes box None wide early tell low first read long least = tt
soonest-starts boxes arrivals opened closed at soonest place sooner bytes box (Some next) wide early tell low first read long least =
    let within : place < length boxes
    = told-within (arrival_within 8) boxes arrivals tell place soonest first.within first.here (omega arith) in
    let here : box ≡ get_or boxes place nobody = read ∙ get_or_default boxes place box nobody within in
    let soon : arrival_within 8 (get_or boxes place nobody).unsent ≤ soonest
    = subst (λ n. n ≤ soonest) (told-at (arrival_within 8) boxes arrivals tell place nobody within) first.here in
    let fits : next + worst bytes ≤ closed = least.0.3 in
    let whole : next + worst (first_bytes (get_or boxes place nobody).unsent) ≤ closed
    = subst (λ (x : Mail). next + worst (first_bytes x.unsent) ≤ closed) here (subst (λ n. next + worst n ≤ closed) long fits) in (
      (place, within, record { behind = least.0.0; arrived = omega (arith, least.0.1); from = least.0.2; whole = whole }),
      λ later has. elim (cases_lt later next) [
        | inl before ↦
            let high : soonest ≤ arrival_within 8 (get_or boxes has.0 nobody).unsent
            = grind (arith, told-at) in
            least.1 later (has.2.behind, omega (arith, has.2.arrived), has.2.from, omega arith)
        | inr after ↦ omega arith
      ],
    )
