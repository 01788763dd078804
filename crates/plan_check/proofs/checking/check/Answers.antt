use Rattle.std.proofs.Common.{◌≡◌, ℕ, ◌-◌, ◌+◌, refl, not, ◌&&◌, nat_eq, ◌<◌, ◌≤◌, List, Result, IsOk, IsErr, length, arith}
use Rattle.std.specs.List.{list_any}
use Rattle.requirement_table.specs.declared.entries.Placed.{Placed}
use Rattle.bit_sets.specs.Sets.{has_bit, most_slots}
use Rattle.plan_check.specs.declared.breach.Breach.TheVariants.{BadLoop}
use Rattle.plan_check.specs.Certificate.{CertificateView, IsCertificate, length_of}
use Rattle.plan_check.specs.PlanKept.{differ, goes_round, is_bad, is_held, is_open}
use Rattle.plan_check.proofs.CycleSteps.{least-same, none-same}
use Rattle.plan_check.proofs.Taken.{breach-wrong, taken-of}
use Rattle.plan_check.proofs.SlotSets.{no-least}
use Rattle.plan_check.proofs.checking.check.Goals as goal

bad-is : (placed : List Placed) (certificate : CertificateView) (bad first length : ℕ) → first ≡ certificate.first → length ≡ length_of certificate
    → ((slot : ℕ) → has_bit bad slot ≡ list_any {X = Placed} (λ p. nat_eq p.entry.slot slot && not (goes_round first length p)) placed)
    → (slot : ℕ) → slot < most_slots → has_bit bad slot ≡ is_bad placed certificate slot
bad-is placed certificate bad first length same_first same_length made slot known = grind arith

open-is : (placed : List Placed) (certificate : CertificateView) (before behind both : ℕ)
    → ((s : ℕ) → s < most_slots → has_bit before s ≡ is_held placed certificate (certificate.first - certificate.from) s)
    → ((s : ℕ) → s < most_slots → has_bit behind s ≡ is_held placed certificate (certificate.first - certificate.from + length_of certificate) s)
    → ((s : ℕ) → s < most_slots → has_bit both s ≡ differ (has_bit before s) (has_bit behind s))
    → (s : ℕ) → s < most_slots → has_bit both s ≡ is_open placed certificate s
open-is placed certificate before behind both held_before held_behind made s known = grind arith

ok-err : {T E : Type 0} (r : Result T E) → IsOk r → IsErr r → ⊥
ok-err r ok err = grind arith

is-certificate : (certificate : CertificateView) (first : ℕ) → first ≡ certificate.first → certificate.from ≤ first
    → first < certificate.from + length certificate.masks → IsCertificate certificate.from certificate.first certificate.masks
is-certificate certificate first value after within = record { after = omega arith; within = omega arith }

pub returns-in-Some-clause-breach : goal.returns-in-Some-clause-breach
returns-in-Some-clause-breach c =
    least-same (has_bit c.bad_slots.result) (is_bad c.args.placed.now c.args.certificate.now) c.in-Some.slot
    (bad-is c.args.placed.now c.args.certificate.now c.bad_slots.result c.first.result c.length.result c.first.ensures.value c.length.ensures.value c.bad_slots.ensures.slots)
    c.in-Some.ensures.least

pub returns-in-Some-clause-ok : goal.returns-in-Some-clause-ok
returns-in-Some-clause-ok c =
    let least = least-same (has_bit c.bad_slots.result) (is_bad c.args.placed.now c.args.certificate.now) c.in-Some.slot
    (bad-is c.args.placed.now c.args.certificate.now c.bad_slots.result c.first.result c.length.result c.first.ensures.value c.length.ensures.value c.bad_slots.ensures.slots)
    c.in-Some.ensures.least in (
      λ wrong. absurd (cc),
      λ taken. absurd (breach-wrong c.args.placed.now c.args.w c.args.certificate.now c.requires.well_placed c.requires.pending taken (BadLoop c.in-Some.slot) least),
    )

pub check_cycles-requires-clause-rounds : goal.check_cycles-requires-clause-rounds
check_cycles-requires-clause-rounds c =
    none-same (has_bit c.bad_slots.result) (is_bad c.args.placed.now c.args.certificate.now)
    (bad-is c.args.placed.now c.args.certificate.now c.bad_slots.result c.first.result c.length.result c.first.ensures.value c.length.ensures.value c.bad_slots.ensures.slots)
    c.in_default.ensures.least

pub returns-in_err-before-clause-ok : goal.returns-in_err-before-clause-ok
returns-in_err-before-clause-ok c = grind (arith, breach-wrong, ok-err)

pub returns-in-Some-least-clause-breach : goal.returns-in-Some-least-clause-breach
returns-in-Some-least-clause-breach c =
    let placed = c.args.placed.now in
    let certificate = c.args.certificate.now in
    record {
      rounds = none-same (has_bit c.bad_slots.result) (is_bad placed certificate)
          (bad-is placed certificate c.bad_slots.result c.first.result c.length.result c.first.ensures.value c.length.ensures.value c.bad_slots.ensures.slots)
          c.in_default.ensures.least;
      good = c.in_ok-before.ensures.good;
      slot_is = grind (arith, least-same, open-is);
    }

pub returns-in-Some-least-clause-ok : goal.returns-in-Some-least-clause-ok
returns-in-Some-least-clause-ok c = grind (arith, least-same, open-is, no-least)

pub returns-in-None-clause-ok : goal.returns-in-None-clause-ok
returns-in-None-clause-ok c =
    let placed = c.args.placed.now in
    let certificate = c.args.certificate.now in (
      λ _. taken-of placed c.args.w certificate c.requires.well_placed c.requires.pending
          (is-certificate certificate c.first.result c.first.ensures.value c.first.ensures.after c.first.ensures.within)
          (none-same (has_bit c.bad_slots.result) (is_bad placed certificate)
          (bad-is placed certificate c.bad_slots.result c.first.result c.length.result c.first.ensures.value c.length.ensures.value c.bad_slots.ensures.slots)
          c.in_default.ensures.least)
          c.in_ok-before.ensures.good
          (grind (arith, none-same, open-is)),
      λ _. refl,
    )
