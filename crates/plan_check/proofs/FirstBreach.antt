-- Only one breach of a certificate is the first.
use Rattle.std.proofs.Common.{◌≡◌, ℕ, ◌≤◌, List, arith}
use Rattle.std.proofs.lemmas.Bool.{cases_order}
use Rattle.std.proofs.lemmas.Option.{same_Some}
use Rattle.requirement_table.specs.declared.entries.Placed.{Placed}
use Rattle.plan_check.specs.declared.breach.Breach.{Breach}
use Rattle.plan_check.specs.declared.breach.Breach.TheVariants.{NotReleased, TooWide, Missed}
use Rattle.plan_check.specs.Breaches.{IsBreach, IsGoodAt, IsMissed, IsNotClosed, IsNotReleased, IsReached, IsTooWide, is_missed, is_unreleased, width_at}
use Rattle.plan_check.specs.Certificate.{CertificateView}
use Rattle.plan_check.specs.PlanKept.{NoSlot}
use Rattle.plan_check.proofs.SlotSets.{no-least}

module _ (placed : List Placed) (window : ℕ) (certificate : CertificateView) where
  -- a listed cycle that is reached and not good
  record Fails (cycle : ℕ) : Type 0 where
    number : ℕ
    reached : IsReached placed window certificate number cycle
    bad : IsGoodAt placed window certificate number → ⊥

  abbrev of-unreleased : (cycle slot : ℕ) → IsNotReleased placed window certificate cycle slot → Fails cycle
  of-unreleased cycle slot breach = record {
    number = breach.number;
    reached = breach.reached;
    bad = λ good. no-least (is_unreleased placed certificate breach.number) slot good.released breach.slot_is;
  }

  abbrev of-wide : (cycle sum : ℕ) → IsTooWide placed window certificate cycle sum → Fails cycle
  of-wide cycle sum breach =
      let sum_is = breach.sum_is in
      let wide = breach.wide in
      record {
        number = breach.number;
        reached = breach.reached;
        bad = λ good. let fits = good.fits in omega arith;
      }

  abbrev of-missed : (slot release cycle : ℕ) → IsMissed placed window certificate slot release cycle → Fails cycle
  of-missed slot release cycle breach = record {
    number = breach.number;
    reached = breach.reached;
    bad = λ good. no-least (is_missed placed certificate breach.number) slot good.in_time breach.slot_is;
  }

  same-number : (c d : ℕ) (one : Fails c) (other : Fails d) → one.number ≡ other.number
  same-number c d one other = grind (arith, cases_order)

  open-last : (slot cycle : ℕ) → IsNotClosed placed window certificate slot → Fails cycle → ⊥
  open-last slot cycle breach fails = fails.bad (breach.good fails.number fails.reached.listed)

  -- two kinds of breach in one cycle
  unreleased-or-not : (c slot d : ℕ) (breach : IsNotReleased placed window certificate c slot) (other : Fails d)
      → NoSlot (is_unreleased placed certificate other.number) → ⊥
  unreleased-or-not c slot d breach other none = grind (arith, same-number, no-least)

  wide-or-not : (c sum d : ℕ) (breach : IsTooWide placed window certificate c sum) (other : Fails d)
      → width_at placed certificate other.number ≤ window → ⊥
  wide-or-not c sum d breach other fits = grind (arith, same-number)

  -- two breaches of one kind
  same-unreleased : (c s d t : ℕ) → IsNotReleased placed window certificate c s → IsNotReleased placed window certificate d t
      → NotReleased c s ≡ NotReleased d t
  same-unreleased c s d t one other = grind (arith, same-number)

  same-wide : (c s d t : ℕ) → IsTooWide placed window certificate c s → IsTooWide placed window certificate d t
      → TooWide c s ≡ TooWide d t
  same-wide c s d t one other = grind (arith, same-number)

  same-missed : (s r c t q d : ℕ) → IsMissed placed window certificate s r c → IsMissed placed window certificate t q d
      → Missed s r c ≡ Missed t q d
  same-missed s r c t q d one other = grind (arith, same-number, same_Some)

pub one-breach : (placed : List Placed) (window : ℕ) (certificate : CertificateView) (one other : Breach)
    → IsBreach placed window certificate one → IsBreach placed window certificate other → one ≡ other
one-breach p w f one other h0 h1 =
    grind (arith, no-least, same-unreleased, unreleased-or-not, open-last, same-wide, wide-or-not, same-missed)
