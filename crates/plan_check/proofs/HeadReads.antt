-- The first wrong line of a text, where it is one of the five lines before the masks.
use Rattle.std.proofs.Common.{◌≡◌, ℕ, ◌+◌, ◌^◌, ◌<◌, ◌&&◌, true, false, nat_le, List, [], ◌∷◌, ◌++◌, codes, get_or, refl, sym, ap, ◌∙◌, arith}
use Rattle.std.specs.Fmt.{decimal}
use Rattle.std.proofs.lemmas.Bool.{and_from, and_parts, le-leb, leb-true}
use Rattle.plan_check.specs.Certificate.{CertificateView, length_of}
use Rattle.plan_check.specs.declared.plan_runs.Version.{Version}
use Rattle.plan_check.specs.declared.plan_runs.Version.TheVariants.{One}
use Rattle.plan_check.specs.PlanText.{BeginsAsPlan, IsFirstWrongLine, IsReadable, IsReadableHead, first_line, lines_of_head, mask_bound, text_in, text_of}
use Rattle.plan_check.proofs.PlanReads.{BeginsIn, IsWrongIn, begins-by, begins-head, clean-take, clean-head, first-wrong, front-more, head-wrong, near-false, number-same, text-cons, word-number}
use Rattle.plan_check.proofs.Runs.{few-masks}
use Rattle.text_fields.specs.MaskText.{mask_digits}
use Rattle.text_fields.proofs.Shared.{same_line}

abbrev from_digits : ℕ → List ℕ
from_digits n = codes "from " ++ decimal n

abbrev pending_digits : ℕ → List ℕ
pending_digits m = codes "pending " ++ mask_digits m

abbrev first_digits : ℕ → List ℕ
first_digits n = codes "first " ++ decimal n

abbrev length_digits : ℕ → List ℕ
length_digits n = codes "length " ++ decimal n

-- the head of some plan
abbrev easy_head : (version : Version) (from : ℕ) → from < 2 ^ 42 → IsReadableHead version from 0 from 1
easy_head version from small = record {
  from_below = small;
  pending_below = few-masks version 0 (omega arith);
  first_below = small;
  after = omega arith;
  near = omega arith;
  some = omega arith;
  few = omega arith;
}

pub wrong-head : (bytes : List ℕ) → ((version : Version) (after : List ℕ) → bytes ≡ first_line version ++ 10 ∷ after → ⊥) → IsFirstWrongLine bytes 1
wrong-head bytes none =
    let before : BeginsIn One bytes 0 = begins-head One bytes [] bytes 0 0 0 1 0 (easy_head One 0 (omega arith)) refl (omega arith) refl in
    record {
      count = 0;
      at = refl;
      other = λ certificate plan. wrong (begins plan.version certificate plan.readable plan.text);
      before = grind arith;
      wrong = wrong;
    }
  where
    wrong : BeginsAsPlan bytes 1 → ⊥
    wrong begun = none begun.version begun.rest (begun.split ∙ text-cons (first_line begun.version) [] begun.rest)

    begins : (version : Version) (certificate : CertificateView) → IsReadable version certificate → bytes ≡ text_in version certificate → BeginsAsPlan bytes 1
    begins version certificate readable text =
        let in_version = begins-by version bytes certificate 1 readable (omega arith) text in
        grind arith

-- the text behind the head
module _ (version : Version) (bytes rest : List ℕ) (begun : bytes ≡ first_line version ++ 10 ∷ rest) where
  one : bytes ≡ text_of (first_line version ∷ []) ++ rest
  one = front-more bytes [] bytes (first_line version) rest refl begun

  wrong-from-of : ((n : ℕ) (after : List ℕ) → n < 2 ^ 42 → rest ≡ from_digits n ++ 10 ∷ after → ⊥) → IsWrongIn version bytes 2
  wrong-from-of none =
      let head = easy_head version 0 (omega arith) in
      head-wrong version bytes (first_line version ∷ []) rest 1 2 one (clean-take 1 (lines_of_head version 0 0 0 1) (clean-head version 0 0 0 1 (omega arith) (omega arith) (omega arith)))
      refl (omega arith) refl
      (begins-head version bytes (first_line version ∷ []) rest 0 0 0 1 1 head one (omega arith) refl)
      (λ certificate readable same after is. none certificate.from after readable.from is)

  module _ (rest2 : List ℕ) (from : ℕ) (second : rest ≡ from_digits from ++ 10 ∷ rest2) (from_small : from < 2 ^ 42) where
    two : bytes ≡ text_of (first_line version ∷ (from_digits from ∷ [])) ++ rest2
    two = front-more bytes (first_line version ∷ []) rest (from_digits from) rest2 one second

    wrong-pending-of : ((m : ℕ) (after : List ℕ) → m < mask_bound version → rest2 ≡ pending_digits m ++ 10 ∷ after → ⊥) → IsWrongIn version bytes 3
    wrong-pending-of none =
        let head = easy_head version from from_small in
        head-wrong version bytes (first_line version ∷ (from_digits from ∷ [])) rest2 2 3 two
        (clean-take 2 (lines_of_head version from 0 from 1) (clean-head version from 0 from 1 from_small from_small (omega arith)))
        refl (omega arith) refl
        (begins-head version bytes (first_line version ∷ (from_digits from ∷ [])) rest2 from 0 from 1 2 head two (omega arith) refl)
        (λ certificate readable same after is. none certificate.pending after readable.pending is)

    module _ (rest3 : List ℕ) (pending : ℕ) (third : rest2 ≡ pending_digits pending ++ 10 ∷ rest3) (pending_small : pending < mask_bound version) where
      three : bytes ≡ text_of (first_line version ∷ (from_digits from ∷ (pending_digits pending ∷ []))) ++ rest3
      three = front-more bytes (first_line version ∷ (from_digits from ∷ [])) rest2 (pending_digits pending) rest3 two third

      three-wrong : ((certificate : CertificateView) → IsReadable version certificate → certificate.from ≡ from → (after : List ℕ)
          → rest3 ≡ first_digits certificate.first ++ 10 ∷ after → ⊥) → IsWrongIn version bytes 4
      three-wrong none =
          let head : IsReadableHead version from pending from 1 = record { from_below = from_small; pending_below = pending_small; first_below = from_small; after = omega arith; near = omega arith; some = omega arith; few = omega arith } in
          head-wrong version bytes (first_line version ∷ (from_digits from ∷ (pending_digits pending ∷ []))) rest3 3 4 three
          (clean-take 3 (lines_of_head version from pending from 1) (clean-head version from pending from 1 from_small from_small (omega arith)))
          refl (omega arith) refl
          (begins-head version bytes (first_line version ∷ (from_digits from ∷ (pending_digits pending ∷ []))) rest3 from pending from 1 3 head three (omega arith) refl)
          (λ certificate readable same after is.
          none certificate readable
          (number-same (codes "from ") certificate.from from readable.from from_small (ap (λ (l : List (List ℕ)). get_or l 1 []) same)) after is)

      wrong-first-of : ((n : ℕ) (after : List ℕ) → n < 2 ^ 42 → rest3 ≡ first_digits n ++ 10 ∷ after → ⊥) → IsWrongIn version bytes 4
      wrong-first-of none = three-wrong (λ certificate readable same after is. none certificate.first after readable.first is)

      module _ (rest4 : List ℕ) (first : ℕ) (fourth : rest3 ≡ first_digits first ++ 10 ∷ rest4) (first_small : first < 2 ^ 42) where
        wrong-near-of : (nat_le from first && nat_le first (from + 200000)) ≡ false → IsWrongIn version bytes 4
        wrong-near-of test =
            three-wrong (λ certificate readable same after is.
            let line = same_line (first_digits certificate.first) (first_digits first) after rest4
            (word-number (codes "first ") certificate.first refl readable.first) (word-number (codes "first ") first refl first_small) (sym is ∙ fourth) in
            let first_is = number-same (codes "first ") certificate.first first readable.first first_small line.0 in
            near-false from first test (omega arith) (omega arith))

        module _ (test : (nat_le from first && nat_le first (from + 200000)) ≡ true) where
          four : bytes ≡ text_of (first_line version ∷ (from_digits from ∷ (pending_digits pending ∷ (first_digits first ∷ [])))) ++ rest4
          four = front-more bytes (first_line version ∷ (from_digits from ∷ (pending_digits pending ∷ []))) rest3 (first_digits first) rest4 three fourth

          four-wrong : ((certificate : CertificateView) → IsReadable version certificate → (after : List ℕ)
              → rest4 ≡ length_digits (length_of certificate) ++ 10 ∷ after → ⊥) → IsWrongIn version bytes 5
          four-wrong none =
              let parts = and_parts (nat_le from first) (nat_le first (from + 200000)) test in
              let behind = leb-true from first parts.0 in
              let close = leb-true first (from + 200000) parts.1 in
              let head : IsReadableHead version from pending first 1 = record { from_below = from_small; pending_below = pending_small; first_below = first_small; after = behind; near = close; some = omega arith; few = omega arith } in
              head-wrong version bytes (first_line version ∷ (from_digits from ∷ (pending_digits pending ∷ (first_digits first ∷ [])))) rest4 4 5 four
              (clean-take 4 (lines_of_head version from pending first 1) (clean-head version from pending first 1 from_small first_small (omega arith)))
              refl (omega arith) refl
              (begins-head version bytes (first_line version ∷ (from_digits from ∷ (pending_digits pending ∷ (first_digits first ∷ [])))) rest4 from pending first 1 4 head four (omega arith) refl)
              (λ certificate readable same after is. none certificate readable after is)

          wrong-length-of : ((n : ℕ) (after : List ℕ) → n < 2 ^ 42 → rest4 ≡ length_digits n ++ 10 ∷ after → ⊥) → IsWrongIn version bytes 5
          wrong-length-of none = grind (arith, four-wrong)

          wrong-range-of : (rest5 : List ℕ) (size : ℕ) → rest4 ≡ length_digits size ++ 10 ∷ rest5 → size < 2 ^ 42
              → (nat_le 1 size && nat_le size 200000) ≡ false → IsWrongIn version bytes 5
          wrong-range-of rest5 size fifth size_small range =
              four-wrong (λ certificate readable after is.
              let line = same_line (length_digits (length_of certificate)) (length_digits size) after rest5
              (word-number (codes "length ") (length_of certificate) refl (omega arith)) (word-number (codes "length ") size refl size_small) (sym is ∙ fifth) in
              let same = number-same (codes "length ") (length_of certificate) size (omega arith) size_small line.0 in
              let holds = and_from (nat_le 1 size) (nat_le size 200000) (le-leb 1 size (omega arith)) (le-leb size 200000 (omega arith)) in
              absurd (cc))

pub wrong-from : (version : Version) (bytes rest : List ℕ) → bytes ≡ first_line version ++ 10 ∷ rest
    → ((n : ℕ) (after : List ℕ) → n < 2 ^ 42 → rest ≡ from_digits n ++ 10 ∷ after → ⊥) → IsFirstWrongLine bytes 2
wrong-from version bytes rest e1 none = first-wrong version bytes rest 2 e1 (wrong-from-of version bytes rest e1 none)

pub wrong-pending : (version : Version) (bytes rest rest2 : List ℕ) (from : ℕ) → bytes ≡ first_line version ++ 10 ∷ rest → rest ≡ from_digits from ++ 10 ∷ rest2 → from < 2 ^ 42
    → ((m : ℕ) (after : List ℕ) → m < mask_bound version → rest2 ≡ pending_digits m ++ 10 ∷ after → ⊥) → IsFirstWrongLine bytes 3
wrong-pending version bytes rest rest2 from e1 e2 s2 none = first-wrong version bytes rest 3 e1 (wrong-pending-of version bytes rest e1 rest2 from e2 s2 none)

pub wrong-first : (version : Version) (bytes rest rest2 rest3 : List ℕ) (from pending : ℕ) → bytes ≡ first_line version ++ 10 ∷ rest → rest ≡ from_digits from ++ 10 ∷ rest2
    → from < 2 ^ 42 → rest2 ≡ pending_digits pending ++ 10 ∷ rest3 → pending < mask_bound version
    → ((n : ℕ) (after : List ℕ) → n < 2 ^ 42 → rest3 ≡ first_digits n ++ 10 ∷ after → ⊥) → IsFirstWrongLine bytes 4
wrong-first version bytes rest rest2 rest3 from pending e1 e2 s2 e3 s3 none = first-wrong version bytes rest 4 e1 (wrong-first-of version bytes rest e1 rest2 from e2 s2 rest3 pending e3 s3 none)

pub wrong-near : (version : Version) (bytes rest rest2 rest3 rest4 : List ℕ) (from pending first : ℕ) → bytes ≡ first_line version ++ 10 ∷ rest
    → rest ≡ from_digits from ++ 10 ∷ rest2 → from < 2 ^ 42 → rest2 ≡ pending_digits pending ++ 10 ∷ rest3 → pending < mask_bound version
    → rest3 ≡ first_digits first ++ 10 ∷ rest4 → first < 2 ^ 42 → (nat_le from first && nat_le first (from + 200000)) ≡ false → IsFirstWrongLine bytes 4
wrong-near version bytes rest rest2 rest3 rest4 from pending first e1 e2 s2 e3 s3 e4 s4 test = grind (arith, first-wrong, wrong-near-of)

pub wrong-length : (version : Version) (bytes rest rest2 rest3 rest4 : List ℕ) (from pending first : ℕ) → bytes ≡ first_line version ++ 10 ∷ rest
    → rest ≡ from_digits from ++ 10 ∷ rest2 → from < 2 ^ 42 → rest2 ≡ pending_digits pending ++ 10 ∷ rest3 → pending < mask_bound version
    → rest3 ≡ first_digits first ++ 10 ∷ rest4 → first < 2 ^ 42 → (nat_le from first && nat_le first (from + 200000)) ≡ true
    → ((n : ℕ) (after : List ℕ) → n < 2 ^ 42 → rest4 ≡ length_digits n ++ 10 ∷ after → ⊥) → IsFirstWrongLine bytes 5
wrong-length version bytes rest rest2 rest3 rest4 from pending first e1 e2 s2 e3 s3 e4 s4 test none = grind (arith, first-wrong, wrong-length-of)

pub wrong-length-range : (version : Version) (bytes rest rest2 rest3 rest4 rest5 : List ℕ) (from pending first size : ℕ) → bytes ≡ first_line version ++ 10 ∷ rest
    → rest ≡ from_digits from ++ 10 ∷ rest2 → from < 2 ^ 42 → rest2 ≡ pending_digits pending ++ 10 ∷ rest3 → pending < mask_bound version
    → rest3 ≡ first_digits first ++ 10 ∷ rest4 → first < 2 ^ 42 → (nat_le from first && nat_le first (from + 200000)) ≡ true
    → rest4 ≡ length_digits size ++ 10 ∷ rest5 → size < 2 ^ 42 → (nat_le 1 size && nat_le size 200000) ≡ false → IsFirstWrongLine bytes 5
wrong-length-range version bytes rest rest2 rest3 rest4 rest5 from pending first size e1 e2 s2 e3 s3 e4 s4 test e5 s5 range =
    first-wrong version bytes rest 5 e1 (wrong-range-of version bytes rest e1 rest2 from e2 s2 rest3 pending e3 s3 rest4 first e4 s4 test rest5 size e5 s5 range)
