-- Texts that begin as the text of a plan, and the first line that is wrong.
use Rattle.std.proofs.Common.{◌≡◌, ℕ, zero, suc, ◌+◌, ◌-◌, ◌^◌, ◌<◌, ◌≤◌, ◌&&◌, true, false, not, nat_eq, nat_le, List, [], ◌∷◌, ◌++◌, None, codes, drop, get_or, length, map, take, refl, sym, ap, ◌∙◌, arith, append_assoc}
use Rattle.std.specs.Fmt.{decimal}
use Rattle.std.specs.List.{list_all}
use Rattle.std.proofs.lemmas.Bool.{and_from, and_parts, le-leb}
use Rattle.std.proofs.lemmas.Fmt.{decimal_injective}
use Rattle.std.proofs.lemmas.List.{append_cancel_left, length-append, length-map, length-take-le, append-nil, take-append-drop, take-append-le, take_more}
use Rattle.plan_check.specs.Certificate.{CertificateView, length_of}
use Rattle.plan_check.specs.declared.plan_runs.MaskRun.{MaskRun}
use Rattle.plan_check.specs.declared.plan_runs.Version.{Version}
use Rattle.plan_check.specs.PlanText.{AreListed, BeginsAsPlan, IsFirstWrongLine, IsReadable, IsReadableHead, IsTextOfPlan, first_line, head_lines, last_mask, lines_of_head, lines_of_runs, listed_runs, plan_lines, run_line, spread, text_in, text_of, total}
use Rattle.text_fields.specs.Lines.{HasNoFeed}
use Rattle.text_fields.specs.MaskText.{mask_digits}
use Rattle.text_fields.proofs.Shared.{no_feed-append, no_feed-decimal, no_feed-mask, same_line}
use Rattle.plan_check.proofs.Runs.{filling, filling-listed, filling-total, length-spread, listed-append, listed-spread, masks-below, total-append, total-listed}
use Rattle.plan_check.proofs.TextLines.{text_of-append}

abbrev pub AllClean : List (List ℕ) → Type 0
AllClean [] = Unit {0}
AllClean (x ∷ xs) = HasNoFeed x × AllClean xs

pub text-cons : (x : List ℕ) (xs : List (List ℕ)) (r : List ℕ) → text_of (x ∷ xs) ++ r ≡ x ++ 10 ∷ (text_of xs ++ r)
text-cons x xs r = append_assoc (x ++ 10 ∷ []) (text_of xs) r ∙ append_assoc x (10 ∷ []) (text_of xs ++ r)

pub same_front : (xs ys : List (List ℕ)) (r s : List ℕ) → AllClean xs → AllClean ys → length xs ≡ length ys → text_of xs ++ r ≡ text_of ys ++ s
    → (xs ≡ ys) × (r ≡ s)
same_front [] [] r s one other size same = (refl, same)
same_front [] (y ∷ ys) r s one other size same = absurd (omega arith)
same_front (x ∷ xs) [] r s one other size same = absurd (omega arith)
same_front (x ∷ xs) (y ∷ ys) r s one other size same =
    let first = same_line x y (text_of xs ++ r) (text_of ys ++ s) one.0 other.0 (sym (text-cons x xs r) ∙ same ∙ text-cons y ys s) in
    let more = same_front xs ys r s one.1 other.1 (omega arith) first.1 in
    (ap (λ l. l ∷ xs) first.0 ∙ ap (λ l. y ∷ l) more.0, more.1)

-- a line more was read
pub front-more : (bytes : List ℕ) (lines : List (List ℕ)) (rest x after : List ℕ) → bytes ≡ text_of lines ++ rest → rest ≡ x ++ 10 ∷ after
    → bytes ≡ text_of (lines ++ x ∷ []) ++ after
front-more bytes lines rest x after is next = grind (arith, text-cons, append_assoc, text_of-append)

pub clean-append : (xs ys : List (List ℕ)) → AllClean xs → AllClean ys → AllClean (xs ++ ys)
clean-append [] ys one other = other
clean-append (x ∷ xs) ys one other = (one.0, clean-append xs ys one.1 other)

pub clean-take : (k : ℕ) (xs : List (List ℕ)) → AllClean xs → AllClean (take k xs)
clean-take zero xs clean = tt
clean-take (suc k) [] clean = tt
clean-take (suc k) (x ∷ xs) clean = (clean.0, clean-take k xs clean.1)

pub literal-clean : (word : List ℕ) → list_all (λ b. not (nat_eq b 10)) word ≡ true → HasNoFeed word
literal-clean [] test i within = absurd (omega arith)
literal-clean (b ∷ word) test zero within = λ is. let one = (and_parts (not (nat_eq b 10)) (list_all (λ c. not (nat_eq c 10)) word) test).0 in let same = ap (λ c. not (nat_eq c 10)) is in absurd (cc)
literal-clean (b ∷ word) test (suc i) within =
    literal-clean word (and_parts (not (nat_eq b 10)) (list_all (λ c. not (nat_eq c 10)) word) test).1 i (omega arith)

pub word-number : (word : List ℕ) (n : ℕ) → list_all (λ b. not (nat_eq b 10)) word ≡ true → n < 2 ^ 42 → HasNoFeed (word ++ decimal n)
word-number word n test small = no_feed-append word (decimal n) (literal-clean word test) (no_feed-decimal n (omega arith))

pub clean-first : (version : Version) → HasNoFeed (first_line version)
clean-first version = grind (arith, literal-clean, codes)

pub clean-run : (version : Version) (run : MaskRun) → run.count < 2 ^ 42 → HasNoFeed (run_line version run)
clean-run version run small = grind (arith, no_feed-mask, no_feed-append, codes, literal-clean, no_feed-decimal)

pub clean-runs : (version : Version) (runs : List MaskRun) → total runs < 2 ^ 42 → AllClean (map (run_line version) runs)
clean-runs version [] few = tt
clean-runs version (run ∷ runs) few = (clean-run version run (omega arith), clean-runs version runs (omega arith))

pub clean-body : (version : Version) (runs : List MaskRun) → total runs < 2 ^ 42 → AllClean (lines_of_runs version runs)
clean-body version runs few = grind (arith, clean-append, codes, clean-runs, literal-clean)

pub clean-head : (version : Version) (from pending first length : ℕ) → from < 2 ^ 42 → first < 2 ^ 42 → length < 2 ^ 42
    → AllClean (lines_of_head version from pending first length)
clean-head version from pending first length small near few = (
  clean-first version,
  (
    word-number (codes "from ") from refl small,
    (
      no_feed-append (codes "pending ") (mask_digits pending) (literal-clean (codes "pending ") refl) (no_feed-mask pending),
      (word-number (codes "first ") first refl near, (word-number (codes "length ") length refl few, tt)),
    ),
  ),
)

pub clean-plan : (version : Version) (certificate : CertificateView) → IsReadable version certificate → AllClean (plan_lines version certificate)
clean-plan version certificate readable =
    let count = total-listed version certificate.masks in
    clean-append (head_lines version certificate) (lines_of_runs version (listed_runs version certificate.masks))
    (clean-head version certificate.from certificate.pending certificate.first (length_of certificate) readable.from readable.first (omega arith))
    (clean-body version (listed_runs version certificate.masks) (omega arith))

-- One version

-- the same as for any version, where the first line says which one it is
pub record IsPlanIn (version : Version) (bytes : List ℕ) (certificate : CertificateView) : Type 0 where
  pub readable : IsReadable version certificate
  pub text : bytes ≡ text_in version certificate

pub record BeginsIn (version : Version) (bytes : List ℕ) (count : ℕ) : Type 0 where
  pub certificate : CertificateView
  pub readable : IsReadable version certificate
  pub within : count ≤ length (plan_lines version certificate)
  pub rest : List ℕ
  pub split : bytes ≡ text_of (take count (plan_lines version certificate)) ++ rest

pub record IsWrongIn (version : Version) (bytes : List ℕ) (number : ℕ) : Type 0 where
  pub count : ℕ
  pub at : number ≡ count + 1
  pub other : (certificate : CertificateView) → IsPlanIn version bytes certificate → ⊥
  pub before : BeginsIn version bytes count
  pub wrong : BeginsIn version bytes number → ⊥

-- the lines behind the first one
abbrev behind_first : Version → CertificateView → List (List ℕ)
behind_first version certificate =
    ((codes "from " ++ decimal certificate.from)
    ∷ ((codes "pending " ++ mask_digits certificate.pending)
    ∷ ((codes "first " ++ decimal certificate.first)
    ∷ ((codes "length " ++ decimal (length_of certificate))
    ∷ [])))) ++ lines_of_runs version (listed_runs version certificate.masks)

apart : (a b : ℕ) → a ≡ b → a ≡ 49 → b ≡ 50 → ⊥
apart a b same one two = omega arith

begins-in : (version : Version) (bytes after : List ℕ) (k : ℕ) → bytes ≡ first_line version ++ 10 ∷ after → 1 ≤ k → BeginsAsPlan bytes k → BeginsIn version bytes k
begins-in version bytes after k begun some begins = grind arith

pub plan-in : (version : Version) (bytes after : List ℕ) (certificate : CertificateView) → bytes ≡ first_line version ++ 10 ∷ after → IsTextOfPlan bytes certificate
    → IsPlanIn version bytes certificate
plan-in version bytes after certificate begun plan = grind (arith, append-nil, text-cons)

-- what is wrong in the version that the first line says is wrong
pub first-wrong : (version : Version) (bytes after : List ℕ) (number : ℕ) → bytes ≡ first_line version ++ 10 ∷ after → IsWrongIn version bytes number
    → IsFirstWrongLine bytes number
first-wrong version bytes after number begun wrong = grind (arith, wrong, plan-in, begins-in)

-- The head

-- how many lines a plan has
pub count-lines : (version : Version) (certificate : CertificateView)
    → length (plan_lines version certificate) ≡ 6 + length (listed_runs version certificate.masks)
count-lines version certificate = grind (arith, length-append, codes, length-map)

-- a text of a plan begins with each number of its lines
pub begins-by : (version : Version) (bytes : List ℕ) (certificate : CertificateView) (k : ℕ) → IsReadable version certificate
    → k ≤ 6 + length (listed_runs version certificate.masks) → bytes ≡ text_in version certificate → BeginsIn version bytes k
begins-by version bytes certificate k readable within is =
    let lines = plan_lines version certificate in
    let size = count-lines version certificate in
    record {
      certificate = certificate;
      readable = readable;
      within = omega arith;
      rest = text_of (drop k lines);
      split = is ∙ ap text_of (sym (take-append-drop k lines)) ∙ text_of-append (take k lines) (drop k lines);
    }

-- a text that begins with these lines has in the next one what such a text of more lines has there
pub next-line : (lines its : List (List ℕ)) (rest other : List ℕ) (k : ℕ) → AllClean lines → AllClean its → length lines ≡ k → k < length its
    → text_of lines ++ rest ≡ text_of (take (k + 1) its) ++ other → (lines ≡ take k its) × (rest ≡ get_or its k [] ++ 10 ∷ other)
next-line lines its rest other k clean its_clean size inside same =
    let whole : text_of lines ++ rest ≡ text_of (take k its) ++ (get_or its k [] ++ 10 ∷ other)
    = same ∙ ap (λ l. text_of l ++ other) (take_more its k [] inside)
    ∙ ap (λ t. t ++ other) (text_of-append (take k its) (get_or its k [] ∷ []))
    ∙ append_assoc (text_of (take k its)) (text_of (get_or its k [] ∷ [])) other
    ∙ ap (λ t. text_of (take k its) ++ t) (text-cons (get_or its k []) [] other) in
    grind (arith, length-take-le, same_front, clean-take)

-- a line of the head that no plan has behind the lines before it
pub head-wrong : (version : Version) (bytes : List ℕ) (lines : List (List ℕ)) (rest : List ℕ) (k number : ℕ) → bytes ≡ text_of lines ++ rest → AllClean lines
    → length lines ≡ k → k ≤ 4 → number ≡ k + 1 → BeginsIn version bytes k
    → ((certificate : CertificateView) → IsReadable version certificate → take k (plan_lines version certificate) ≡ lines → (after : List ℕ)
    → rest ≡ get_or (plan_lines version certificate) k [] ++ 10 ∷ after → ⊥)
    → IsWrongIn version bytes number
head-wrong version bytes lines rest k number is clean size early at before none =
    record {
      count = k;
      at = at;
      other = λ certificate plan. wrong (begins-by version bytes certificate number plan.readable (omega arith) plan.text);
      before = before;
      wrong = wrong;
    }
  where
    wrong : BeginsIn version bytes number → ⊥
    wrong begins =
        let c = begins.certificate in
        let plan = plan_lines version c in
        let inside : k < length plan = omega arith in
        let split : bytes ≡ text_of (take (k + 1) plan) ++ begins.rest = rw at at begins.split in
        let parts = next-line lines plan rest begins.rest k clean (clean-plan version c begins.readable) size inside (sym is ∙ split) in
        none c begins.readable (sym parts.0) begins.rest parts.1

-- a certificate with as many masks as its head says

pub counted-length : (certificate : CertificateView) (size : ℕ) → length certificate.masks ≡ certificate.first - certificate.from + size
    → length_of certificate ≡ size
counted-length certificate size count =
    ap (λ n. n - (certificate.first - certificate.from)) count ∙ sum-less (certificate.first - certificate.from) size
  where
    sum-less : (a b : ℕ) → a + b - a ≡ b
    sum-less a b = omega arith

-- the certificate with these runs and others behind them, as many as its head says
abbrev pub filler : Version → ℕ → ℕ → ℕ → ℕ → List MaskRun → CertificateView
filler version from pending first size runs = record {
  from = from;
  pending = pending;
  first = first;
  masks = spread (runs ++ filling version (last_mask None runs) (first - from + size - total runs));
}

module _ (version : Version) (from pending first size : ℕ) (runs : List MaskRun) (listed : AreListed version None runs) (few : total runs ≤ first - from + size) where
  abbrev tail_runs : List MaskRun
  tail_runs = filling version (last_mask None runs) (first - from + size - total runs)

  all-listed : AreListed version None (runs ++ tail_runs)
  all-listed = listed-append version None runs tail_runs listed (filling-listed version (last_mask None runs) (first - from + size - total runs))

  filler-runs : listed_runs version (filler version from pending first size runs).masks ≡ runs ++ tail_runs
  filler-runs = listed-spread version (runs ++ tail_runs) all-listed

  filler-count : length (filler version from pending first size runs).masks ≡ first - from + size
  filler-count = grind (arith, length-spread, total-append, filling-total)

  filler-readable : IsReadableHead version from pending first size → IsReadable version (filler version from pending first size runs)
  filler-readable head = grind (arith, filler-count, masks-below, all-listed)

  filler-length : length_of (filler version from pending first size runs) ≡ size
  filler-length = counted-length (filler version from pending first size runs) size filler-count

  -- lines of the head, and lines of these runs behind it, begin a plan
  pub filler-begins : (bytes : List ℕ) (lines : List (List ℕ)) (rest : List ℕ) (k : ℕ) → IsReadableHead version from pending first size → bytes ≡ text_of lines ++ rest
      → k ≤ 5 + length runs
      → lines ≡ take k (lines_of_head version from pending first size ++ (map (run_line version) (runs ++ tail_runs) ++ codes "end" ∷ [])) → BeginsIn version bytes k
  filler-begins bytes lines rest k head is early same =
      let c = filler version from pending first size runs in
      let count = count-lines version c in
      let all = ap length filler-runs ∙ length-append runs tail_runs in
      let these : lines_of_head version from pending first size ++ (map (run_line version) (runs ++ tail_runs) ++ codes "end" ∷ []) ≡ plan_lines version c
      = grind (arith, codes, filler-length, filler-runs) in
      record {
        certificate = c;
        readable = filler-readable head;
        within = omega arith;
        rest = rest;
        split = is ∙ ap (λ l. text_of l ++ rest) (same ∙ ap (take k) these);
      }

-- lines of the head begin a plan
pub begins-head : (version : Version) (bytes : List ℕ) (lines : List (List ℕ)) (rest : List ℕ) (from pending first size k : ℕ)
    → IsReadableHead version from pending first size → bytes ≡ text_of lines ++ rest → k ≤ 5
    → lines ≡ take k (lines_of_head version from pending first size) → BeginsIn version bytes k
begins-head version bytes lines rest from pending first size k head is early same =
    filler-begins version from pending first size [] tt (omega arith) bytes lines rest k head is (omega arith)
    (same ∙ sym (take-append-le k (lines_of_head version from pending first size) (map (run_line version) (filling version None (first - from + size - 0)) ++ codes "end" ∷ []) early))

-- the number behind a word is known by the line
pub number-same : (word : List ℕ) (m n : ℕ) → m < 2 ^ 42 → n < 2 ^ 42 → word ++ decimal m ≡ word ++ decimal n → m ≡ n
number-same word m n small other is = decimal_injective m n (omega arith) (omega arith) (append_cancel_left word (decimal m) (decimal n) is)

pub near-false : (from first : ℕ) → (nat_le from first && nat_le first (from + 200000)) ≡ false → from ≤ first → first ≤ from + 200000 → ⊥
near-false from first test after near = grind (arith, and_from, le-leb)
