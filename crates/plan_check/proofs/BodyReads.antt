-- The text of a plan behind its head: the first wrong line there, and that a text is of one certificate.
use Rattle.std.proofs.Common.{◌≡◌, ℕ, suc, ◌+◌, ◌-◌, ◌^◌, ◌<◌, ◌≤◌, List, [], ◌∷◌, ◌++◌, None, Option, Some, codes, drop, get_or, length, map, take, refl, sym, ap, ◌∙◌, subst, arith, append_assoc}
use Rattle.std.specs.Fmt.{decimal}
use Rattle.std.proofs.lemmas.List.{append-nil, append_cancel_left, length-append, length-map, map-append, take_all, take_more}
use Rattle.std.proofs.Math.Seq.{take-append_seam}
use Rattle.plan_check.specs.declared.plan_runs.MaskRun.{MaskRun}
use Rattle.plan_check.specs.declared.plan_runs.Version.{Version}
use Rattle.plan_check.specs.declared.plan_runs.Version.TheVariants.{Two}
use Rattle.plan_check.specs.declared.text_fault.PlanTextFault.{PlanTextFault}
use Rattle.plan_check.specs.declared.text_fault.PlanTextFault.TheVariants.{Line, Memory}
use Rattle.plan_check.specs.Certificate.{CertificateView, length_of}
use Rattle.plan_check.specs.PlanText.{AreListed, AreRead, IsBody, IsFirstWrongLine, IsReadable, IsReadableHead, IsRunFault, IsTextFault, IsTextOfPlan, IsWrongRun, MayFollow, first_line, head_lines, last_mask, lines_of_head, lines_of_runs, listed_runs, plan_lines, run_line, text_in, text_of, total}
use Rattle.text_fields.specs.MaskText.{mask_digits}
use Rattle.text_fields.proofs.Shared.{mask-injective, same_line}
use Rattle.plan_check.proofs.LineReads.{line-not-end, of-version, run-same}
use Rattle.plan_check.proofs.PlanReads.{AllClean, BeginsIn, IsPlanIn, IsWrongIn, begins-by, clean-body, clean-head, clean-runs, count-lines, counted-length, filler-begins, first-wrong, front-more, literal-clean, next-line, number-same, plan-in, same_front, text-cons}
use Rattle.plan_check.proofs.Runs.{filling, length-spread, listed-are, listed-behind, listed-spread, masks-below, none-left, spread-listed, total-append, total-listed}
use Rattle.plan_check.proofs.TextLines.{text_of-append}

-- the head of a text is of one certificate
pub record HeadSame (certificate : CertificateView) (from pending first length : ℕ) (rest other : List ℕ) : Type 0 where
  pub from_is : certificate.from ≡ from
  pub pending_is : certificate.pending ≡ pending
  pub first_is : certificate.first ≡ first
  pub length_is : length_of certificate ≡ length
  pub rest_is : rest ≡ other

head-same : (version : Version) (bytes rest other : List ℕ) (certificate : CertificateView) (from pending first length : ℕ) → IsReadable version certificate
    → IsReadableHead version from pending first length → bytes ≡ text_of (lines_of_head version from pending first length) ++ rest
    → bytes ≡ text_of (head_lines version certificate) ++ other → HeadSame certificate from pending first length rest other
head-same version bytes rest other certificate from pending first size readable head mine its =
    let parts = same_front (head_lines version certificate) (lines_of_head version from pending first size) other rest
    (clean-head version certificate.from certificate.pending certificate.first (length_of certificate) readable.from readable.first (omega arith))
    (clean-head version from pending first size head.from_below head.first_below (omega arith)) refl (sym its ∙ mine) in
    let line : (k : ℕ) → get_or (head_lines version certificate) k [] ≡ get_or (lines_of_head version from pending first size) k []
    = λ k. ap (λ (l : List (List ℕ)). get_or l k []) parts.0 in
    record {
      from_is = number-same (codes "from ") certificate.from from readable.from head.from_below (line 1);
      pending_is = grind (arith, mask-injective, append_cancel_left, codes);
      first_is = number-same (codes "first ") certificate.first first readable.first head.first_below (line 3);
      length_is = number-same (codes "length ") (length_of certificate) size (omega arith) (omega arith) (line 4);
      rest_is = sym parts.1;
    }

abbrev runs_in : Version → CertificateView → List MaskRun
runs_in version certificate = listed_runs version certificate.masks

abbrev body_in : Version → CertificateView → List (List ℕ)
body_in version certificate = lines_of_runs version (runs_in version certificate)

whole-split : (version : Version) (certificate : CertificateView)
    → text_in version certificate ≡ text_of (head_lines version certificate) ++ text_of (body_in version certificate)
whole-split version certificate = text_of-append (head_lines version certificate) (body_in version certificate)

take-plan : (version : Version) (certificate : CertificateView) (j k : ℕ) → k ≡ 5 + j
    → take k (plan_lines version certificate) ≡ head_lines version certificate ++ take j (body_in version certificate)
take-plan version certificate j k is = let five : k ≡ suc (suc (suc (suc (suc j)))) = omega arith in rw five refl

behind-head : (version : Version) (bytes : List ℕ) (certificate : CertificateView) (j k : ℕ) (r : List ℕ) → k ≡ 5 + j
    → bytes ≡ text_of (take k (plan_lines version certificate)) ++ r
    → bytes ≡ text_of (head_lines version certificate) ++ (text_of (take j (body_in version certificate)) ++ r)
behind-head version bytes certificate j k r at split = grind (arith, take-plan, text_of-append, append_assoc)

abbrev pub view : ℕ → ℕ → ℕ → List ℕ → CertificateView
view from pending first masks = record { from = from; pending = pending; first = first; masks = masks }

view-same : (certificate : CertificateView) (from pending first : ℕ) (masks : List ℕ) → from ≡ certificate.from → pending ≡ certificate.pending
    → first ≡ certificate.first → masks ≡ certificate.masks
    → view from pending first masks ≡ certificate
view-same certificate from pending first masks one two three four = grind arith

-- Runs that go on

pub record GoesOn (runs its : List MaskRun) : Type 0 where
  pub more : List MaskRun
  pub is : its ≡ runs ++ more

-- a list of runs with these lines at its front has these runs there
goes-on : (version : Version) (last last' : Option ℕ) (runs its : List MaskRun) → AreListed version last runs → AreListed version last' its → total runs < 2 ^ 42
    → total its < 2 ^ 42 → map (run_line version) runs ≡ take (length runs) (lines_of_runs version its) → GoesOn runs its
goes-on version last last' [] its listed other few short same = record { more = its; is = refl }
goes-on version last last' (run ∷ runs) [] listed other few short same = grind (arith, line-not-end)
goes-on version last last' (run ∷ runs) (it ∷ its) listed other few short same =
    let line : run_line version run ≡ run_line version it = ap (λ (l : List (List ℕ)). get_or l 0 []) same in
    let lines : map (run_line version) runs ≡ take (length runs) (lines_of_runs version its) = ap (λ (l : List (List ℕ)). drop 1 l) same in
    let here = run-same version run it (of-version version last run listed.0 (omega arith)) (of-version version last' it other.0 (omega arith)) line in
    let rest = goes-on version (Some run.mask) (Some it.mask) runs its listed.1 other.1 (omega arith) (omega arith) lines in
    record { more = rest.more; is = ap (λ r. r ∷ its) (sym here) ∙ ap (λ l. run ∷ l) rest.is }

-- no cycle is left behind these runs
all-there : (version : Version) (runs its more : List MaskRun) → AreListed version None its → its ≡ runs ++ more → total its ≡ total runs → more ≡ []
all-there version runs its more listed is same =
    let P : List MaskRun → Type 0 = λ l. AreListed version None l in
    let behind = listed-behind version None runs more (subst P is listed) in
    grind (arith, total-append, none-left, behind)

line-behind : (version : Version) (runs more : List MaskRun) → get_or (lines_of_runs version (runs ++ more)) (length runs) [] ≡ get_or (lines_of_runs version more) 0 []
line-behind version [] more = refl
line-behind version (run ∷ runs) more = line-behind version runs more

lines-behind : (version : Version) (runs : List MaskRun) → drop (length runs) (lines_of_runs version runs) ≡ codes "end" ∷ []
lines-behind version [] = refl
lines-behind version (run ∷ runs) = lines-behind version runs

not-nothing : (x r : List ℕ) → x ++ 10 ∷ r ≡ [] → ⊥
not-nothing x r is =
    let size = ap length is in
    grind (arith, length-append)

-- a whole text that begins with these lines has them as its first ones
front-same : (xs ys : List (List ℕ)) (r : List ℕ) → AllClean xs → AllClean ys → text_of xs ++ r ≡ text_of ys
    → (xs ≡ take (length xs) ys) × (r ≡ text_of (drop (length xs) ys))
front-same [] ys r one other same = (refl, same)
front-same (x ∷ xs) [] r one other same = absurd (not-nothing x (text_of xs ++ r) (sym (text-cons x xs r) ∙ same))
front-same (x ∷ xs) (y ∷ ys) r one other same =
    let whole : text_of (y ∷ ys) ≡ y ++ 10 ∷ text_of ys = append_assoc y (10 ∷ []) (text_of ys) in
    let first = same_line x y (text_of xs ++ r) (text_of ys) one.0 other.0 (sym (text-cons x xs r) ∙ same ∙ whole) in
    let more = front-same xs ys r one.1 other.1 first.1 in
    (ap (λ l. l ∷ xs) first.0 ∙ ap (λ l. y ∷ l) more.0, more.1)

-- one line fewer
less-split : (lines : List (List ℕ)) (bytes rest : List ℕ) (k number : ℕ) → number ≡ k + 1 → number ≤ length lines → bytes ≡ text_of (take number lines) ++ rest
    → bytes ≡ text_of (take k lines) ++ (get_or lines k [] ++ 10 ∷ rest)
less-split lines bytes rest k number at within split =
    split
    ∙ ap (λ n. text_of (take n lines) ++ rest) at
    ∙ ap (λ l. text_of l ++ rest) (take_more lines k [] (omega arith))
    ∙ ap (λ t. t ++ rest) (text_of-append (take k lines) (get_or lines k [] ∷ []))
    ∙ append_assoc (text_of (take k lines)) (text_of (get_or lines k [] ∷ [])) rest
    ∙ ap (λ t. text_of (take k lines) ++ t) (text-cons (get_or lines k []) [] rest)

less-within : (k number n : ℕ) → number ≡ k + 1 → number ≤ n → k ≤ n
less-within k number n at within = omega arith

abbrev begins-less : (version : Version) (bytes : List ℕ) (k number : ℕ) → number ≡ k + 1 → BeginsIn version bytes number → BeginsIn version bytes k
begins-less version bytes k number at begins = record {
  certificate = begins.certificate;
  readable = begins.readable;
  within = less-within k number (length (plan_lines version begins.certificate)) at begins.within;
  rest = get_or (plan_lines version begins.certificate) k [] ++ 10 ∷ begins.rest;
  split = less-split (plan_lines version begins.certificate) bytes begins.rest k number at begins.within begins.split;
}

module _ (version : Version) (bytes : List ℕ) (from pending first size : ℕ) (rest : List ℕ) (head : IsReadableHead version from pending first size)
    (is : bytes ≡ text_of (lines_of_head version from pending first size) ++ rest) (masks after : List ℕ) (runs : List MaskRun)
    (read : AreRead version rest after masks runs) (few : total runs ≤ first - from + size) where
  abbrev count : ℕ
  count = first - from + size

  small : total runs < 2 ^ 42
  small = let near = head.near in let short = head.few in omega arith

  lines-clean : AllClean (map (run_line version) runs)
  lines-clean = clean-runs version runs small

  -- what a certificate of the text has behind the same head
  record SameHead (certificate : CertificateView) (other : List ℕ) : Type 0 where
    head_is : HeadSame certificate from pending first size rest other
    count_is : total (runs_in version certificate) ≡ count
    short : total (runs_in version certificate) < 2 ^ 42
    listed : AreListed version None (runs_in version certificate)

  same-head : (certificate : CertificateView) (other : List ℕ) → IsReadable version certificate → bytes ≡ text_of (head_lines version certificate) ++ other
      → SameHead certificate other
  same-head certificate other readable its =
      let same = head-same version bytes rest other certificate from pending first size readable head is its in
      grind (arith, total-listed, listed-are)

  -- what a plan has where the text begins with its lines up to the one behind these runs
  record Behind (certificate : CertificateView) (later : List ℕ) : Type 0 where
    more : List MaskRun
    are : runs_in version certificate ≡ runs ++ more
    listed : AreListed version (last_mask None runs) more
    count_is : total runs + total more ≡ count
    line : after ≡ get_or (lines_of_runs version more) 0 [] ++ 10 ∷ later

  behind : (number : ℕ) → number ≡ 6 + length runs → (begins : BeginsIn version bytes number) → Behind begins.certificate begins.rest
  behind number at begins =
      let c = begins.certificate in
      let j = length runs in
      let its = runs_in version c in
      let lines = body_in version c in
      let whole = behind-head version bytes c (j + 1) number begins.rest (omega arith) begins.split in
      let same = same-head c (text_of (take (j + 1) lines) ++ begins.rest) begins.readable whole in
      let inside : j < length lines = omega arith in
      let parts = next-line (map (run_line version) runs) lines after begins.rest j lines-clean (clean-body version its same.short)
      (length-map runs (run_line version)) inside (sym read.read ∙ same.head_is.rest_is) in
      grind (arith, goes-on, small, total-append, listed-behind, line-behind)

  -- what a plan has whose text this is
  record OfPlan (certificate : CertificateView) : Type 0 where
    same : SameHead certificate (text_of (body_in version certificate))
    more : List MaskRun
    are : runs_in version certificate ≡ runs ++ more
    rest_is : after ≡ text_of (drop (length runs) (body_in version certificate))

  of-plan : (certificate : CertificateView) → IsPlanIn version bytes certificate → OfPlan certificate
  of-plan certificate plan = grind (arith, same-head, whole-split, front-same, lines-clean, clean-body, length-map, goes-on, small)

  front-split : bytes ≡ text_of (lines_of_head version from pending first size ++ map (run_line version) runs) ++ after
  front-split = grind (arith, append_assoc, text_of-append)

  abbrev heads : List (List ℕ)
  heads = lines_of_head version from pending first size

  abbrev tail : List MaskRun
  tail = filling version (last_mask None runs) (first - from + size - total runs)

  front-begins : BeginsIn version bytes (5 + length runs)
  front-begins =
      filler-begins version from pending first size runs read.listed few bytes (lines_of_head version from pending first size ++ map (run_line version) runs) after
      (5 + length runs) head front-split (omega arith) lines-are
    where
      lines-are : heads ++ map (run_line version) runs ≡ take (5 + length runs) (heads ++ (map (run_line version) (runs ++ tail) ++ codes "end" ∷ []))
      lines-are = grind (arith, codes, map-append, append_assoc, length-map, take-append_seam)

  -- a line behind these runs that no plan has there
  body-wrong : (number : ℕ) → number ≡ 6 + length runs
      → ((more : List MaskRun) (later : List ℕ) → AreListed version (last_mask None runs) more → total runs + total more ≡ count
      → after ≡ get_or (lines_of_runs version more) 0 [] ++ 10 ∷ later → ⊥)
      → IsWrongIn version bytes number
  body-wrong number at none =
      record {
        count = 5 + length runs;
        at = omega arith;
        other = λ certificate plan.
            let of = of-plan certificate plan in
            let size = ap length of.are ∙ length-append runs of.more in
            wrong (begins-by version bytes certificate number plan.readable (omega arith) plan.text);
        before = front-begins;
        wrong = wrong;
      }
    where
      wrong : BeginsIn version bytes number → ⊥
      wrong begins = let back = behind number at begins in none back.more begins.rest back.listed back.count_is back.line

  -- no run that may follow
  wrong-run-of : (number : ℕ) → number ≡ 6 + length runs → total runs < count
      → ((run : MaskRun) (later : List ℕ) → MayFollow version (last_mask None runs) run → run.count ≤ count - total runs → after ≡ run_line version run ++ 10 ∷ later → ⊥)
      → IsWrongIn version bytes number
  wrong-run-of number at less none = body-wrong number at by
    where
      by : (more : List MaskRun) (later : List ℕ) → AreListed version (last_mask None runs) more → total runs + total more ≡ count
          → after ≡ get_or (lines_of_runs version more) 0 [] ++ 10 ∷ later → ⊥
      by [] later listed sum line = omega arith
      by (run ∷ more) later listed sum line = none run later listed.0 (omega arith) line

  -- no last line
  wrong-end-of : (number : ℕ) → number ≡ 6 + length runs → total runs ≡ count → ((later : List ℕ) → after ≡ codes "end" ++ 10 ∷ later → ⊥)
      → IsWrongIn version bytes number
  wrong-end-of number at all none = body-wrong number at by
    where
      by : (more : List MaskRun) (later : List ℕ) → AreListed version (last_mask None runs) more → total runs + total more ≡ count
          → after ≡ get_or (lines_of_runs version more) 0 [] ++ 10 ∷ later → ⊥
      by [] later listed sum line = none later line
      by (run ∷ more) later listed sum line = let some = listed.0.some in omega arith

  -- All runs and the last line were read

  module _ (all : total runs ≡ count) (tail : List ℕ) (ends : after ≡ codes "end" ++ 10 ∷ tail) where
    abbrev made : CertificateView
    made = view from pending first masks

    made-count : length masks ≡ count
    made-count = ap length read.are ∙ length-spread runs ∙ all

    made-length : length_of made ≡ size
    made-length = counted-length made size made-count

    made-readable : IsReadable version made
    made-readable = grind (arith, made-count, masks-below)

    made-runs : runs_in version made ≡ runs
    made-runs = ap (listed_runs version) read.are ∙ listed-spread version runs read.listed

    body-is : rest ≡ text_of (lines_of_runs version runs) ++ tail
    body-is = front-more rest (map (run_line version) runs) after (codes "end") tail read.read ends

    made-is : bytes ≡ text_in version made ++ tail
    made-is = grind (arith, made-length, body-is, made-runs, append_assoc, whole-split)

    plan-runs : (certificate : CertificateView) → IsPlanIn version bytes certificate → (runs_in version certificate ≡ runs) × (tail ≡ [])
    plan-runs certificate plan =
        let of = of-plan certificate plan in
        grind (arith, all-there, append-nil, codes, lines-behind, same_line, literal-clean)

    wrong-behind-of : (number : ℕ) → number ≡ 7 + length runs → (tail ≡ [] → ⊥) → IsWrongIn version bytes number
    wrong-behind-of number at some =
        let lines = count-lines version made in
        let size = ap length made-runs in
        record {
          count = 6 + length runs;
          at = omega arith;
          other = λ certificate plan. some (plan-runs certificate plan).1;
          before = record {
            certificate = made;
            readable = made-readable;
            within = omega arith;
            rest = tail;
            split = made-is ∙ ap (λ l. text_of l ++ tail) (sym (take_all (6 + length runs) (plan_lines version made) (omega arith)));
          };
          wrong = λ begins.
              let next : number ≡ 6 + length runs + 1 = omega arith in
              let back = behind (6 + length runs) refl (begins-less version bytes (6 + length runs) number next begins) in
              let none = none-left version (last_mask None runs) back.more back.listed (let sum = back.count_is in omega arith) in
              let same = ap length back.are ∙ length-append runs back.more in
              let empty = ap length none in
              let its = count-lines version begins.certificate in
              absurd (omega arith);
        }

    made-back : (certificate : CertificateView) → IsPlanIn version bytes certificate → made ≡ certificate
    made-back certificate plan =
        let of = of-plan certificate plan in
        grind (arith, plan-runs, spread-listed, view-same)

-- The same without modules

abbrev behind_first : Version → ℕ → ℕ → ℕ → ℕ → List (List ℕ)
behind_first version from pending first size =
    (codes "from " ++ decimal from)
    ∷ ((codes "pending " ++ mask_digits pending)
    ∷ ((codes "first " ++ decimal first)
    ∷ ((codes "length " ++ decimal size)
    ∷ [])))

begun-by : (version : Version) (bytes : List ℕ) (from pending first size : ℕ) (rest : List ℕ) → bytes ≡ text_of (lines_of_head version from pending first size) ++ rest
    → bytes ≡ first_line version ++ 10 ∷ (text_of (behind_first version from pending first size) ++ rest)
begun-by version bytes from pending first size rest is = is ∙ text-cons (first_line version) (behind_first version from pending first size) rest

pub wrong-run : (version : Version) (bytes : List ℕ) (from pending first size : ℕ) (rest : List ℕ) → IsReadableHead version from pending first size
    → bytes ≡ text_of (lines_of_head version from pending first size) ++ rest → (count number : ℕ) → count ≡ first - from + size
    → IsWrongRun version rest count number → IsFirstWrongLine bytes number
wrong-run version bytes from pending first size rest head is count number counted wrong =
    let few : total wrong.runs ≤ first - from + size = omega arith in
    first-wrong version bytes (text_of (behind_first version from pending first size) ++ rest) number (begun-by version bytes from pending first size rest is)
    (wrong-run-of version bytes from pending first size rest head is wrong.masks wrong.rest wrong.runs wrong.read few number wrong.at (omega arith)
    (λ run later may less line. wrong.none run later may (omega arith) line))

pub wrong-end : (version : Version) (bytes : List ℕ) (from pending first size : ℕ) (rest : List ℕ) → IsReadableHead version from pending first size
    → bytes ≡ text_of (lines_of_head version from pending first size) ++ rest → (masks after : List ℕ) (number : ℕ)
    → IsBody version rest after masks (first - from + size) number
    → ((later : List ℕ) → after ≡ codes "end" ++ 10 ∷ later → ⊥) → IsFirstWrongLine bytes number
wrong-end version bytes from pending first size rest head is masks after number body none =
    let all = body.all in
    first-wrong version bytes (text_of (behind_first version from pending first size) ++ rest) number (begun-by version bytes from pending first size rest is)
    (wrong-end-of version bytes from pending first size rest head is masks after body.runs body.read (omega arith) number body.at all none)

pub wrong-behind : (version : Version) (bytes : List ℕ) (from pending first size : ℕ) (rest : List ℕ) → IsReadableHead version from pending first size
    → bytes ≡ text_of (lines_of_head version from pending first size) ++ rest → (masks after : List ℕ) (number : ℕ)
    → IsBody version rest after masks (first - from + size) number → (tail : List ℕ) → after ≡ codes "end" ++ 10 ∷ tail
    → (tail ≡ [] → ⊥) → IsFirstWrongLine bytes (number + 1)
wrong-behind version bytes from pending first size rest head is masks after number body tail ends some =
    let all = body.all in
    first-wrong version bytes (text_of (behind_first version from pending first size) ++ rest) (number + 1) (begun-by version bytes from pending first size rest is)
    (wrong-behind-of version bytes from pending first size rest head is masks after body.runs body.read (omega arith) all tail ends (number + 1) (omega arith) some)

-- what was read, where nothing follows the last line
pub record WasRead (bytes : List ℕ) (certificate : CertificateView) : Type 0 where
  pub plan : IsTextOfPlan bytes certificate
  pub readable : IsReadable Two certificate
  pub back : (other : CertificateView) → IsTextOfPlan bytes other → certificate ≡ other

-- version 2 names all slots
pub readable-wider : (version : Version) (certificate : CertificateView) → IsReadable version certificate → IsReadable Two certificate
readable-wider version certificate readable = grind arith

pub was-read : (version : Version) (bytes : List ℕ) (from pending first size : ℕ) (rest : List ℕ) → IsReadableHead version from pending first size
    → bytes ≡ text_of (lines_of_head version from pending first size) ++ rest → (masks after : List ℕ) (number : ℕ)
    → IsBody version rest after masks (first - from + size) number → (tail : List ℕ) → after ≡ codes "end" ++ 10 ∷ tail → tail ≡ []
    → (certificate : CertificateView) → certificate.from ≡ from → certificate.pending ≡ pending → certificate.first ≡ first → certificate.masks ≡ masks
    → WasRead bytes certificate
was-read version bytes from pending first size rest head is masks after number body tail ends none certificate one two three four =
    let all = body.all in
    let few : total body.runs ≤ first - from + size = omega arith in
    let readable = made-readable version bytes from pending first size rest head is masks after body.runs body.read few all tail ends in
    let begun = begun-by version bytes from pending first size rest is in
    let there : WasRead bytes (view from pending first masks) = record {
      plan = record {
        version = version;
        readable = readable;
        text = made-is version bytes from pending first size rest head is masks after body.runs body.read few all tail ends
            ∙ ap (λ t. text_in version (view from pending first masks) ++ t) none
            ∙ append-nil (text_in version (view from pending first masks));
      };
      readable = readable-wider version (view from pending first masks) readable;
      back = λ other plan.
          made-back version bytes from pending first size rest head is masks after body.runs body.read few all tail ends other
          (plan-in version bytes (text_of (behind_first version from pending first size) ++ rest) other begun plan);
    } in
    let P : CertificateView → Type 0 = λ c. WasRead bytes c in
    subst P (view-same certificate from pending first masks (sym one) (sym two) (sym three) (sym four)) there

-- a fault of the runs is one of the text
pub run-fault : (version : Version) (bytes rest : List ℕ) (count : ℕ) (fault : PlanTextFault) → IsRunFault version rest count fault
    → ((number : ℕ) → IsWrongRun version rest count number → IsFirstWrongLine bytes number) → IsTextFault bytes fault
run-fault version bytes rest cycles fault wrong text = grind (arith, wrong)

pub fault-back : (bytes : List ℕ) (fault : PlanTextFault) → IsTextFault bytes fault → (certificate : CertificateView) → IsTextOfPlan bytes certificate
    → fault ≡ Memory
fault-back bytes (Line number) wrong certificate plan = absurd (wrong.other certificate plan)
fault-back bytes Memory wrong certificate plan = refl
