-- The text of a plan in its two versions: its lines, which certificates have one that is read back, and the first line
-- of a text that breaks the form.
use Rattle.std.specs.Prelude.{◌≡◌, ◌≢◌, ℕ, ◌+◌, ◌-◌, ◌^◌, ◌<◌, ◌≤◌, if◌then◌else◌, nat_eq, Bool, true, not}
use Rattle.std.specs.Prelude.{List, [], ◌∷◌, ◌++◌, All, Option, Some, None, IfSome, codes, get_or, length, map, replicate, take}
use Rattle.std.specs.Fmt.{decimal}
use Rattle.profile.specs.Limits.{cycles_end}
use Rattle.bit_sets.specs.Sets.{most_slots}
use Rattle.text_fields.specs.MaskText.{mask_digits}
use Rattle.plan_check.specs.declared.text_fault.PlanTextFault.{PlanTextFault}
use Rattle.plan_check.specs.declared.text_fault.PlanTextFault.TheVariants.{Line, Memory}
use Rattle.plan_check.specs.declared.plan_runs.MaskRun.{MaskRun}
use Rattle.plan_check.specs.declared.plan_runs.Version.{Version}
use Rattle.plan_check.specs.declared.plan_runs.Version.TheVariants.{One, Two}
use Rattle.plan_check.specs.Certificate.{CertificateView, length_of}

-- Runs: cycles one after the other that have the same mask

-- the runs with one more mask before them: it joins the first run, where that has the same mask
abbrev pub joined : ℕ → List MaskRun → List MaskRun
joined mask [] = record { mask = mask; count = 1 } ∷ []
joined mask (run ∷ runs) =
    if nat_eq mask run.mask then record { mask = mask; count = run.count + 1 } ∷ runs
    else record { mask = mask; count = 1 } ∷ (run ∷ runs)

-- the runs of a list of masks, each as long as it can be
unfoldable pub runs_of : List ℕ → List MaskRun
runs_of [] = []
runs_of (mask ∷ masks) = joined mask (runs_of masks)

-- the masks of a list of runs
abbrev pub spread : List MaskRun → List ℕ
spread [] = []
spread (run ∷ runs) = replicate run.count run.mask ++ spread runs

-- Versions

-- the numbers of the sets of slots that a version names are below this: version 1 names slots below 40 alone
abbrev pub mask_bound : Version → ℕ
mask_bound One = 2 ^ 40
mask_bound Two = 2 ^ most_slots

-- the first line
abbrev pub first_line : Version → List ℕ
first_line One = codes "fttcan plan 1"
first_line Two = codes "fttcan plan 2"

-- the runs that have a line each: in version 1 each cycle has one of its own
abbrev pub listed_runs : Version → List ℕ → List MaskRun
listed_runs One masks = map (λ mask. record { mask = mask; count = 1 }) masks
listed_runs Two masks = runs_of masks

-- what a version asks of a run behind one with that mask
abbrev pub FollowsRun : Version → Option ℕ → MaskRun → Type 0
FollowsRun One last run = run.count ≡ 1
FollowsRun Two last run = IfSome last (λ mask. mask ≢ run.mask)

-- a version lists such a run behind one with that mask
pub record MayFollow (version : Version) (last : Option ℕ) (run : MaskRun) : Type 0 where
  pub below : run.mask < mask_bound version
  pub some : 1 ≤ run.count
  pub follows : FollowsRun version last run

-- a version lists runs so behind one with that mask
abbrev pub AreListed : Version → Option ℕ → List MaskRun → Type 0
AreListed version last [] = Unit {0}
AreListed version last (run ∷ runs) = MayFollow version last run × AreListed version (Some run.mask) runs

-- the line of a run: version 1 gives the mask alone
abbrev pub run_line : Version → MaskRun → List ℕ
run_line One run = mask_digits run.mask
run_line Two run = mask_digits run.mask ++ codes " " ++ decimal run.count

-- The text

-- each line ends with one line feed
abbrev pub text_of : List (List ℕ) → List ℕ
text_of [] = []
text_of (line ∷ lines) = (line ++ 10 ∷ []) ++ text_of lines

-- the lines of a plan: the five before the masks, those of the masks, and the last one
abbrev pub lines_of_head : Version → ℕ → ℕ → ℕ → ℕ → List (List ℕ)
lines_of_head version from pending first length =
    first_line version
    ∷ ((codes "from " ++ decimal from)
    ∷ ((codes "pending " ++ mask_digits pending)
    ∷ ((codes "first " ++ decimal first)
    ∷ ((codes "length " ++ decimal length)
    ∷ []))))

abbrev pub head_lines : Version → CertificateView → List (List ℕ)
head_lines version certificate =
    lines_of_head version certificate.from certificate.pending certificate.first (length_of certificate)

abbrev pub lines_of_runs : Version → List MaskRun → List (List ℕ)
lines_of_runs version runs = map (run_line version) runs ++ codes "end" ∷ []

abbrev pub plan_lines : Version → CertificateView → List (List ℕ)
plan_lines version certificate =
    head_lines version certificate ++ lines_of_runs version (listed_runs version certificate.masks)

-- *The plan text* in a version
abbrev pub text_in : Version → CertificateView → List ℕ
text_in version certificate = text_of (plan_lines version certificate)

-- the text that is written
abbrev pub plan_text : CertificateView → List ℕ
plan_text certificate = text_in Two certificate

-- the certificate is in the ranges of the reader of a version
pub record IsReadable (version : Version) (certificate : CertificateView) : Type 0 where
  pub from : certificate.from < cycles_end
  pub pending : certificate.pending < mask_bound version
  pub first : certificate.first < cycles_end
  pub after : certificate.from ≤ certificate.first
  pub near : certificate.first ≤ certificate.from + 200000
  pub some : 1 ≤ length_of certificate
  pub few : length_of certificate ≤ 200000
  pub masks : All (λ mask. mask < mask_bound version) certificate.masks

-- the bytes are the text of the certificate in one of the versions
pub record IsTextOfPlan (bytes : List ℕ) (certificate : CertificateView) : Type 0 where
  pub version : Version
  pub readable : IsReadable version certificate
  pub text : bytes ≡ text_in version certificate

-- the text begins with the first `count` lines of the plan of a certificate in these ranges, in one of the versions
pub record BeginsAsPlan (bytes : List ℕ) (count : ℕ) : Type 0 where
  pub version : Version
  pub certificate : CertificateView
  pub readable : IsReadable version certificate
  pub within : count ≤ length (plan_lines version certificate)
  pub rest : List ℕ
  pub split : bytes ≡ text_of (take count (plan_lines version certificate)) ++ rest

-- the text is not that of a plan, and the line of this number, counted from 1, is the first one that breaks the form:
-- the lines before it begin a plan, and with it they don't
pub record IsFirstWrongLine (bytes : List ℕ) (number : ℕ) : Type 0 where
  pub count : ℕ
  pub at : number ≡ count + 1
  pub other : (certificate : CertificateView) → IsTextOfPlan bytes certificate → ⊥
  pub before : BeginsAsPlan bytes count
  pub wrong : BeginsAsPlan bytes number → ⊥

-- what a fault of the reader says
abbrev pub IsTextFault : List ℕ → PlanTextFault → Type 0
IsTextFault bytes (Line number) = IsFirstWrongLine bytes number
IsTextFault bytes Memory = Unit {0}

-- Words for contracts inside the crate

-- the four numbers of a head are in the ranges of the reader
pub record IsReadableHead (version : Version) (from pending first length : ℕ) : Type 0 where
  pub from_below : from < cycles_end
  pub pending_below : pending < mask_bound version
  pub first_below : first < cycles_end
  pub after : from ≤ first
  pub near : first ≤ from + 200000
  pub some : 1 ≤ length
  pub few : length ≤ 200000

-- how many cycles the runs have
abbrev pub total : List MaskRun → ℕ
total [] = 0
total (run ∷ runs) = run.count + total runs

-- the mask of the last run, or the one before the runs
abbrev pub last_mask : Option ℕ → List MaskRun → Option ℕ
last_mask last [] = last
last_mask last (run ∷ runs) = last_mask (Some run.mask) runs

-- these runs stand at the front of the text, and the masks are theirs
pub record AreRead (version : Version) (text rest masks : List ℕ) (runs : List MaskRun) : Type 0 where
  pub read : text ≡ text_of (map (run_line version) runs) ++ rest
  pub are : masks ≡ spread runs
  pub listed : AreListed version None runs

-- the masks of so many cycles were read, and the line behind them has this number
pub record IsBody (version : Version) (text rest masks : List ℕ) (count number : ℕ) : Type 0 where
  pub runs : List MaskRun
  pub read : AreRead version text rest masks runs
  pub all : total runs ≡ count
  pub at : number ≡ 6 + length runs

-- runs were read, of fewer cycles than `count`, and no line with a run that may follow stands behind them; the number
-- is that of this line
pub record IsWrongRun (version : Version) (text : List ℕ) (count number : ℕ) : Type 0 where
  pub runs : List MaskRun
  pub masks : List ℕ
  pub rest : List ℕ
  pub read : AreRead version text rest masks runs
  pub more : total runs < count
  pub none : (run : MaskRun) (after : List ℕ) → MayFollow version (last_mask None runs) run
      → run.count ≤ count - total runs → rest ≡ run_line version run ++ 10 ∷ after → ⊥
  pub at : number ≡ 6 + length runs

abbrev pub IsRunFault : Version → List ℕ → ℕ → PlanTextFault → Type 0
IsRunFault version text count (Line number) = IsWrongRun version text count number
IsRunFault version text count Memory = Unit {0}

-- no byte is a space
abbrev pub HasNoSpace : List ℕ → Type 0
HasNoSpace bytes = (i : ℕ) → i < length bytes → get_or bytes i 0 ≢ 32

-- version 1 has no counts
abbrev pub IsCountOf : Version → MaskRun → Type 0
IsCountOf One run = run.count ≡ 1
IsCountOf Two run = Unit {0}

-- the end of the numbers of a plan text: each number of a line is below it
abbrev pub numbers_end : ℕ
numbers_end = 2 ^ 42

-- a line of the version can give this run
pub record IsOfVersion (version : Version) (run : MaskRun) : Type 0 where
  pub below : run.mask < mask_bound version
  pub small : run.count < numbers_end
  pub one : IsCountOf version run

-- whether the version lists a run with this mask behind one with the mask `last`
abbrev pub is_other : Option ℕ → ℕ → Version → Bool
is_other last mask One = true
is_other None mask Two = true
is_other (Some last) mask Two = not (nat_eq last mask)
