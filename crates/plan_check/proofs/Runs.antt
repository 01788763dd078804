-- Runs of masks: the runs of a list are what the version lists, and what it lists are the runs of a list.
use Rattle.std.proofs.Common.{◌≡◌, ◌≢◌, ℕ, zero, suc, ◌+◌, ◌-◌, ◌<◌, ◌≤◌, true, nat_eq, List, [], ◌∷◌, ◌++◌, All, Option, Some, None, drop, get_or, length, map, replicate, refl, sym, ap, ◌∙◌, subst, arith, append_assoc}
use Rattle.std.proofs.lemmas.Bool.{eqb-true, eq-eqb}
use Rattle.std.proofs.lemmas.List.{get_or_default, length-append, length-replicate}
use Rattle.std.proofs.lemmas.List.Elements.{All-append, All-head, All-nil, All-replicate, All-tail}
use Rattle.std.proofs.Math.Seq.{drop-cons, drop-length}
use Rattle.plan_check.specs.declared.plan_runs.MaskRun.{MaskRun}
use Rattle.plan_check.specs.declared.plan_runs.Version.{Version}
use Rattle.plan_check.specs.declared.plan_runs.Version.TheVariants.{One, Two}
use Rattle.plan_check.specs.PlanText.{AreListed, joined, last_mask, listed_runs, mask_bound, runs_of, spread, total}

pub few-masks : (version : Version) (m : ℕ) → m < 2 → m < mask_bound version
few-masks version m small = grind arith

abbrev pub single : ℕ → MaskRun
single mask = record { mask = mask; count = 1 }

-- Runs one behind the other

pub listed-append : (version : Version) (last : Option ℕ) (runs more : List MaskRun) → AreListed version last runs → AreListed version (last_mask last runs) more
    → AreListed version last (runs ++ more)
listed-append version last [] more front back = back
listed-append version last (run ∷ runs) more front back = (front.0, listed-append version (Some run.mask) runs more front.1 back)

pub listed-behind : (version : Version) (last : Option ℕ) (runs more : List MaskRun) → AreListed version last (runs ++ more) → AreListed version (last_mask last runs) more
listed-behind version last [] more all = all
listed-behind version last (run ∷ runs) more all = listed-behind version (Some run.mask) runs more all.1

pub total-append : (runs more : List MaskRun) → total (runs ++ more) ≡ total runs + total more
total-append [] more = let none : total more ≡ 0 + total more = omega arith in none
total-append (run ∷ runs) more = let rest = total-append runs more in omega arith

pub spread-append : (runs more : List MaskRun) → spread (runs ++ more) ≡ spread runs ++ spread more
spread-append [] more = refl
spread-append (run ∷ runs) more =
    ap (λ l. replicate run.count run.mask ++ l) (spread-append runs more) ∙ sym (append_assoc (replicate run.count run.mask) (spread runs) (spread more))

pub length-spread : (runs : List MaskRun) → length (spread runs) ≡ total runs
length-spread [] = refl
length-spread (run ∷ runs) =
    let rest = length-spread runs in
    grind (arith, replicate, length-replicate, length-append)

pub last-append : (last : Option ℕ) (runs : List MaskRun) (run : MaskRun) → last_mask last (runs ++ run ∷ []) ≡ Some run.mask
last-append last [] run = refl
last-append last (other ∷ runs) run = last-append (Some other.mask) runs run

pub masks-below : (version : Version) (last : Option ℕ) (runs : List MaskRun) → AreListed version last runs → All (λ m. m < mask_bound version) (spread runs)
masks-below version last [] listed = All-nil (λ m. m < mask_bound version)
masks-below version last (run ∷ runs) listed =
    All-append (λ m. m < mask_bound version) (replicate run.count run.mask) (spread runs)
    (All-replicate (λ m. m < mask_bound version) run.count run.mask listed.0.below)
    (masks-below version (Some run.mask) runs listed.1)

-- no cycle is left for runs behind these
pub none-left : (version : Version) (last : Option ℕ) (runs : List MaskRun) → AreListed version last runs → total runs ≡ 0 → runs ≡ []
none-left version last [] listed none = refl
none-left version last (run ∷ runs) listed none = let some = listed.0.some in absurd (omega arith)

-- What a list of masks has as its runs

spread-joined : (mask : ℕ) (runs : List MaskRun) → spread (joined mask runs) ≡ mask ∷ spread runs
spread-joined mask runs = grind (arith, eqb-true, replicate)

listed-joined : (mask : ℕ) (runs : List MaskRun) → mask < mask_bound Two → AreListed Two None runs → AreListed Two None (joined mask runs)
listed-joined mask runs small listed = grind (arith, eqb-true, eq-eqb)

pub spread-listed : (version : Version) (masks : List ℕ) → spread (listed_runs version masks) ≡ masks
unfolding runs_of
spread-listed One [] = refl
spread-listed One (mask ∷ masks) = ap (λ l. mask ∷ l) (spread-listed One masks)
spread-listed Two [] = refl
spread-listed Two (mask ∷ masks) = spread-joined mask (runs_of masks) ∙ ap (λ l. mask ∷ l) (spread-listed Two masks)

listed-one : (last : Option ℕ) (masks : List ℕ) → All (λ m. m < mask_bound One) masks → AreListed One last (listed_runs One masks)
listed-one last [] small = tt
listed-one last (mask ∷ masks) small =
    let P : ℕ → Type 0 = λ m. m < mask_bound One in
    (record { below = All-head P mask masks small; some = omega arith; follows = refl }, listed-one (Some mask) masks (All-tail P mask masks small))

listed-two : (masks : List ℕ) → All (λ m. m < mask_bound Two) masks → AreListed Two None (runs_of masks)
unfolding runs_of
listed-two [] small = tt
listed-two (mask ∷ masks) small =
    let P : ℕ → Type 0 = λ m. m < mask_bound Two in
    listed-joined mask (runs_of masks) (All-head P mask masks small) (listed-two masks (All-tail P mask masks small))

pub listed-are : (version : Version) (masks : List ℕ) → All (λ m. m < mask_bound version) masks → AreListed version None (listed_runs version masks)
listed-are version masks small = grind (arith, listed-one, listed-two)

-- the runs have as many cycles as there are masks
pub total-listed : (version : Version) (masks : List ℕ) → total (listed_runs version masks) ≡ length masks
total-listed version masks = sym (length-spread (listed_runs version masks)) ∙ ap length (spread-listed version masks)

-- What is listed are the runs of the masks

-- the first run has another mask
abbrev IsOther : ℕ → List MaskRun → Type 0
IsOther mask [] = Unit {0}
IsOther mask (run ∷ runs) = mask ≢ run.mask

joined-other : (mask : ℕ) (runs : List MaskRun) → IsOther mask runs → joined mask runs ≡ single mask ∷ runs
joined-other mask runs other = grind (arith, eqb-true)

abbrev pub run_with : ℕ → ℕ → MaskRun
run_with mask count = record { mask = mask; count = count }

joined-same : (mask count : ℕ) (runs : List MaskRun) → joined mask (run_with mask count ∷ runs) ≡ run_with mask (count + 1) ∷ runs
joined-same mask count runs = let same : nat_eq mask mask ≡ true = eq-eqb mask mask refl in rw same refl

pub runs-of_run : (count mask : ℕ) (masks : List ℕ) → IsOther mask (runs_of masks) → 1 ≤ count
    → runs_of (replicate count mask ++ masks) ≡ run_with mask count ∷ runs_of masks
unfolding runs_of
runs-of_run zero mask masks other some = absurd (omega arith)
runs-of_run (suc zero) mask masks other some = joined-other mask (runs_of masks) other
runs-of_run (suc (suc count)) mask masks other some =
    let next : suc count + 1 ≡ suc (suc count) = omega arith in
    ap (joined mask) (runs-of_run (suc count) mask masks other (omega arith))
    ∙ joined-same mask (suc count) (runs_of masks)
    ∙ ap (λ n. run_with mask n ∷ runs_of masks) next

-- The run that begins at a place of a list

other-joined : (mask x : ℕ) (runs : List MaskRun) → mask ≢ x → IsOther mask (joined x runs)
other-joined mask x runs other = grind arith

other-runs : (mask x : ℕ) (masks : List ℕ) → mask ≢ x → IsOther mask (runs_of (x ∷ masks))
unfolding runs_of
other-runs mask x masks other = other-joined mask x (runs_of masks) other

runs-of_nothing : (mask : ℕ) → IsOther mask (runs_of [])
unfolding runs_of
runs-of_nothing mask = tt

item-cons : (masks : List ℕ) (k x : ℕ) → k < length masks → x ≡ get_or masks k x → drop k masks ≡ x ∷ drop (k + 1) masks
item-cons masks k x within is = grind (arith, drop-cons)

replicate-more : (n m : ℕ) (rest : List ℕ) → replicate n m ++ m ∷ rest ≡ replicate (suc n) m ++ rest
replicate-more zero m rest = refl
replicate-more (suc n) m rest = ap (λ l. m ∷ l) (replicate-more n m rest)

module _ (masks : List ℕ) (start place m first : ℕ) (some : start < place) (first_is : m ≡ first) (at : first ≡ get_or masks start first)
    (within : start < length masks) (run : drop start masks ≡ replicate (place - start) m ++ drop place masks) where
  run-by : IsOther m (runs_of (drop place masks))
      → runs_of (drop start masks) ≡ run_with (get_or masks start 0) (place - start) ∷ runs_of (drop place masks)
  run-by other = grind (arith, get_or_default, runs-of_run)

  pub run-ends : (x : ℕ) → place < length masks → x ≡ get_or masks place x → (x ≡ m → ⊥)
      → runs_of (drop start masks) ≡ run_with (get_or masks start 0) (place - start) ∷ runs_of (drop place masks)
  run-ends x inside is other =
      let P : List ℕ → Type 0 = λ l. IsOther m (runs_of l) in
      run-by (subst P (sym (item-cons masks place x inside is)) (other-runs m x (drop (place + 1) masks) (λ same. other (sym same))))

  pub run-all : place ≡ length masks
      → runs_of (drop start masks) ≡ run_with (get_or masks start 0) (place - start) ∷ runs_of (drop place masks)
  run-all all =
      let none : drop place masks ≡ [] = ap (λ k. drop k masks) all ∙ drop-length masks in
      let P : List ℕ → Type 0 = λ l. IsOther m (runs_of l) in
      run-by (subst P (sym none) (runs-of_nothing m))

  pub run-longer : (x : ℕ) → place < length masks → x ≡ get_or masks place x → x ≡ m
      → drop start masks ≡ replicate (place + 1 - start) m ++ drop (place + 1) masks
  run-longer x inside is same = grind (arith, replicate, item-cons, replicate-more)

-- the run of one mask
pub run-start : (masks : List ℕ) (start m first : ℕ) → start < length masks → m ≡ first → first ≡ get_or masks start first
    → drop start masks ≡ replicate (start + 1 - start) m ++ drop (start + 1) masks
run-start masks start m first within is at = grind (arith, item-cons, replicate)

pub no-runs : (masks : List ℕ) (k : ℕ) → length masks ≤ k → k ≤ length masks → runs_of (drop k masks) ≡ []
unfolding runs_of
no-runs masks k behind within =
    let all : k ≡ length masks = omega arith in
    ap (λ n. runs_of (drop n masks)) all ∙ ap runs_of (drop-length masks)

runs-two : (last : Option ℕ) (runs : List MaskRun) → AreListed Two last runs → runs_of (spread runs) ≡ runs
unfolding runs_of
runs-two last [] listed = refl
runs-two last (run ∷ runs) listed =
    let rest = runs-two (Some run.mask) runs listed.1 in
    grind (arith, runs-of_run)

runs-one : (last : Option ℕ) (runs : List MaskRun) → AreListed One last runs → listed_runs One (spread runs) ≡ runs
runs-one last [] listed = refl
runs-one last (run ∷ runs) listed =
    ap (λ n. map single (replicate n run.mask ++ spread runs)) listed.0.follows
    ∙ ap (λ n. run_with run.mask n ∷ map single (spread runs)) (sym listed.0.follows)
    ∙ ap (λ l. run ∷ l) (runs-one (Some run.mask) runs listed.1)

pub listed-spread : (version : Version) (runs : List MaskRun) → AreListed version None runs → listed_runs version (spread runs) ≡ runs
listed-spread version runs listed = grind (arith, runs-one, runs-two)

-- Runs of so many cycles that may follow

pub other_mask : Option ℕ → ℕ
other_mask None = 0
other_mask (Some zero) = 1
other_mask (Some (suc mask)) = 0

abbrev pub filling : Version → Option ℕ → ℕ → List MaskRun
filling One last n = map single (replicate n 0)
filling Two last zero = []
filling Two last (suc n) = run_with (other_mask last) (suc n) ∷ []

filled-one : (last : Option ℕ) (n : ℕ) → AreListed One last (map single (replicate n 0))
filled-one last zero = tt
filled-one last (suc n) = (record { below = omega arith; some = omega arith; follows = refl }, filled-one (Some 0) n)

filled-two : (last : Option ℕ) (n : ℕ) → AreListed Two last (filling Two last n)
unfolding other_mask
filled-two last zero = tt
filled-two None (suc n) = (record { below = omega arith; some = omega arith; follows = tt }, tt)
filled-two (Some zero) (suc n) = (record { below = omega arith; some = omega arith; follows = λ same. absurd (omega arith) }, tt)
filled-two (Some (suc mask)) (suc n) = (record { below = omega arith; some = omega arith; follows = λ same. absurd (omega arith) }, tt)

pub filling-listed : (version : Version) (last : Option ℕ) (n : ℕ) → AreListed version last (filling version last n)
filling-listed version last n = grind (arith, filled-one, filled-two)

pub filling-total : (version : Version) (last : Option ℕ) (n : ℕ) → total (filling version last n) ≡ n
filling-total One last zero = refl
filling-total One last (suc n) = let rest = filling-total One last n in omega arith
filling-total Two last zero = refl
filling-total Two last (suc n) = let none : suc n + 0 ≡ suc n = omega arith in none
