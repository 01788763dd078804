-- What a reader of a wishes file has read: the rows so far say the start and these operations.
use Rattle.std.proofs.Common.{◌≡◌, ◌⊎◌, inl, inr, ap, ℕ, ◌+◌, ◌<◌, ◌≤◌, List, [], ◌∷◌, ◌++◌, length, length-append, map, All, Result, Ok, Err, IfErr, MatchResult, refl, sym, subst, arith, lit≤}
use Rattle.std.proofs.lemmas.List.{nil_from_length}
use Rattle.std.proofs.lemmas.List.Elements.{All-nil, All-push}
use Rattle.std.specs.Result.{IsErrAnd}
use Rattle.text_fields.specs.RecordReading.{ReadsOneRecord, ReadsRecords}
use Rattle.text_fields.specs.declared.records.RecordReader.{RecordReader}
use Rattle.text_fields.specs.CsvRows.{records_of, rows_of, trimmed}
use Rattle.text_fields.specs.RowByRow.{AreItems}
use Rattle.text_fields.proofs.Shared.{trimmed-more, trimmed-split}
use Rattle.elastic.specs.Combination.{HasFewChoices}
use Rattle.elastic.specs.WishRow.{Start, Operation, meaning, operation_of}
use Rattle.elastic.specs.WishesFile.{HasFileChoices, IsFaultOfRow, IsWishFault, ReadsStart, SayWish, wish_of}
use Rattle.elastic.specs.declared.wish.Wish.{Wish}
use Rattle.elastic.specs.declared.wish.WishOp.{WishOp}
use Rattle.elastic.specs.declared.wish_fault.WishWhy.TheVariants.{Word}
use Rattle.elastic.specs.declared.wish_fault.WishFault.{WishFault}
use Rattle.elastic.specs.declared.wish_fault.WishFault.TheVariants.{Row, Memory}
use Rattle.elastic.proofs.WishLines.{bad_operation, fault_computed, more_lines, no_operation, one_line, wish_computed}

pub record ReadsWish (bytes : List ℕ) (reader : RecordReader) (start : ℕ) (ops : List WishOp) : Type 0 where
  pub before : List (List (List ℕ))
  pub reads : ReadsRecords bytes reader before
  pub says : AreItems meaning (map (map trimmed) before) (Start start ∷ map Operation ops)
  pub few : length ops ≤ 16
  pub each : All HasFileChoices ops

pub reads_first : (bytes : List ℕ) (reader : RecordReader) (start : ℕ) → ReadsStart bytes reader start → ReadsWish bytes reader start []
reads_first bytes reader start first =
    record {
      before = first.fields ∷ [];
      reads = first.reads;
      says = one_line (map trimmed first.fields) start first.says;
      few = lit≤ tt;
      each = All-nil HasFileChoices;
    }

module _ (bytes : List ℕ) (before below : List (List (List ℕ))) (fields : List (List ℕ)) (start : ℕ) (ops : List WishOp)
    (says : AreItems meaning (map (map trimmed) before) (Start start ∷ map Operation ops)) (split : records_of bytes ≡ before ++ fields ∷ below) where
  pub fault_of_row : (above : ℕ) (fault : WishFault) → above ≡ length ops
      → IsFaultOfRow (above + 2) (operation_of above (map trimmed fields)) fault → IsWishFault (rows_of bytes) fault
  fault_of_row above (Row number why) is faulty =
      rw faulty.0 (rw is (bad_operation (rows_of bytes) (map (map trimmed) before) (map (map trimmed) below) start ops (map trimmed fields) why says
      (trimmed-split before fields bytes below split) (rw is at faulty.1)))
  fault_of_row above Memory is faulty = tt

-- a wish with an operation more
pub reads_more : (bytes : List ℕ) (old new : RecordReader) (start above : ℕ) (ops : List WishOp) (op : WishOp) (fields : List (List ℕ))
    → (so_far : ReadsWish bytes old start ops) → ReadsOneRecord bytes old new so_far.before fields → above ≡ length ops
    → operation_of above (map trimmed fields) ≡ Ok op → above < 16 → HasFileChoices op
    → ReadsWish bytes new start (ops ++ op ∷ [])
reads_more bytes old new start above ops op fields so_far read is says few choices =
    record {
      before = so_far.before ++ fields ∷ [];
      reads = read.reads;
      says = rw (trimmed-more so_far.before fields) (more_lines (map (map trimmed) so_far.before) start ops (map trimmed fields) op so_far.says (rw is at says));
      few = omega (arith, length-append ops (op ∷ []), few, is);
      each = All-push HasFileChoices ops op so_far.each choices;
    }

-- all rows were read

module _ (bytes : List ℕ) (before : List (List (List ℕ))) (start : ℕ) (ops : List WishOp)
    (says : AreItems meaning (map (map trimmed) before) (Start start ∷ map Operation ops)) (all : records_of bytes ≡ before) where
  pub none_read : length ops ≡ 0 → IsWishFault (rows_of bytes) (Row 2 Word)
  none_read none =
      let same : ops ≡ [] = nil_from_length ops none in
      let rows : rows_of bytes ≡ map (map trimmed) before = ap (map (map trimmed)) all in
      no_operation (rows_of bytes) start (rw (rows, ap (map Operation) (sym same)) says)

  pub wish_read : 1 ≤ length ops → SayWish (rows_of bytes) (record { start = start; ops = ops })
  wish_read some = record { each = rw (ap (map (map trimmed)) all) says; some = some }

-- few choices are as few as a choice wants
pub few_choices : (ops : List WishOp) → All HasFileChoices ops → All HasFewChoices ops
few_choices ops all = λ k d inside. omega (arith, (all k d inside).1)

-- what is computed of a file

pub fault_is : (bytes : List ℕ) (fault : WishFault) → IsWishFault (rows_of bytes) fault → (fault ≡ Memory) ⊎ (wish_of bytes ≡ Err fault)
unfolding wish_of
fault_is bytes (Row number why) faulty = inr (fault_computed (rows_of bytes) number why faulty)
fault_is bytes Memory faulty = inl refl

pub wish_is : (bytes : List ℕ) (wish : Wish) → SayWish (rows_of bytes) wish → wish_of bytes ≡ Ok wish
unfolding wish_of
wish_is bytes wish say = wish_computed (rows_of bytes) wish say

-- at the exit of a `?`

pub passes_on : {T : Type 0} (result : Result T WishFault) (P : WishFault → Type 0) (fault : WishFault) → IsErrAnd result (λ e. e ≡ fault) → P fault → IfErr result P
passes_on (Ok value) P fault is holds = absurd is
passes_on (Err e) P fault is holds = subst P (sym is) holds

pub passes_value : {T : Type 0} (Q : T → Type 0) (bytes : List ℕ) (result : Result T WishFault) (fault : WishFault) → IsErrAnd result (λ e. e ≡ fault)
    → IsWishFault (rows_of bytes) fault → MatchResult result Q (λ e. (e ≡ Memory) ⊎ (wish_of bytes ≡ Err e))
passes_value Q bytes (Ok value) fault is faulty = absurd is
passes_value Q bytes (Err e) fault is faulty = fault_is bytes e (subst (IsWishFault (rows_of bytes)) (sym is) faulty)
