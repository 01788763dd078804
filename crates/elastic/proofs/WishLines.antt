-- What the rows of a wishes file say, and the first that says nothing.
use Rattle.std.proofs.Common.{◌≡◌, ℕ, ◌+◌, ◌≤◌, true, false, nat_lt, List, [], ◌∷◌, ◌++◌, length, map, Ok, Err, refl, ap, ◌∙◌, arith, append_assoc}
use Rattle.std.proofs.lemmas.Bool.Decides.{nat_tests}
use Rattle.std.proofs.lemmas.List.{append-nil, length-map, map-append}
use Rattle.csv.specs.Records.{field_at}
use Rattle.text_fields.specs.RowByRow.{AreItems, IsFirstFault, items_below}
use Rattle.text_fields.proofs.Shared.{all_items, first_fault, more_items, no_items}
use Rattle.elastic.specs.WishFields.{verb_of}
use Rattle.elastic.specs.WishRow.{WishLine, Start, Operation, meaning, operation_of, start_of}
use Rattle.elastic.specs.WishesFile.{SayWish, lacking, lines_of, operations_said, wish_of_rows, wish_or_fault}
use Rattle.elastic.specs.declared.wish.Wish.{Wish}
use Rattle.elastic.specs.declared.wish.WishOp.{WishOp}
use Rattle.elastic.specs.declared.wish_fault.WishWhy.{WishWhy}
use Rattle.elastic.specs.declared.wish_fault.WishWhy.TheVariants.{Word}
use Rattle.elastic.specs.declared.wish_fault.WishFault.TheVariants.{Row}

-- the first row

pub says_start : (row : List (List ℕ)) (start : ℕ) → start_of row ≡ Ok start → meaning [] row ≡ Ok (Start start)
unfolding meaning
says_start row start is = rw is refl

pub says_none : (row : List (List ℕ)) (why : WishWhy) → start_of row ≡ Err why → meaning [] row ≡ Err why
unfolding meaning
says_none row why is = rw is refl

-- a row below the first one

pub says_operation : (start : ℕ) (ops : List WishOp) (row : List (List ℕ)) (op : WishOp) → operation_of (length ops) row ≡ Ok op
    → meaning (Start start ∷ map Operation ops) row ≡ Ok (Operation op)
unfolding meaning
says_operation start ops row op is = rw (length-map ops Operation, is) refl

pub says_no_operation : (start : ℕ) (ops : List WishOp) (row : List (List ℕ)) (why : WishWhy) → operation_of (length ops) row ≡ Err why
    → meaning (Start start ∷ map Operation ops) row ≡ Err why
unfolding meaning
says_no_operation start ops row why is = rw (length-map ops Operation, is) refl

-- a row that is lacking

first_lacks : meaning [] [] ≡ Err Word
unfolding meaning start_of field_at
first_lacks = refl

other_lacks : (line : WishLine) → meaning (line ∷ []) [] ≡ Err Word
unfolding meaning operation_of verb_of field_at
other_lacks line = refl

-- the rows so far

pub one_line : (row : List (List ℕ)) (start : ℕ) → start_of row ≡ Ok start → AreItems meaning (row ∷ []) (Start start ∷ [])
one_line row start is = more_items meaning [] [] row (Start start) (no_items meaning) (says_start row start is)

pub more_lines : (rows : List (List (List ℕ))) (start : ℕ) (ops : List WishOp) (row : List (List ℕ)) (op : WishOp)
    → AreItems meaning rows (Start start ∷ map Operation ops) → operation_of (length ops) row ≡ Ok op
    → AreItems meaning (rows ++ row ∷ []) (Start start ∷ map Operation (ops ++ op ∷ []))
more_lines rows start ops row op before is =
    rw (map-append Operation ops (op ∷ [])) (more_items meaning rows (Start start ∷ map Operation ops) row (Operation op) before (says_operation start ops row op is))

-- faults

-- a fault stays one with more rows behind
stays : (rows more : List (List (List ℕ))) (number : ℕ) (why : WishWhy) → IsFirstFault meaning rows number why → IsFirstFault meaning (rows ++ more) number why
stays rows more number why fault =
    record {
      before = fault.before;
      row = fault.row;
      rest = fault.rest ++ more;
      above = fault.above;
      split = ap (λ all. all ++ more) fault.split ∙ append_assoc fault.before (fault.row ∷ fault.rest) more;
      numbered = fault.numbered;
      read = fault.read;
      faulty = fault.faulty;
    }

-- there is no row
pub no_rows : (rows : List (List (List ℕ))) → rows ≡ [] → IsFirstFault meaning (rows ++ lacking rows) 1 Word
no_rows rows none =
    record {
      before = [];
      row = [];
      rest = [];
      above = [];
      split = rw none refl;
      numbered = refl;
      read = no_items meaning;
      faulty = first_lacks;
    }

-- the first row says no start
pub bad_start : (rows below : List (List (List ℕ))) (row : List (List ℕ)) (why : WishWhy) → rows ≡ row ∷ below → start_of row ≡ Err why
    → IsFirstFault meaning (rows ++ lacking rows) 1 why
bad_start rows below row why split is =
    stays rows (lacking rows) 1 why
    record {
      before = [];
      row = row;
      rest = below;
      above = [];
      split = split;
      numbered = refl;
      read = no_items meaning;
      faulty = says_none row why is;
    }

-- there is no row below the first
pub no_operation : (rows : List (List (List ℕ))) (start : ℕ) → AreItems meaning rows (Start start ∷ []) → IsFirstFault meaning (rows ++ lacking rows) 2 Word
no_operation rows start are =
    let few : nat_lt (length rows) 2 ≡ true = grind (arith, nat_tests, are.as_many) in
    record {
      before = rows;
      row = [];
      rest = [];
      above = Start start ∷ [];
      split = rw few refl;
      numbered = omega (arith, are.as_many);
      read = are;
      faulty = other_lacks (Start start);
    }

-- a row below these says no operation
pub bad_operation : (rows above below : List (List (List ℕ))) (start : ℕ) (ops : List WishOp) (row : List (List ℕ)) (why : WishWhy)
    → AreItems meaning above (Start start ∷ map Operation ops) → rows ≡ above ++ row ∷ below → operation_of (length ops) row ≡ Err why
    → IsFirstFault meaning (rows ++ lacking rows) (length ops + 2) why
bad_operation rows above below start ops row why are split is =
    stays rows (lacking rows) (length ops + 2) why
    record {
      before = above;
      row = row;
      rest = below;
      above = Start start ∷ map Operation ops;
      split = split;
      numbered = omega (arith, are.as_many, length-map ops Operation);
      read = are;
      faulty = says_no_operation start ops row why is;
    }

-- what is computed

operations_are : (ops : List WishOp) → operations_said (map Operation ops) ≡ ops
operations_are [] = refl
operations_are (op ∷ ops) = ap (λ rest. op ∷ rest) (operations_are ops)

whole : (rows : List (List (List ℕ))) → 2 ≤ length rows → rows ++ lacking rows ≡ rows
whole rows some =
    let enough : nat_lt (length rows) 2 ≡ false = grind (arith, nat_tests, some) in
    rw enough (append-nil rows)

pub wish_computed : (rows : List (List (List ℕ))) (wish : Wish) → SayWish rows wish → wish_of_rows rows ≡ Ok wish
unfolding wish_of_rows
wish_computed rows wish say =
    let some : 2 ≤ length rows = omega (arith, say.each.as_many, length-map wish.ops Operation, say.some) in
    let items : items_below meaning [] (rows ++ lacking rows) ≡ Ok (lines_of wish)
    = ap (items_below meaning []) (whole rows some) ∙ all_items meaning rows (lines_of wish) say.each in
    ap wish_or_fault items ∙ ap (λ ops. Ok (record { start = wish.start; ops = ops })) (operations_are wish.ops)

pub fault_computed : (rows : List (List (List ℕ))) (number : ℕ) (why : WishWhy) → IsFirstFault meaning (rows ++ lacking rows) number why
    → wish_of_rows rows ≡ Err (Row number why)
unfolding wish_of_rows
fault_computed rows number why fault = ap wish_or_fault (first_fault meaning (rows ++ lacking rows) number why fault)
