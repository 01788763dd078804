-- The rules that operations break, one operation after the other.
use Rattle.std.proofs.Common.{◌≡◌, ℕ, ◌+◌, ◌<◌, List, [], ◌∷◌, ◌++◌, length, length-take, get_or, take, drop, drop-cons, add-one, map, Option, Some, slice_get, ap, ◌∙◌, arith}
use Rattle.std.specs.Option.{option_map}
use Rattle.std.proofs.lemmas.List.{take_more}
use Rattle.requirement_table.specs.declared.entries.Placed.{Placed}
use Rattle.change_protocol.specs.declared.operations.Op.{Op}
use Rattle.change_protocol.specs.declared.malformed.Why.{Why}
use Rattle.change_protocol.specs.First.{IsFirst}
use Rattle.change_protocol.specs.Malformed.{Bounds, Broken, broken, op_faults, whys}

-- at a place within the operations, its faults stand first
faults-at : (placed : List Placed) (bounds : Bounds) (start : ℕ) (ops : List Op) (place : ℕ) (d : Op) → place < length ops
    → op_faults placed bounds start (take place ops) (drop place ops)
    ≡ map (broken place) (whys placed bounds start (take place ops) (get_or ops place d)) ++ op_faults placed bounds start (take (place + 1) ops) (drop (place + 1) ops)
faults-at placed bounds start ops place d within = grind (arith, length-take, drop-cons, take_more, add-one)

first-mapped : (whys : List Why) (rest : List Broken) (place : ℕ) (why : Why) → IsFirst whys why → slice_get (map (broken place) whys ++ rest) 0 ≡ Some (broken place why)
first-mapped [] rest place why is = absurd (let none = is.first in cc)
first-mapped (other ∷ whys) rest place why is = let same : Some other ≡ Some why = is.first in ap (λ (found : Option Why). option_map (broken place) found) same

-- the first rule that an operation breaks is the first of all
pub first-at : (placed : List Placed) (bounds : Bounds) (start : ℕ) (ops : List Op) (place : ℕ) (d : Op) (why : Why) → place < length ops
    → op_faults placed bounds start [] ops ≡ op_faults placed bounds start (take place ops) (drop place ops)
    → IsFirst (whys placed bounds start (take place ops) (get_or ops place d)) why
    → slice_get (op_faults placed bounds start [] ops) 0 ≡ Some (broken place why)
first-at placed bounds start ops place d why within so_far first =
    rw (so_far ∙ faults-at placed bounds start ops place d within)
    (first-mapped (whys placed bounds start (take place ops) (get_or ops place d)) (op_faults placed bounds start (take (place + 1) ops) (drop (place + 1) ops)) place why first)
