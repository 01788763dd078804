-- The first of the rules that are broken.
use Rattle.std.proofs.Common.{◌≡◌, List, [], ◌∷◌, ◌++◌, Some, slice_get, refl}
use Rattle.change_protocol.specs.declared.malformed.Why.{Why}
use Rattle.change_protocol.specs.First.{IsFirst}

still_first : {A : Type 0} (front rest : List A) (x : A) → slice_get front 0 ≡ Some x → slice_get (front ++ rest) 0 ≡ Some x
still_first [] rest x e = absurd (cc)
still_first (other ∷ front) rest x e = e

-- the first of a front is the first of the whole
pub first_in_front : (front rest : List Why) (why : Why) → IsFirst front why → IsFirst (front ++ rest) why
first_in_front front rest why is = record { first = still_first front rest why is.first }

-- nothing in front
pub first_behind : (front rest : List Why) (why : Why) → front ≡ [] → IsFirst rest why → IsFirst (front ++ rest) why
first_behind front rest why none is = rw none is

-- nothing in both parts
pub none_in_both : {A : Type 0} (front rest : List A) → front ≡ [] → rest ≡ [] → front ++ rest ≡ []
none_in_both front rest e f = rw (e, f) refl
