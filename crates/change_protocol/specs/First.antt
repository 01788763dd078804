-- The first of the rules that are broken.
use Rattle.std.specs.Prelude.{◌≡◌, Some, List, slice_get}
use Rattle.change_protocol.specs.declared.malformed.Why.{Why}
use Rattle.change_protocol.specs.declared.malformed.ApplyFault.{ApplyFault}
use Rattle.change_protocol.specs.declared.malformed.ApplyFault.TheVariants.{Malformed, Memory}
use Rattle.change_protocol.specs.Malformed.{Broken, broken}

-- the rule is the first of these
pub record IsFirst (whys : List Why) (why : Why) : Type 0 where
  pub first : slice_get whys 0 ≡ Some why

-- the fault names the first of these
abbrev pub NamesFirst : List Broken → ApplyFault → Type 0
NamesFirst faults (Malformed op why) = slice_get faults 0 ≡ Some (broken op why)
NamesFirst faults Memory = ⊥
