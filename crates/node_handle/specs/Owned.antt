-- What a handle owns: nothing where it is empty, and else what a box of the value does.
use Rattle.std.specs.Prelude.{Option, Some, None}
use base.Fml.{Fml, feq, fex}
use denote.RattleType.{RattleType}
use denote.RawPtr.{Ptr, null_ptr}
use Rattle.std.specs.declared.alloc.Global.{Global}
use Rattle.std.specs.contracts.impls.GlobalAllocator.TheImpl.{ghosts}
use Rattle.std_alloc.specs.Box.Ownership.{box_owns}

-- the empty handle is the null pointer; else there is an allocator whose box has this pointer and this value
abbrev pub owned : (R : RattleType) → Ptr → Option R.Denot → Fml
owned R at None = feq Ptr at null_ptr
owned R at (Some value) = fex Global (λ alloc. box_owns (ghosts.dealloc_token alloc) R at value)
