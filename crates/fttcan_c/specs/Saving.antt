-- The state of a master as bytes, and the master that is made of them.
use Rattle.std.specs.Prelude.{◌≡◌, ℕ, ◌+◌, ◌*◌, [], List, length, true}
use Rattle.trigger_kind.specs.Kind.{IsSlots}
use Rattle.master_core.specs.Cores.{CoreView, IsCore, saved_of}
use Rattle.saved_state.specs.Bytes.{AreBytesOf}
use Rattle.master_handle.specs.declared.held.HandleContent.{HandleContent}
use Rattle.master_handle.specs.declared.held.HandleContent.TheVariants.{Master}
use Rattle.c_values.specs.declared.refusal.ExportRefusal.{ExportRefusal}
use Rattle.c_values.specs.declared.refusal.ExportRefusal.TheVariants as refused

-- the bytes are those of what is saved of this core, which misses no deadline at any later cycle, and of no other one
pub record AreBytesOfCore (bytes : List ℕ) (core : CoreView) : Type 0 where
  pub safe : IsCore core
  pub bytes_are : AreBytesOf (saved_of core) bytes
  pub count : length bytes ≡ 112 + 80 * length core.placed
  pub only : (other : CoreView) → IsCore other → AreBytesOf (saved_of other) bytes → other ≡ core

-- so they are those of a master
pub record HasMasterBytes (bytes : List ℕ) (held : HandleContent) : Type 0 where
  pub core : CoreView
  pub trail : List ℕ
  pub is : held ≡ Master core trail
  pub of : AreBytesOfCore bytes core

-- a core that a master for C can have
pub record IsForC (core : CoreView) : Type 0 where
  -- it keeps at most 4,096 entries
  pub forgets : core.forgets ≡ true
  pub slots : IsSlots core.rules.slots

-- what is saved of such a core has these bytes
pub record IsSavedAs (bytes : List ℕ) (core : CoreView) : Type 0 where
  -- no deadline is missed at any later cycle
  pub safe : IsCore core
  pub for_c : IsForC core
  pub bytes_are : AreBytesOf (saved_of core) bytes

-- the bytes are those of this core and of no other one
pub record IsCoreOfBytes (bytes : List ℕ) (core : CoreView) : Type 0 where
  pub saved : IsSavedAs bytes core
  pub only : (other : CoreView) → IsCore other → AreBytesOf (saved_of other) bytes → other ≡ core

-- a master was made of them, which was asked for nothing yet
pub record IsRestored (bytes : List ℕ) (held : HandleContent) : Type 0 where
  pub core : CoreView
  pub is : held ≡ Master core []
  pub of : IsCoreOfBytes bytes core

-- why no master is made of bytes: no core has them; want of memory says nothing
abbrev pub RefusesRestore : List ℕ → ExportRefusal → Type 0
RefusesRestore bytes refused.Memory = Unit {0}
RefusesRestore bytes refused.Argument = ⊥
RefusesRestore bytes refused.Table = ⊥
RefusesRestore bytes refused.State = ⊥
RefusesRestore bytes refused.Room = ⊥
RefusesRestore bytes refused.Miss = ⊥
RefusesRestore bytes refused.Closed = ⊥
RefusesRestore bytes refused.Open = ⊥
RefusesRestore bytes refused.Text = (core : CoreView) → IsSavedAs bytes core → ⊥
RefusesRestore bytes refused.No = ⊥
