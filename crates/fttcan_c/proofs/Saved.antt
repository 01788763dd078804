-- The core of a saved state is saved as that state again, and the bytes of what is saved of a core are those of no other.
use Rattle.std.proofs.Common.{◌≡◌, ℕ, ◌+◌, ◌*◌, length, Bool, true, false, List, Option, Some, None, refl, sym, ap, ◌∙◌, subst, true≢false}
use Rattle.std.specs.Prelude.{is_some, not, if◌then◌else◌}
use Rattle.trigger_kind.specs.Kind.{IsSlots}
use Rattle.requirement_table.specs.declared.entries.Placed.{Placed}
use Rattle.master_core.specs.Cores.{CoreView, IsCore, core_of, saved_of}
use Rattle.master_core.specs.declared.saved.Saved.{Saved}
use Rattle.saved_state.specs.Bytes.{AreBytesOf}
use Rattle.fttcan_c.specs.Saving.{AreBytesOfCore, IsCoreOfBytes}

is-true : (b : Bool) → not b ≡ false → b ≡ true
is-true true e = refl
is-true false e = absurd (true≢false e)

learns-again : (learns : Bool) (placed : List Placed) → is_some (if learns then Some placed else None) ≡ learns
learns-again true placed = refl
learns-again false placed = refl

saved-again : (saved : Saved) → saved_of (core_of saved) ≡ saved
saved-again saved = ap (λ (l : Bool). record saved { learns = l }) (learns-again saved.learns saved.placed)

abbrev core-in : CoreView → Option CoreView → CoreView
core-in core None = core
core-in core (Some other) = other

-- so a core that was made of the state that has these bytes has them
pub core_of_bytes : (bytes : List ℕ) (saved : Saved) (core : CoreView) → AreBytesOf saved bytes
    → ((other : Saved) → AreBytesOf other bytes → other ≡ saved) → not saved.forgets ≡ false → IsSlots saved.rules.slots
    → (core ≡ core_of saved) × IsCore core
    → ((other : CoreView) → IsCore other → saved ≡ saved_of other → Some core ≡ Some other) → IsCoreOfBytes bytes core
core_of_bytes bytes saved core are only forgets slots made complete =
    let again : saved_of core ≡ saved = ap saved_of made.0 ∙ saved-again saved in
    record {
      saved = record {
        safe = made.1;
        for_c = record {
          forgets = ap (λ (s : Saved). s.forgets) again ∙ is-true saved.forgets forgets;
          slots = subst (λ (s : Saved). IsSlots s.rules.slots) (sym again) slots;
        };
        bytes_are = subst (λ (s : Saved). AreBytesOf s bytes) (sym again) are;
      };
      only = λ other is bytes-are.
          sym (ap (core-in core) (complete other is (sym (only (saved_of other) bytes-are))));
    }

-- the bytes of what is saved of a core are those of no other one
pub bytes_of_one : ((one other : CoreView) (bytes : List ℕ) → IsCore one → IsCore other → AreBytesOf (saved_of one) bytes
    → AreBytesOf (saved_of other) bytes → one ≡ other) → (bytes : List ℕ) (saved : Saved) (core : CoreView) → saved ≡ saved_of core
    → IsCore core → AreBytesOf saved bytes → length bytes ≡ 112 + 80 * length saved.placed → AreBytesOfCore bytes core
bytes_of_one law bytes saved core same is are count =
    let are_so : AreBytesOf (saved_of core) bytes = subst (λ (s : Saved). AreBytesOf s bytes) same are in
    record {
      safe = is;
      bytes_are = are_so;
      count = subst (λ (s : Saved). length bytes ≡ 112 + 80 * length s.placed) same count;
      only = λ other also too. law other core bytes also is too are_so;
    }
