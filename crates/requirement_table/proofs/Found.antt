-- An instance that is found in a well placed list.
use Rattle.std.proofs.Common.{◌≡◌, ℕ, Option, Some, None, IfSome, List, Contains, ap, ◌∙◌, subst}
use Rattle.std.proofs.lemmas.Option.{slice_get-get_or, same_Some}
use Rattle.std.proofs.lemmas.List.Elements.{All-contains}
use Rattle.requirement_table.specs.declared.entries.Placed.{Placed}
use Rattle.requirement_table.specs.Instance.{Instance, MaySend, instance_of}
use Rattle.requirement_table.specs.Table.{IsInRange, IsWellPlaced, instance_in}
use Rattle.requirement_table.proofs.Latest.{instance_of-sent}
use Rattle.requirement_table.proofs.SlotInstances.{instance_in-found, instance_in-sound}

-- what is known of an instance that is found in a well placed list
pub record IsFound (placed : List Placed) (slot c : ℕ) (i : Instance) : Type 0 where
  pub stands : Contains placed i.placed
  pub of_slot : i.placed.entry.slot ≡ slot
  pub sends : MaySend i.placed i.number c
  pub in_range : IsInRange i.placed
  pub number : instance_of i.placed c ≡ Some i.number

of-some : (o : Option Instance) (P : Instance → Type 0) (i : Instance) → o ≡ Some i → IfSome o P → P i
of-some (Some x) P i is holds = subst P (same_Some x i is) holds
of-some None P i is holds = absurd (cc)

pub found-in : (placed : List Placed) (slot c : ℕ) (i : Instance) → IsWellPlaced placed → instance_in placed slot c ≡ Some i → IsFound placed slot c i
found-in placed slot c i well found =
    let sound = of-some (instance_in placed slot c) (λ x. Contains placed x.placed × (x.placed.entry.slot ≡ slot) × MaySend x.placed x.number c) i found
    (instance_in-sound placed slot c) in
    let range = All-contains IsInRange placed i.placed well.in_range sound.0 in
    record {
      stands = sound.0;
      of_slot = sound.1;
      sends = sound.2;
      in_range = range;
      number = instance_of-sent i.placed i.number c range.entry.deadline sound.2;
    }

-- an entry of the list with an instance that may be sent is found
pub found-of : (placed : List Placed) (p : Placed) (k c : ℕ) → IsWellPlaced placed → Contains placed p → MaySend p k c
    → instance_in placed p.entry.slot c ≡ Some (record { placed = p; number = k })
found-of placed p k c well stands sends =
    instance_in-found placed well stands.0 k c p (slice_get-get_or placed stands.0 p stands.1 ∙ ap (λ q. Some q) stands.2) sends
