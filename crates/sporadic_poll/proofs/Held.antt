-- An entry's instance that may be sent in a cycle is the one of its slot, wherever the entry stands.
use Rattle.std.proofs.Common.{◌≡◌, ℕ, ◌≤◌, Option, None, Some, List, sym, ap, ◌∙◌, subst}
use Rattle.std.specs.List.{slice_get}
use Rattle.std.specs.Prelude.{IfSome}
use Rattle.std.specs.Option.{option_map}
use Rattle.requirement_table.specs.declared.entries.Placed.{Placed}
use Rattle.requirement_table.specs.Table.{IsWellPlaced, instance_in}
use Rattle.requirement_table.proofs.Shared.{instance_in-found}
use Rattle.sporadic_poll.specs.Current.{IsCurrentBy, current_of}
use Rattle.sporadic_poll.specs.declared.current.Current.{Current}

pub held-by : (placed : List Placed) → IsWellPlaced placed → (i slot c : ℕ) (p : Placed) (current : Current) → slice_get placed i ≡ Some p
    → IsCurrentBy slot c p current → Some current ≡ option_map current_of (instance_in placed slot c)
held-by placed well i slot c p current at by =
    let found = instance_in-found placed well i by.number c p at by.sends in
    ap (λ x. Some x) by.is
    ∙ sym (ap (option_map current_of) (subst (λ s. instance_in placed s c ≡ Some (record { placed = p; number = by.number })) by.own found))

pub released-by : (slot c : ℕ) (p : Placed) (current : Current) → IsCurrentBy slot c p current → current.release ≤ c
released-by slot c p current by = subst (λ (x : Current). x.release ≤ c) (sym by.is) by.sends.released

-- the same of what was found, if anything was
module _ (placed : List Placed) (well : IsWellPlaced placed) (i slot c : ℕ) (p : Placed) (at : slice_get placed i ≡ Some p) where
  pub held-all : (found : Option Current) → IfSome found (IsCurrentBy slot c p)
      → IfSome found (λ current. Some current ≡ option_map current_of (instance_in placed slot c))
  held-all None by = tt
  held-all (Some current) by = held-by placed well i slot c p current at by

pub released-all : (slot c : ℕ) (p : Placed) (found : Option Current) → IfSome found (IsCurrentBy slot c p)
    → IfSome found (λ current. current.release ≤ c)
released-all slot c p None by = tt
released-all slot c p (Some current) by = released-by slot c p current by

pub few-all : (slot c : ℕ) (p : Placed) (found : Option Current) → IfSome found (IsCurrentBy slot c p)
    → IfSome found (λ current. current.length ≤ 8)
few-all slot c p None by = tt
few-all slot c p (Some current) by = by.few
