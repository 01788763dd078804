-- What a pass knows, and how each call changes it.
use Rattle.std.specs.Prelude.{◌≡◌, ◌≢◌, ℕ, ◌+◌, ◌-◌, ◌*◌, ◌⊎◌, List, [], ◌∷◌, ◌++◌}
use Rattle.std.specs.Prelude.{length, true, false, cond, nat_le, Option, Some, None, Contains}
use mathlib.Core.List.{IsPrefix}
use Rattle.atomic_table.specs.Seated.{TableId}
use Rattle.turn_lock.specs.History.{own, added, HasEnded}
use Rattle.turn_lock.specs.declared.view.View.{View}

-- a lock: its table, and the fixed part of the values that stand in it
pub record Lock (F : Type 0) : Type 0 where
  pub table : TableId
  pub fixed : F

-- a pass: the table of its lock, and what it knows
pub record Known (E F : Type 0) : Type 0 where
  pub table : TableId
  pub view : View E F

-- the longer of two lists
abbrev pub longer : {E : Type 0} → List E → List E → List E
longer xs ys = cond (nat_le (length ys) (length xs)) xs ys

module _ {E F : Type 0} where
  -- a pass of that lock
  abbrev pub IsOfLock : Lock F → Known E F → Type 0
  IsOfLock lock pass = (pass.table ≡ lock.table) × (pass.view.fixed ≡ Some lock.fixed)

  -- a pass of that lock that holds no turn
  abbrev pub IsReady : Lock F → Known E F → Type 0
  IsReady lock pass = IsOfLock lock pass × (pass.view.found ≡ None)

  -- the pass, knowing something else
  abbrev pub knowing : Known E F → View E F → Known E F
  knowing pass view = record { table = pass.table; view = view }

  -- the first pass of a lock
  abbrev pub first_view : F → View E F
  first_view fixed = record {
    spent = false;
    found = None;
    number = 0;
    refused = 0;
    last = 0;
    made = 0;
    out = 0;
    fixed = Some fixed;
    seen = [];
    mine = [];
    ended = [];
    taken = [];
    met = [];
  }

  -- what is left of a pass that was joined
  abbrev pub spent_view : View E F
  spent_view = record {
    spent = true;
    found = None;
    number = 0;
    refused = 0;
    last = 0;
    made = 0;
    out = 0;
    fixed = None;
    seen = [];
    mine = [];
    ended = [];
    taken = [];
    met = [];
  }

  -- the turn was granted, and this list found
  abbrev pub granted : List E → View E F → View E F
  granted found v = record v { found = Some found; taken = v.taken ++ (v.number, length found) ∷ [] }

  -- the turn was held, and this word found
  abbrev pub refused : ℕ → View E F → View E F
  refused word v = record v { refused = v.refused + 1; last = word }

  -- the turn was let go with this list, which has the pass's entry behind the list that was found
  abbrev pub committed : List E → View E F → View E F
  committed entries v = record v { found = None; seen = entries; mine = v.mine ++ added v.found entries }

  -- the turn was let go with the list that was found
  abbrev pub given_back : List E → View E F → View E F
  given_back entries v = record v { found = None; seen = entries }

  -- one more pass was split from it
  abbrev pub split_from : View E F → View E F
  split_from v = record v { made = v.made + 1; out = v.out + 1 }

  -- the pass that was split from it
  abbrev pub split_off : View E F → View E F
  split_off v = record {
    spent = false;
    found = None;
    number = v.made + 1;
    refused = 0;
    last = 0;
    made = 0;
    out = 0;
    fixed = v.fixed;
    seen = v.seen;
    mine = [];
    ended = [];
    taken = [];
    met = [];
  }

  -- another pass was joined into it
  abbrev pub joined : View E F → View E F → View E F
  joined v w = record v {
    out = v.out - 1;
    seen = longer v.seen w.seen;
    ended = v.ended ++ (w.number, w.mine) ∷ [];
    taken = v.taken ++ w.taken;
    met = v.seen ∷ w.seen ∷ [];
  }

  -- each entry that was seen is the pass's own, or one of a pass that was joined into it
  abbrev pub IsCovered : View E F → Type 0
  IsCovered v = (e : E) → Contains v.seen e
      → Contains v.mine e ⊎ ((n : ℕ) × (entries : List E) × Contains v.ended (n, entries) × Contains entries e)

module _ {T E F : Type 0} (entries : T → List E) where
  -- the value stands for the list that was found
  abbrev pub IsFound : View E F → T → Type 0
  IsFound v value = v.found ≡ Some (entries value)

  -- the value stands for the list that was found with one entry behind it, which a pass of this number may make
  abbrev pub IsOneMore : (E → ℕ) → View E F → T → E → Type 0
  IsOneMore number v value e =
      (found : List E) × (v.found ≡ Some found) × (entries value ≡ found ++ e ∷ []) × (number e ≡ v.number)

-- what is true of every pass
pub record Facts {E F : Type 0} (number : E → ℕ) (v : View E F) : Type 0 where
  -- its own entries are all that it has seen with its number
  pub own_are : own number v.number v.seen ≡ v.mine
  -- the entries of a pass that was joined into it are all that it has seen with that number, which is another
  pub ended_are : (n : ℕ) (entries : List E) → Contains v.ended (n, entries)
      → (own number n v.seen ≡ entries) × (n ≢ v.number)
  -- what was split from it is out, or was joined into it
  pub counted : v.made ≡ v.out + length v.ended
  -- the lists that met in the last joining begin what it has seen
  pub met_begin : (xs : List E) → Contains v.met xs → IsPrefix xs v.seen
  -- where the first pass has none out, the number of each entry that it has seen is 0 or that of a pass that was joined
  pub covered : v.number ≡ 0 → v.out ≡ 0 → (n : ℕ) → n ≢ 0 → HasEnded v.ended n ⊎ (own number n v.seen ≡ [])
  -- the last word that refused it is odd
  pub odd : v.refused ≢ 0 → (k : ℕ) × (v.last ≡ 2 * k + 1)
  -- where the first pass has none out, a pass of another number was granted the turn at the length that refused it
  pub waited : v.number ≡ 0 → v.out ≡ 0 → v.refused ≢ 0
      → (n k : ℕ) × (n ≢ 0) × (v.last ≡ 2 * k + 1) × Contains v.taken (n, k)

-- the slots that a pass holds: the one slot, with nothing in it, while it holds the turn
abbrev pub carried : {T E : Type 0} → Option (List E) → List (ℕ × Option T)
carried None = []
carried (Some found) = (0, None) ∷ []
