-- What holds of a lock between any two steps. The word is twice the length of the history, plus one while the turn is
-- held. The value stands in the slot while the turn is free.
use Rattle.std.specs.Prelude.{◌≡◌, ◌≢◌, ℕ, ◌+◌, ◌*◌, ◌<◌, ◌⊎◌, List, [], ◌∷◌}
use Rattle.std.specs.Prelude.{length, slice_index, false, cond, Option, Some, None, Contains}
use mathlib.Core.Option.{some, none}
use mathlib.Core.List.{IsPrefix}
use lib.ListN.{get_elem?}
use Rattle.atomic_table.specs.Table.{State}
use Rattle.turn_lock.specs.History.{own, HasEnded}
use Rattle.turn_lock.specs.declared.view.View.{View}

module _ {E F : Type 0} where
  -- the pass of this number was made and not joined
  abbrev pub IsLivePass : List (View E F) → ℕ → Type 0
  IsLivePass views n = (v : View E F) × (get_elem? views n ≡ some v) × (v.spent ≡ false)

  -- how many passes were made and not joined
  abbrev pub count_live : List (View E F) → ℕ
  count_live [] = 0
  count_live (v ∷ vs) = cond v.spent 0 1 + count_live vs

  -- some pass has seen all of the history
  pub record IsSeenWhole (log : List E) (views : List (View E F)) : Type 0 where
    pub seat : ℕ
    pub view : View E F
    pub there : get_elem? views seat ≡ some view
    pub alive : view.spent ≡ false
    pub whole : view.seen ≡ log

  -- the word tells a length at which a pass of a number other than i was granted the turn, as some pass keeps
  pub record IsBlamed (views : List (View E F)) (i word : ℕ) : Type 0 where
    pub at : ℕ
    pub by : ℕ
    pub seat : ℕ
    pub view : View E F
    pub odd : word ≡ 2 * at + 1
    pub other : by ≢ i
    pub there : get_elem? views seat ≡ some view
    pub alive : view.spent ≡ false
    pub kept : Contains view.taken (by, at)

module _ {T E F : Type 0} (entries : T → List E) (fixed : T → F) (number : E → ℕ) where
  -- the pass n was joined, and these are all its entries, also among those that were seen
  pub record IsJoined (log : List E) (views : List (View E F)) (seen : List E) (n : ℕ) (es : List E) : Type 0 where
    pub seen_own : own number n seen ≡ es
    pub all_own : own number n log ≡ es
    pub made : n < length views
    pub gone : IsLivePass views n → ⊥

  -- what a pass knows is true: the pass i, which was not joined
  pub record FitsLog (key : F) (log : List E) (views : List (View E F)) (i : ℕ) (v : View E F) : Type 0 where
    pub numbered : v.number ≡ i
    pub shows : v.fixed ≡ Some key
    pub begins : IsPrefix v.seen log
    pub seen_own : own number i v.seen ≡ v.mine
    pub all_own : own number i log ≡ v.mine
    pub ended_are : (n : ℕ) (es : List E) → Contains v.ended (n, es) → IsJoined log views v.seen n es
    pub met_begin : (xs : List E) → Contains v.met xs → IsPrefix xs v.seen
    pub counted : v.made ≡ v.out + length v.ended
    pub counts : i ≡ 0 → (length views ≡ v.made + 1) × (count_live views ≡ v.out + 1)
    pub covers : i ≡ 0 → (n : ℕ) → IsLivePass views n ⊎ (HasEnded v.ended n ⊎ (own number n log ≡ []))
    pub waits : v.refused ≢ 0 → IsBlamed views i v.last

  -- the turn is free: no pass holds it, and the value at home stands for the history
  pub record IsFree (key : F) (log : List E) (s : State (Option T) (View E F)) : Type 0 where
    pub even : slice_index s.words 0 ≡ 2 * length log
    pub none_holds : (i : ℕ) (v : View E F) → get_elem? s.views i ≡ some v → v.spent ≡ false → v.found ≡ None
    pub value : T
    pub home : s.homes ≡ some (Some value) ∷ []
    pub stands : entries value ≡ log
    pub keeps : fixed value ≡ key

  -- the turn is held by one pass, which found the history and has the slot
  pub record IsTurnTaken (log : List E) (s : State (Option T) (View E F)) : Type 0 where
    pub odd : slice_index s.words 0 ≡ 2 * length log + 1
    pub holder : ℕ
    pub view : View E F
    pub there : get_elem? s.views holder ≡ some view
    pub alive : view.spent ≡ false
    pub found : view.found ≡ Some log
    pub granted : Contains view.taken (holder, length log)
    pub only : (i : ℕ) (v : View E F) → get_elem? s.views i ≡ some v → v.spent ≡ false → i ≢ holder → v.found ≡ None
    pub away : s.homes ≡ none ∷ []

  -- the rule
  pub record IsRuleKept (key : F) (s : State (Option T) (View E F)) : Type 0 where
    pub log : List E
    pub wide : length s.words ≡ 1
    pub first : IsLivePass s.views 0
    pub each : (i : ℕ) (v : View E F) → get_elem? s.views i ≡ some v → v.spent ≡ false → FitsLog key log s.views i v
    pub known : IsSeenWhole log s.views
    pub turn : IsFree key log s ⊎ IsTurnTaken log s
