-- The requests of one identifier among those of all: where they stand, and what a change of them changes.
use Rattle.std.proofs.Common.{◌≡◌, ◌≢◌, ℕ, zero, suc, ◌+◌, ◌-◌, ◌^◌, ◌<◌, ◌≤◌, ◌&&◌, Bool, true, false, cond, List, [], ◌∷◌, ◌++◌, drop, length, get_or, set, map, All, AllPairs, Contains, Option, Some, None, ◌⊎◌, inl, inr, refl, sym, ap, ◌∙◌, subst, arith}
use Rattle.std.specs.Prelude.{nat_lt}
use Rattle.std.proofs.lemmas.Bool.{eq-eqb, ne_eqb}
use Rattle.std.proofs.lemmas.Bool.Decides.{eqb_tells, nat_tests}
use Rattle.std.proofs.lemmas.List.{get_or_default, length-append}
use Rattle.std.proofs.lemmas.List.Elements.{All-push}
use Rattle.circular_buffer.specs.Buffer.{Buffer, buffer, keep_last}
use Rattle.can_frame.specs.DataFrame.{DataFrame}
use Rattle.live_node.specs.Live.{IsWaiting, Waiting, box_of, has_room, pushed, with_box}
use Rattle.live_node.specs.Tickets.{flying, without_first}

abbrev AreApart : List Waiting → Type 0
AreApart mail = AllPairs (λ one other. one.identifier ≢ other.identifier) mail

apart-later : (box : Waiting) (mail : List Waiting) → AreApart (box ∷ mail) → AreApart mail
apart-later box mail apart = λ i j d before within. apart (suc i) (suc j) d (omega arith) (omega arith)

with_box-elsewhere : (change : Waiting → Waiting) (id : ℕ) (mail : List Waiting)
    → ((k : ℕ) (d : Waiting) → k < length mail → (get_or mail k d).identifier ≢ id) → with_box id change mail ≡ mail
with_box-elsewhere change id [] none = refl
with_box-elsewhere change id (box ∷ mail) none =
    ap (λ b. cond b (change box) box ∷ with_box id change mail) (ne_eqb box.identifier id (none 0 box (omega arith)))
    ∙ ap (λ later. box ∷ later) (with_box-elsewhere change id mail (λ k d within. none (suc k) d (omega arith)))

with_box-at : (change : Waiting → Waiting) (id : ℕ) (mail : List Waiting) (place : ℕ) (d : Waiting) → AreApart mail
    → place < length mail → (get_or mail place d).identifier ≡ id
    → with_box id change mail ≡ set mail place (change (get_or mail place d))
with_box-at change id [] place d apart within same = refl
with_box-at change id (box ∷ mail) zero d apart within same =
    ap (λ b. cond b (change box) box ∷ with_box id change mail) (eq-eqb box.identifier id same)
    ∙ ap (λ later. change box ∷ later)
    (with_box-elsewhere change id mail (λ k e inside is. apart 0 (suc k) e (omega arith) (omega arith) (same ∙ sym is)))
with_box-at change id (box ∷ mail) (suc place) d apart within same =
    ap (λ b. cond b (change box) box ∷ with_box id change mail)
    (ne_eqb box.identifier id (λ is. apart 0 (suc place) d (omega arith) within (is ∙ sym same)))
    ∙ ap (λ later. box ∷ later) (with_box-at change id mail place d (apart-later box mail apart) (omega arith) same)

set-changed : (change : Waiting → Waiting) (id : ℕ) (mail : List Waiting) (place : ℕ) (box new : Waiting) → AreApart mail
    → place < length mail → ((d : Waiting) → (get_or mail place d).identifier ≡ id) → box ≡ get_or mail place box
    → new ≡ change box → set mail place new ≡ with_box id change mail
set-changed change id mail place box new apart within own read written =
    ap (λ x. set mail place x) (written ∙ ap change read) ∙ sym (with_box-at change id mail place box apart within (own box))

pub set-pushed : (frame : DataFrame) (mail : List Waiting) (place : ℕ) (box new : Waiting) → AreApart mail → place < length mail
    → ((d : Waiting) → (get_or mail place d).identifier ≡ frame.identifier) → box ≡ get_or mail place box
    → new ≡ pushed frame box → set mail place new ≡ with_box frame.identifier (pushed frame) mail
set-pushed frame mail place box new apart within own read written =
    set-changed (pushed frame) frame.identifier mail place box new apart within own read written

pub set-popped : (id : ℕ) (mail : List Waiting) (place : ℕ) (box new : Waiting) → AreApart mail → place < length mail
    → ((d : Waiting) → (get_or mail place d).identifier ≡ id) → box ≡ get_or mail place box
    → new ≡ without_first box → set mail place new ≡ with_box id without_first mail
set-popped id mail place box new apart within own read written =
    set-changed without_first id mail place box new apart within own read written

pub set-flying : (loaded : Bool) (id : ℕ) (mail : List Waiting) (place : ℕ) (box new : Waiting) → AreApart mail
    → place < length mail → ((d : Waiting) → (get_or mail place d).identifier ≡ id) → box ≡ get_or mail place box
    → new ≡ flying loaded box → set mail place new ≡ with_box id (flying loaded) mail
set-flying loaded id mail place box new apart within own read written =
    set-changed (flying loaded) id mail place box new apart within own read written

-- the requests of an identifier are those at the first place that has it
pub box_of-at : (id : ℕ) (mail : List Waiting) (place : ℕ) (d : Waiting) → place < length mail
    → ((k : ℕ) → k < place → (get_or mail k d).identifier ≢ id) → (get_or mail place d).identifier ≡ id
    → box_of mail id ≡ Some (get_or mail place d)
box_of-at id [] place d within before here = absurd (omega arith)
box_of-at id (box ∷ mail) zero d within before here =
    ap (λ b. cond b (Some box) (box_of mail id)) (eq-eqb box.identifier id here)
box_of-at id (box ∷ mail) (suc place) d within before here =
    ap (λ b. cond b (Some box) (box_of mail id)) (ne_eqb box.identifier id (before 0 (omega arith)))
    ∙ box_of-at id mail place d (omega arith) (λ k early. before (suc k) (omega arith)) here

pub box_of-none : (id : ℕ) (mail : List Waiting) (d : Waiting) → ((k : ℕ) → k < length mail → (get_or mail k d).identifier ≢ id)
    → box_of mail id ≡ None
box_of-none id [] d none = refl
box_of-none id (box ∷ mail) d none =
    ap (λ b. cond b (Some box) (box_of mail id)) (ne_eqb box.identifier id (none 0 (omega arith)))
    ∙ box_of-none id mail d (λ k within. none (suc k) (omega arith))

-- an own identifier has requests
pub own-found : (mail : List Waiting) (id : ℕ) → Contains (map (λ box. box.identifier) mail) id → box_of mail id ≡ None → ⊥
own-found [] id (k, within, same) none = omega (arith, within)
own-found (box ∷ mail) id among none =
    elim (eqb_tells box.identifier id) [
      | inl here ↦
          let some : Some box ≡ None = sym (ap (λ b. cond b (Some box) (box_of mail id)) here.0) ∙ none in
          absurd (grind arith)
      | inr later ↦
          let rest : box_of mail id ≡ None = sym (ap (λ b. cond b (Some box) (box_of mail id)) later.0) ∙ none in
          own-found mail id (behind among later.1) rest
    ]
  where
    behind : Contains (box.identifier ∷ map (λ b. b.identifier) mail) id → (box.identifier ≡ id → ⊥) → Contains (map (λ b. b.identifier) mail) id
    behind (zero, within, same) other = absurd (other same)
    behind (suc k, within, same) other = (k, omega (arith, within), same)

-- an identifier without requests has none to change
pub with_box-absent : (change : Waiting → Waiting) (id : ℕ) (mail : List Waiting) → box_of mail id ≡ None → with_box id change mail ≡ mail
with_box-absent change id [] none = refl
with_box-absent change id (box ∷ mail) none =
    elim (eqb_tells box.identifier id) [
      | inl here ↦
          let some : Some box ≡ None = sym (ap (λ b. cond b (Some box) (box_of mail id)) here.0) ∙ none in
          absurd (grind arith)
      | inr later ↦
          let rest : box_of mail id ≡ None = sym (ap (λ b. cond b (Some box) (box_of mail id)) later.0) ∙ none in
          ap (λ b. cond b (change box) box ∷ with_box id change mail) later.0
          ∙ ap (λ xs. box ∷ xs) (with_box-absent change id mail rest)
    ]

-- what stands where nothing is
abbrev pub nobody : Waiting
nobody = record { identifier = 0; frames = []; room = 0; first = 0; loaded = false }

-- what was read at a place has the identifier that stands there
pub read-identifier : (mail : List Waiting) (place : ℕ) (box d : Waiting) → place < length mail → box ≡ get_or mail place box
    → (get_or mail place d).identifier ≡ box.identifier
read-identifier mail place box d within read =
    ap (λ (b : Waiting). b.identifier) (get_or_default mail place d box within ∙ sym read)

-- whether one more may wait
pub room-left : (many room first : ℕ) → many < room → first + many < 2 ^ 64
    → nat_lt many (2 ^ 64 - 1 - first) ≡ (nat_lt many room && nat_lt (first + many) (2 ^ 64 - 1))
room-left many room first few known = grind (arith, nat_tests)

pub room-full : (many room first : ℕ) → room ≤ many
    → nat_lt many room ≡ (nat_lt many room && nat_lt (first + many) (2 ^ 64 - 1))
room-full many room first full = grind (arith, nat_tests)

-- a ring that is not full keeps all
kept-all : (room : ℕ) (frames : List DataFrame) (frame : DataFrame) → length frames < room
    → keep_last room (frames ++ frame ∷ []) ≡ frames ++ frame ∷ []
kept-all room frames frame few =
    let none : length (frames ++ frame ∷ []) - room ≡ 0 = omega (arith, length-append frames (frame ∷ [])) in
    ap (λ n. drop n (frames ++ frame ∷ [])) none

-- a mailbox, by its parts
abbrev pub as_box : ℕ → ℕ → Bool → Buffer DataFrame → Waiting
as_box id first loaded ring =
    record { identifier = id; frames = ring.items; room = ring.capacity; first = first; loaded = loaded }

module _ (id first : ℕ) (loaded : Bool) (ring new : Buffer DataFrame) (frame : DataFrame)
    (put : new ≡ buffer (keep_last ring.capacity (ring.items ++ frame ∷ [])) ring.capacity)
    (free : has_room (as_box id first loaded ring) ≡ true) where
  has-few : length ring.items < ring.capacity
  has-few = grind (arith, nat_tests)

  pub push-is : as_box id first loaded new ≡ pushed frame (as_box id first loaded ring)
  push-is =
      ap (as_box id first loaded) put
      ∙ ap (λ xs. as_box id first loaded (buffer xs ring.capacity)) (kept-all ring.capacity ring.items frame has-few)

  pub push-waiting : IsWaiting (as_box id first loaded ring) → frame.identifier ≡ id → IsWaiting (as_box id first loaded new)
  push-waiting known own =
      let few : first + length ring.items < 2 ^ 64 - 1 = grind (arith, nat_tests) in
      subst IsWaiting (sym push-is) (record {
        own = All-push (λ f. f.identifier ≡ id) ring.items frame known.own own;
        few = omega (arith, few, length-append ring.items (frame ∷ []));
      })
