-- Requests that are not sent, node by node and owner by owner.
use Rattle.std.proofs.Common.{◌≡◌, ℕ, zero, suc, ◌+◌, ◌<◌, ◌≤◌, eqb, nat_lt, Bool, true, false, cond, List, [], ◌∷◌, length, map, filter, fold, sum_by, All, Option, Some, None, refl, sym, ap, ◌∙◌, arith}
use Rattle.std.specs.Prelude.{slice_get}
use Rattle.std.specs.List.{range_with_len}
use Rattle.std.proofs.lemmas.List.Sums.{sum_by-cons}
use Rattle.std.proofs.lemmas.List.Elements.{All-head, All-tail}
use Rattle.can_frame.specs.declared.data_frame.TimedFrame.{TimedFrame}
use Rattle.cycle_layout.specs.Layout.{CycleLayout}
use Rattle.requirement_table.specs.declared.entries.Placed.{Placed}
use Rattle.async_window.specs.declared.request.Owner.{Owner}
use Rattle.async_window.specs.declared.request.Request.{Request}
use Rattle.async_window.specs.Mailbox.{Mail, left, mail_after}
use Rattle.async_window.specs.Waiting.{unsent_after}
use Rattle.trigger_kind.specs.Kind.{opening_identifier}
use Rattle.node_model.specs.Node.{NodeState, after_hearing, counted, identifiers_of, is_own_slot, learnt}
use Rattle.node_model.specs.Own.{StandsOnBus}
use Rattle.cycle_engine.specs.Nodes.{heard_by, learnt_by, left_in}
use Rattle.live_run.specs.Left.{left_at, left_of, numbers_of}

-- Nodes that stand for a bus

module _ (layout : CycleLayout) (owners : List Owner) (requests : List Request) (placed : List Placed)
    (past : List TimedFrame) (next : ℕ) where
  -- what they have left is that of the owners at them
  pub left_in_at : (nodes : List NodeState) → All (StandsOnBus layout owners requests placed past next) nodes
      → left_in nodes ≡ left_at owners requests past (numbers_of nodes)
  left_in_at [] stand = refl
  left_in_at (node ∷ nodes) stand =
      let Standing : NodeState → Type 0 = StandsOnBus layout owners requests placed past next in
      let at : ℕ → ℕ = λ number. left (mail_after (identifiers_of number owners) requests past) in
      sum_by-cons (λ (n : NodeState). left n.mail) node nodes
      ∙ (ap (λ (mail : List Mail). left mail + left_in nodes) (All-head Standing node nodes stand).own_mail
      ∙ (ap (λ rest. at node.number + rest) (left_in_at nodes (All-tail Standing node nodes stand))
      ∙ sym (sum_by-cons at node.number (numbers_of nodes))))

-- Nodes that are numbered from the first one on

some-same : {X : Type 0} (x y : X) → Some x ≡ Some y → x ≡ y
some-same x y same = cc same

pub numbered : {X : Type 0} (number : X → ℕ) (make : ℕ → X) (nodes : List X) (first count : ℕ)
    → ((k : ℕ) → number (make k) ≡ k) → length nodes ≡ count
    → ((k i : ℕ) → k < count → first + k ≡ i → slice_get nodes k ≡ Some (make i))
    → map number nodes ≡ range_with_len first count
numbered number make [] first zero is long each = refl
numbered number make [] first (suc count) is long each = absurd (omega (arith, long))
numbered number make (node ∷ nodes) first zero is long each = absurd (omega (arith, long))
numbered {X} number make (node ∷ nodes) first (suc count) is long each =
    let front : node ≡ make first = some-same node (make first) (each 0 first (omega arith) (omega arith)) in
    let rest : (k i : ℕ) → k < count → first + 1 + k ≡ i → slice_get nodes k ≡ Some (make i) =
    λ k i less place. each (suc k) i (omega (arith, less)) (omega (arith, place)) in
    ap (λ n. n ∷ map number nodes) (ap number front ∙ is first)
    ∙ ap (λ l. first ∷ l) (numbered number make nodes (first + 1) count is (omega (arith, long)) rest)

-- Sums over numbers

sum-both : (f g : ℕ → ℕ) (xs : List ℕ) → sum_by (λ x. f x + g x) xs ≡ sum_by f xs + sum_by g xs
sum-both f g [] = refl
sum-both f g (x ∷ xs) =
    let both = sum_by-cons (λ x. f x + g x) x xs in
    let first = sum_by-cons f x xs in
    let second = sum_by-cons g x xs in
    let rest = sum-both f g xs in
    omega (arith, both, first, second, rest)

sum-same : (f g : ℕ → ℕ) (xs : List ℕ) → ((x : ℕ) → f x ≡ g x) → sum_by f xs ≡ sum_by g xs
sum-same f g [] same = refl
sum-same f g (x ∷ xs) same =
    let one = sum_by-cons f x xs in
    let other = sum_by-cons g x xs in
    let first = same x in
    let rest = sum-same f g xs same in
    omega (arith, one, other, first, rest)

sum-none : (f : ℕ → ℕ) (xs : List ℕ) → ((x : ℕ) → f x ≡ 0) → sum_by f xs ≡ 0
sum-none f [] none = refl
sum-none f (x ∷ xs) none =
    let one = sum_by-cons f x xs in
    let first = none x in
    let rest = sum-none f xs none in
    omega (arith, one, first, rest)

-- the part of a number, counted at its place
part : ℕ → ℕ → ℕ → ℕ
part place count x = cond (eqb place x) count 0

sum-past : (place count first n : ℕ) → place < first → sum_by (part place count) (range_with_len first n) ≡ 0
unfolding part
sum-past place count first zero past = refl
sum-past place count first (suc n) past =
    let one = sum_by-cons (part place count) first (range_with_len (first + 1) n) in
    let none : cond (eqb place first) count 0 ≡ 0 = grind (arith, past) in
    let rest = sum-past place count (first + 1) n (omega (arith, past)) in
    omega (arith, one, none, rest)

sum-part : (place count first n : ℕ) → first ≤ place → place < first + n
    → sum_by (part place count) (range_with_len first n) ≡ count
unfolding part
sum-part place count first zero from below = absurd (omega (arith, from, below))
sum-part place count first (suc n) from below =
    step (eqb place first) refl (λ later. sum-part place count (first + 1) n later (omega (arith, below)))
  where
    step : (test : Bool) → eqb place first ≡ test
        → (first + 1 ≤ place → sum_by (part place count) (range_with_len (first + 1) n) ≡ count)
        → sum_by (part place count) (range_with_len first (suc n)) ≡ count
    step true is behind =
        let one = sum_by-cons (part place count) first (range_with_len (first + 1) n) in
        let here : cond (eqb place first) count 0 ≡ count = ap (λ b. cond b count 0) is in
        let same : place ≡ first = grind (arith, is) in
        let rest = sum-past place count (first + 1) n (omega (arith, same)) in
        omega (arith, one, here, rest)
    step false is behind =
        let one = sum_by-cons (part place count) first (range_with_len (first + 1) n) in
        let here : cond (eqb place first) count 0 ≡ 0 = ap (λ b. cond b count 0) is in
        let other : first < place = grind (arith, is, from) in
        let rest = behind (omega (arith, other)) in
        omega (arith, one, here, rest)

-- Owners of some nodes

module _ (requests : List Request) (past : List TimedFrame) where
  abbrev unsent : Owner → ℕ
  unsent owner = length (unsent_after requests past owner.id)

  abbrev at : List Owner → ℕ → ℕ
  at owners number = left (mail_after (identifiers_of number owners) requests past)

  at-either : (owner : Owner) (owners : List Owner) (number : ℕ) (test : Bool) → eqb owner.node number ≡ test
      → at (owner ∷ owners) number ≡ part owner.node (unsent owner) number + at owners number
  unfolding part
  at-either owner owners number true is =
      let ids = identifiers_of number owners in
      let here : identifiers_of number (owner ∷ owners) ≡ owner.id ∷ ids =
      ap (λ b. map (λ (o : Owner). o.id) (cond b (owner ∷ filter (λ (o : Owner). eqb o.node number) owners) (filter (λ (o : Owner). eqb o.node number) owners))) is in
      let box : Mail = record { identifier = owner.id; unsent = unsent_after requests past owner.id } in
      let counted : cond (eqb owner.node number) (unsent owner) 0 ≡ unsent owner = ap (λ b. cond b (unsent owner) 0) is in
      ap (λ (l : List ℕ). left (mail_after l requests past)) here
      ∙ (sum_by-cons (λ (b : Mail). length b.unsent) box (mail_after ids requests past)
      ∙ ap (λ n. n + at owners number) (sym counted))
  at-either owner owners number false is =
      let here : identifiers_of number (owner ∷ owners) ≡ identifiers_of number owners =
      ap (λ b. map (λ (o : Owner). o.id) (cond b (owner ∷ filter (λ (o : Owner). eqb o.node number) owners) (filter (λ (o : Owner). eqb o.node number) owners))) is in
      let counted : cond (eqb owner.node number) (unsent owner) 0 ≡ 0 = ap (λ b. cond b (unsent owner) 0) is in
      let same : at (owner ∷ owners) number ≡ at owners number = ap (λ (l : List ℕ). left (mail_after l requests past)) here in
      omega (arith, same, counted)

  -- node by node it is what it is owner by owner, where each owner is at one of the nodes
  pub left_at_of : (owners : List Owner) (count : ℕ) → All (λ (owner : Owner). owner.node < count) owners
      → left_at owners requests past (range_with_len 0 count) ≡ left_of owners requests past
  left_at_of [] count numbers = sum-none (at []) (range_with_len 0 count) (λ x. refl)
  left_at_of (owner ∷ owners) count numbers =
      let Below : Owner → Type 0 = λ owner. owner.node < count in
      let range = range_with_len 0 count in
      let below = All-head Below owner owners numbers in
      let split = sum-same (at (owner ∷ owners)) (λ number. part owner.node (unsent owner) number + at owners number) range
      (λ number. at-either owner owners number (eqb owner.node number) refl) in
      let both = sum-both (part owner.node (unsent owner)) (at owners) range in
      let here = sum-part owner.node (unsent owner) 0 count (omega arith) (omega (arith, below)) in
      let rest = left_at_of owners count (All-tail Below owner owners numbers) in
      let all = sum_by-cons unsent owner owners in
      omega (arith, split, both, here, rest, all)

-- Nodes keep their numbers

number-either : (test : Bool) (one other : NodeState) (number : ℕ) → one.number ≡ number → other.number ≡ number
    → (cond test one other).number ≡ number
number-either true one other number is_one is_other = is_one
number-either false one other number is_one is_other = is_other

number-heard : (frames : List TimedFrame) (node : NodeState) → (fold after_hearing node frames).number ≡ node.number
number-heard [] node = refl
number-heard (sent ∷ later) node =
    let frame = sent.frame in
    let old = record node { frames = counted node.frames } in
    number-heard later (after_hearing node sent)
    ∙ number-either (eqb frame.identifier (opening_identifier old.layout.slots)) _ _ node.number refl
    (number-either (nat_lt frame.identifier (opening_identifier old.layout.slots)) _ _ node.number refl
    (number-either (is_own_slot old.entries frame.identifier) _ _ node.number refl refl))

pub numbers_heard : (frames : List TimedFrame) (nodes : List NodeState)
    → numbers_of (map (λ node. fold after_hearing node frames) nodes) ≡ numbers_of nodes
numbers_heard frames [] = refl
numbers_heard frames (node ∷ nodes) =
    ap (λ n. n ∷ numbers_of (map (λ node. fold after_hearing node frames) nodes)) (number-heard frames node)
    ∙ ap (λ l. node.number ∷ l) (numbers_heard frames nodes)

numbers-learnt : (placed : List Placed) (nodes : List NodeState) → numbers_of (map (learnt placed) nodes) ≡ numbers_of nodes
numbers-learnt placed [] = refl
numbers-learnt placed (node ∷ nodes) = ap (λ l. node.number ∷ l) (numbers-learnt placed nodes)

pub numbers_learnt_by : (learned : Option (List Placed)) (nodes : List NodeState)
    → numbers_of (learnt_by learned nodes) ≡ numbers_of nodes
numbers_learnt_by None nodes = refl
numbers_learnt_by (Some placed) nodes = numbers-learnt placed nodes

-- the run of a cycle keeps their numbers
pub numbers_run : (learned : Option (List Placed)) (frames : List TimedFrame) (old new : List NodeState)
    → new ≡ heard_by frames (learnt_by learned old) → numbers_of new ≡ numbers_of old
numbers_run learned frames old new heard =
    ap (λ (l : List NodeState). numbers_of l) heard
    ∙ (numbers_heard frames (learnt_by learned old) ∙ numbers_learnt_by learned old)
