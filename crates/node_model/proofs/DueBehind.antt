-- What is due for a node behind frames of slots that it heard.
use Rattle.std.proofs.Common.{◌≡◌, ℕ, ◌^◌, ◌<◌, ◌&&◌, ◌||◌, Bool, true, false, not, Option, Some, None, IfSome, List, is_some, option_map, refl, sym, ap, ◌∙◌, subst}
use Rattle.std.proofs.lemmas.Bool.{and_parts, lt-ltb}
use Rattle.requirement_table.specs.declared.entries.Placed.{Placed}
use Rattle.bit_sets.specs.Sets.{has_bit, set_of, most_slots}
use Rattle.requirement_table.specs.Table.{instance_in}
use Rattle.bit_sets.proofs.Shared.{has_bit-set_of}
use Rattle.node_model.specs.Node.{is_due}
use Rattle.node_model.specs.Kept.{AreSendableIn, KnowsDue, KnowsInstances, opened_of}
use Rattle.node_model.specs.declared.cycle.Open.{Open}
use Rattle.node_model.specs.declared.entries.Ready.{Ready}

-- the slots that are due behind frames that were heard
not_either : (flagged some was now : Bool) → ((flagged && (some && not was)) && not now) ≡ (flagged && (some && not (was || now)))
not_either true true true now = refl
not_either true true false now = refl
not_either true false was now = refl
not_either false some was now = refl

pub due-heard : (before : Option Open) (o : Open) (all_heard due heard : ℕ) → before ≡ Some o
    → all_heard ≡ set_of most_slots (λ slot. has_bit o.heard slot || has_bit heard slot)
    → ((slot : ℕ) → slot < most_slots → has_bit due slot ≡ (has_bit o.due slot && not (has_bit heard slot)))
    → (entries : List Placed) → IfSome before (KnowsDue entries) → (slot : ℕ) → slot < most_slots
    → has_bit due slot ≡ is_due entries (record { cycle = o.cycle; width = o.width; mask = o.mask; heard = all_heard }) slot
due-heard before o all_heard due heard is all without entries knows slot within =
    let known : KnowsDue entries o = subst (λ x. IfSome x (KnowsDue entries)) is knows in
    let some : Bool = is_some (instance_in entries slot o.cycle) in
    without slot within
    ∙ ap (λ b. b && not (has_bit heard slot)) (known slot within)
    ∙ not_either (has_bit o.mask slot) some (has_bit o.heard slot) (has_bit heard slot)
    ∙ ap (λ b. has_bit o.mask slot && (some && not b))
    (sym (ap (λ n. has_bit n slot) all
    ∙ has_bit-set_of most_slots (λ s. has_bit o.heard s || has_bit heard s) slot
    ∙ ap (λ b. b && (has_bit o.heard slot || has_bit heard slot)) (lt-ltb slot most_slots within)))

-- the instances of the slots that are still due are known
pub instances-heard : (before : Option Open) (o : Open) (due heard : ℕ) → before ≡ Some o
    → ((slot : ℕ) → has_bit due slot ≡ (has_bit o.due slot && not (has_bit heard slot)))
    → (slots : List Ready) → IfSome before (KnowsInstances slots) → AreSendableIn o.cycle due slots
instances-heard before o due heard is without slots knows slot has =
    let known : KnowsInstances slots o = subst (λ x. IfSome x (KnowsInstances slots)) is knows in
    known slot (and_parts (has_bit o.due slot) (not (has_bit heard slot)) (sym (without slot) ∙ has)).0

pub small-opened : (before : Option Open) → IfSome before (λ o. o.heard < 2 ^ most_slots) → IfSome (option_map opened_of before) (λ o. o.heard < 2 ^ most_slots)
small-opened None small = tt
small-opened (Some o) small = small
