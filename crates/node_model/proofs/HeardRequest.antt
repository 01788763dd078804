-- A frame of which a node has an unsent request: that node takes the request away, and a node that is apart from it only
-- counts the frame.
use Rattle.std.proofs.Common.{◌≡◌, ℕ, suc, ◌+◌, ◌≤◌, ◌||◌, false, eqb, List, [], ◌∷◌, map, All, Contains, IsSome, slice_get, inl, inr, refl, ap, ◌∙◌, subst, arith}
use Rattle.std.proofs.lemmas.Bool.{cases_eq, cond-false, false≢true, ne_eqb}
use Rattle.std.proofs.lemmas.List.Elements.{All-head, All-map, All-tail}
use Rattle.profile.specs.Limits.{first_identifier}
use Rattle.can_frame.specs.declared.data_frame.TimedFrame.{TimedFrame}
use Rattle.requirement_table.specs.declared.entries.Placed.{Placed}
use Rattle.requirement_table.specs.Table.{IsInRange}
use Rattle.async_window.specs.Mailbox.{Mail, unsent_of, without_first}
use Rattle.async_window.proofs.Shared.{unsent_of-later}
use Rattle.node_model.specs.Node.{IsNode, NodeState, after_hearing, after_request, is_own_slot}
use Rattle.node_model.specs.Own.{AreApart, HasRequest, counting}
use Rattle.node_model.proofs.OtherFrames.{other-frame}

-- an identifier with an unsent request has a mailbox, and is an asynchronous one
has-box : (id : ℕ) (mail : List Mail) → IsSome (slice_get (unsent_of mail id) 0) → Contains (map (λ box. box.identifier) mail) id
has-box id [] some = absurd (false≢true some)
has-box id (box ∷ rest) some = elim (cases_eq box.identifier id) [
  | inl same ↦ (0, omega arith, same)
  | inr other ↦
      let later = has-box id rest (subst (λ unsent. IsSome (slice_get unsent 0)) (unsent_of-later box rest id other) some) in
      (suc later.0, omega (arith, later.1), later.2)
]

asynchronous : (node : NodeState) (id : ℕ) → IsNode node → HasRequest node id → 0x200 ≤ id
asynchronous node id is has =
    let among = has-box id node.mail has in
    let least = All-map (λ n. 0x200 ≤ n) (λ box. box.identifier) node.mail is.mail.least in
    grind arith

-- no slot has an asynchronous identifier
no-slot : (entries : List Placed) (id : ℕ) → 0x200 ≤ id → All IsInRange entries → is_own_slot entries id ≡ false
no-slot [] id above in_range = refl
no-slot (p ∷ rest) id above in_range =
    let below = (All-head IsInRange p rest in_range).entry.slot in
    ap (λ b. b || is_own_slot rest id) (ne_eqb (first_identifier + p.entry.slot) id (λ same. omega (arith, same, above, below)))
    ∙ no-slot rest id above (All-tail IsInRange p rest in_range)

heard-request : (node : NodeState) (sent : TimedFrame) → IsNode node → 0x200 ≤ sent.frame.identifier
    → after_hearing node sent ≡ counting (after_request node sent.frame.identifier)
heard-request node sent is above = grind (arith, other-frame, cond-false, no-slot)

-- a node without a mailbox of an identifier has no request of it to take away
without_first-absent : (id : ℕ) (mail : List Mail) → (Contains (map (λ box. box.identifier) mail) id → ⊥) → without_first id mail ≡ mail
without_first-absent id [] none = refl
without_first-absent id (box ∷ rest) none =
    ap (λ one. one ∷ without_first id rest) (cond-false (eqb box.identifier id) _ _ (ne_eqb _ _ (λ same. none (0, omega arith, same))))
    ∙ ap (λ mail. box ∷ mail) (without_first-absent id rest (λ has. none (suc has.0, omega (arith, has.1), has.2)))

pub hears-own : (node : NodeState) (sent : TimedFrame) → IsNode node → HasRequest node sent.frame.identifier
    → after_hearing node sent ≡ counting (after_request node sent.frame.identifier)
hears-own node sent is has = heard-request node sent is (asynchronous node sent.frame.identifier is has)

pub hears-others : (one other : NodeState) (sent : TimedFrame) → IsNode one → IsNode other → AreApart one other
    → HasRequest one sent.frame.identifier → after_hearing other sent ≡ counting other
hears-others one other sent is_one is_other apart has =
    let id = sent.frame.identifier in
    heard-request other sent is_other (asynchronous one id is_one has)
    ∙ ap (λ mail. counting (record other { mail = mail }))
    (without_first-absent id other.mail (apart.mail id (has-box id one.mail has)))
