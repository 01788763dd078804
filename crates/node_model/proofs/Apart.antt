-- Two nodes never offer one identifier at the same time.
use Rattle.std.proofs.Common.{◌≡◌, ◌≢◌, ℕ, ◌+◌, ◌/◌, ◌<◌, ◌≤◌, ◌==◌, eqb, leb, Option, Some, None, List, [], length, get_or, map, filter, Contains, ◌⊎◌, inl, inr, refl, sym, ap, ◌∙◌, subst, arith, option_map}
use Rattle.std.proofs.lemmas.Grind.{common_steps}
use Rattle.std.proofs.lemmas.Bool.{cases_Bool, cases_order, eqb-true, and_parts, cond-true, cond-false}
use Rattle.std.proofs.lemmas.Option.{none-some, same_Some}
use Rattle.std.proofs.lemmas.List.{get_or_default}
use Rattle.std.proofs.lemmas.List.Elements.{All-contains, All-map}
use Rattle.profile.specs.Limits.{first_identifier}
use Rattle.can_frame.specs.declared.data_frame.TimedFrame.{TimedFrame}
use Rattle.cycle_layout.specs.Layout.{CycleLayout, sync_start}
use Rattle.requirement_table.specs.declared.entries.Placed.{Placed}
use Rattle.bit_sets.specs.Sets.{most_slots}
use Rattle.requirement_table.specs.Instance.{Instance}
use Rattle.requirement_table.specs.Table.{IsWellPlaced, instance_in}
use Rattle.async_window.specs.declared.request.Owner.{Owner}
use Rattle.async_window.specs.declared.request.Request.{Request}
use Rattle.async_window.specs.Mailbox.{IsLeastWith, IsMail, OffersIdentifier, mail_offer}
use Rattle.async_window.proofs.Shared.{Offers-among, Offers-least, without_first-identifiers}
use Rattle.bit_sets.specs.Least.{least_where}
use Rattle.node_model.specs.Node.{IsNode, NodeState, Opened, after_hearing, entries_of, identifiers_of, is_due, learnt, node_offer, offer_in}
use Rattle.async_window.specs.Owners.{AreOwners}
use Rattle.node_model.specs.Own.{AreApart, StandsOnBus}
use Rattle.node_model.proofs.OtherFrames.{after_hearing-keeps}
use Rattle.node_model.proofs.OwnEntries.{Contains-from_filter, Contains-from_map, passes-from_filter, instance-of_all}
use Rattle.bit_sets.proofs.Shared.{IsLeastBelow, least_where-least}
use Rattle.node_model.proofs.OwnPart.{identifiers-after, value-of}

-- each identifier has one owner
owner_at : (owners : List Owner) (owner : Owner) (k : ℕ) (d : Owner) → k < length owners → get_or owners k owner ≡ owner → get_or owners k d ≡ owner
owner_at owners owner k d within same = get_or_default owners k d owner within ∙ same

one_owner : (owners : List Owner) → AreOwners owners → (one other : Owner) → Contains owners one → Contains owners other → one.id ≡ other.id → one.node ≡ other.node
one_owner owners are one other (i, at_one, is_one) (j, at_other, is_other) same =
    elim (cases_order i j) [
      | inl here ↦ ap (λ o. o.node) (sym (owner_at owners one i one at_one is_one) ∙ ap (λ k. get_or owners k one) here ∙ owner_at owners other j one at_other is_other)
      | inr apart ↦ elim apart [
        | inl before ↦ absurd (are.distinct i j one before at_other
            (ap (λ o. o.id) is_one ∙ same ∙ ap (λ o. o.id) (sym (owner_at owners other j one at_other is_other))))
        | inr behind ↦ absurd (are.distinct j i one behind at_one
            (ap (λ o. o.id) (owner_at owners other j one at_other is_other) ∙ sym same ∙ ap (λ o. o.id) (sym is_one)))
      ]
    ]

-- an identifier of a node is that of an owner that is the node's
owner-of : (number : ℕ) (owners : List Owner) (id : ℕ) → Contains (identifiers_of number owners) id
    → (owner : Owner) × Contains owners owner × (owner.node ≡ number) × (owner.id ≡ id)
owner-of number owners id among =
    let found = Contains-from_map (λ owner. owner.id) (filter (λ owner. owner.node == number) owners) id among in (
      found.0,
      Contains-from_filter (λ owner. owner.node == number) owners found.0 found.1,
      eqb-true found.0.node number (passes-from_filter (λ owner. owner.node == number) owners found.0 found.1),
      found.2,
    )

no_common-identifier : (owners : List Owner) (one other id : ℕ) → AreOwners owners → one ≢ other
    → Contains (identifiers_of one owners) id → Contains (identifiers_of other owners) id → ⊥
no_common-identifier owners one other id are apart mine theirs =
    let first = owner-of one owners id mine in
    let second = owner-of other owners id theirs in
    apart (sym first.2 ∙ one_owner owners are first.0 second.0 first.1 second.1 (first.3 ∙ sym second.3) ∙ second.2)

no_common-instance : (placed : List Placed) (one other slot c : ℕ) (mine theirs : Instance) → IsWellPlaced placed → one ≢ other
    → instance_in (entries_of one placed) slot c ≡ Some mine → instance_in (entries_of other placed) slot c ≡ Some theirs → ⊥
no_common-instance placed one other slot c mine theirs well apart is_mine is_theirs = grind (arith, instance-of_all, same_Some)

own_identifiers : (layout : CycleLayout) (owners : List Owner) (requests : List Request) (placed : List Placed) (past : List TimedFrame)
    (next : ℕ) (node : NodeState) (id : ℕ) → StandsOnBus layout owners requests placed past next node
    → Contains (map (λ box. box.identifier) node.mail) id → Contains (identifiers_of node.number owners) id
own_identifiers layout owners requests placed past next node id stands among = grind (arith, identifiers-after)

-- the same where the other one learnt that list, or none
no_common-slot : (placed others : List Placed) (one other slot c : ℕ) (mine theirs : Instance) → IsWellPlaced placed → one ≢ other
    → (others ≡ placed) ⊎ (others ≡ []) → instance_in (entries_of one placed) slot c ≡ Some mine
    → instance_in (entries_of other others) slot c ≡ Some theirs → ⊥
no_common-slot placed others one other slot c mine theirs well apart h2 is_mine is_theirs = grind (arith, no_common-instance, none-some)

pub apart-by_number : (layout : CycleLayout) (owners : List Owner) (requests other_requests : List Request) (placed others : List Placed)
    (past heard : List TimedFrame) (next then : ℕ) (one other : NodeState) → one.number ≢ other.number → AreOwners owners → IsWellPlaced placed
    → (others ≡ placed) ⊎ (others ≡ []) → StandsOnBus layout owners requests placed past next one
    → StandsOnBus layout owners other_requests others heard then other → AreApart one other
apart-by_number layout owners requests other_requests placed others past heard next then one other apart are well which stands also = record {
  mail = λ id mine theirs.
      no_common-identifier owners one.number other.number id are apart
      (own_identifiers layout owners requests placed past next one id stands mine)
      (own_identifiers layout owners other_requests others heard then other id also theirs);
  slots = grind (arith, no_common-slot);
}

pub apart-learning : (placed : List Placed) (one other : NodeState) → one.number ≢ other.number → IsWellPlaced placed → AreApart one other
    → AreApart (learnt placed one) (learnt placed other)
apart-learning placed one other apart well are = grind (arith, no_common-instance)

pub apart-turned : (one other : NodeState) → AreApart one other → AreApart other one
apart-turned one other are = record {
  mail = λ id mine theirs. are.mail id theirs mine;
  slots = λ slot cycle mine theirs is_mine is_theirs. are.slots slot cycle theirs mine is_theirs is_mine;
}

pub after_hearing-entries : (node : NodeState) (sent : TimedFrame) → (after_hearing node sent).entries ≡ node.entries
after_hearing-entries node sent = after_hearing-keeps (λ n. n.entries ≡ node.entries) node sent (λ opening. refl) (λ noting. refl) refl refl

pub after_hearing-identifiers : (node : NodeState) (sent : TimedFrame) → map (λ box. box.identifier) (after_hearing node sent).mail ≡ map (λ box. box.identifier) node.mail
after_hearing-identifiers node sent = grind (arith, after_hearing-keeps, without_first-identifiers)

pub apart-same : (one other after also : NodeState) → after.entries ≡ one.entries → also.entries ≡ other.entries
    → map (λ box. box.identifier) after.mail ≡ map (λ box. box.identifier) one.mail
    → map (λ box. box.identifier) also.mail ≡ map (λ box. box.identifier) other.mail → AreApart one other → AreApart after also
apart-same one other after also entries others ids other_ids are = record {
  mail = λ id mine theirs. are.mail id (subst (λ all. Contains all id) ids mine) (subst (λ all. Contains all id) other_ids theirs);
  slots = grind arith;
}

pub apart-hearing : (one other : NodeState) (sent also : TimedFrame) → AreApart one other → AreApart (after_hearing one sent) (after_hearing other also)
apart-hearing one other sent also =
    apart-same one other (after_hearing one sent) (after_hearing other also)
    (after_hearing-entries one sent) (after_hearing-entries other also)
    (after_hearing-identifiers one sent) (after_hearing-identifiers other also)

-- what a node that offers an identifier has
abbrev Has : NodeState → ℕ → ℕ → Type 0
Has node at id =
    ((slot : ℕ) × (id ≡ first_identifier + slot) × (slot < most_slots) × ((i : Instance) × (instance_in node.entries slot (at / node.layout.cycle) ≡ Some i)))
    ⊎ ((0x200 ≤ id) × Contains (map (λ box. box.identifier) node.mail) id)

slot-part : (entries : List Placed) (opened : Opened) (c id : ℕ) (found : Option ℕ) → c ≡ opened.cycle → IsLeastBelow most_slots (is_due entries opened) found
    → option_map (λ slot. first_identifier + slot) found ≡ Some id
    → (slot : ℕ) × (id ≡ first_identifier + slot) × (slot < most_slots) × ((i : Instance) × (instance_in entries slot c ≡ Some i))
slot-part entries opened c id found same none is = grind (arith, none-some, and_parts, value-of, same_Some)

module _ (node : NodeState) (at : ℕ) (known : IsMail node.mail) where
  mail-part : (l id : ℕ) (found : Option ℕ) → IsLeastWith (OffersIdentifier node.layout l node.mail at) found → found ≡ Some id
      → (0x200 ≤ id) × Contains (map (λ box. box.identifier) node.mail) id
  mail-part l id None none is = absurd (none-some id is)
  mail-part l id (Some found) is_least is =
      let here = subst (λ n. Contains (map (λ box. box.identifier) node.mail) n) (same_Some found id is) (Offers-among node.layout l at node.mail found is_least.0) in
      (All-contains (λ n. 0x200 ≤ n) (map (λ box. box.identifier) node.mail) id (All-map (λ n. 0x200 ≤ n) (λ box. box.identifier) node.mail known.least) here, here)

  open-part : (opened : Opened) (id : ℕ) → offer_in node at opened ≡ Some id → Has node at id
  open-part opened id is =
      elim (cases_Bool (eqb (at / node.layout.cycle) opened.cycle)) [
        | inl same ↦ elim (cases_Bool (leb (sync_start node.layout opened.cycle opened.width) at)) [
          | inl late ↦ inl (slot-part node.entries opened (at / node.layout.cycle) id (least_where most_slots (is_due node.entries opened)) (eqb-true _ _ same)
              (least_where-least most_slots (is_due node.entries opened))
              (grind (arith, cond-true, leb, eqb)))
          | inr early ↦ inr (mail-part opened.width id (mail_offer node.layout opened.width node.mail at) (Offers-least node.layout opened.width at node.mail known)
              (grind (arith, common_steps, cond-false, leb, cond-true, eqb)))
        ]
        | inr other ↦ absurd (none-some id (sym (cond-false (eqb (at / node.layout.cycle) opened.cycle) _ _ other) ∙ is))
      ]

  offers-part : (opened : Option Opened) (id : ℕ) → node_offer (record node { opened = opened }) at ≡ Some id → Has node at id
  offers-part opened id is = grind (arith, none-some, open-part)

  has-offered : (id : ℕ) → node_offer node at ≡ Some id → Has node at id
  has-offered id is = offers-part node.opened id is

never_both : (one other : NodeState) (at id : ℕ) → one.layout ≡ other.layout → AreApart one other → Has one at id → Has other at id → ⊥
never_both one other at id same are (inl (slot, is, within, (i, mine))) (inl (another, also, inside, (j, theirs))) = grind arith
never_both one other at id same are (inl (slot, is, within, mine)) (inr (above, theirs)) = omega arith
never_both one other at id same are (inr (above, mine)) (inl (slot, is, within, theirs)) = omega arith
never_both one other at id same are (inr (above, mine)) (inr (high, theirs)) = are.mail id mine theirs

-- two nodes that are apart never offer one identifier together
pub offers-apart : (one other : NodeState) (at id : ℕ) → one.layout ≡ other.layout → IsNode one → IsNode other → AreApart one other
    → node_offer one at ≡ Some id → node_offer other at ≡ Some id → ⊥
offers-apart one other at id same is_one is_other are mine theirs =
    never_both one other at id same are (has-offered one at is_one.mail id mine) (has-offered other at is_other.mail id theirs)

-- what a node offers is the identifier of a slot or an asynchronous one
pub offers-in_range : (node : NodeState) (at id : ℕ) → IsNode node → node_offer node at ≡ Some id → (0x100 ≤ id) × (id ≤ 0x7EF)
offers-in_range node at id is offers = elim (has-offered node at is.mail id offers) [
  | inl part ↦ (omega (arith, part.1), omega (arith, part.1, part.2))
  | inr part ↦ (omega (arith, part.0), All-contains (λ n. n ≤ 0x7EF) (map (λ box. box.identifier) node.mail) id (All-map (λ n. n ≤ 0x7EF) (λ box. box.identifier) node.mail is.mail.greatest) part.1)
]
