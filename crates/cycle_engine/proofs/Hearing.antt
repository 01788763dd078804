-- What no frame changes in a node, and which frame opens its next cycle.
use Rattle.std.proofs.Common.{◌≡◌, ◌≢◌, ℕ, Bool, true, false, cond, List, [], ◌∷◌, refl, ◌∙◌}
use Rattle.std.specs.Prelude.{◌==◌, fold, nat_lt}
use Rattle.std.proofs.lemmas.Bool.{ne_eqb}
use Rattle.can_frame.specs.declared.data_frame.TimedFrame.{TimedFrame}
use Rattle.trigger_kind.specs.Kind.{opening_identifier}
use Rattle.node_model.specs.Node.{NodeState, after_hearing, is_own_slot}

-- one of four nodes
pub kept_by : (P : NodeState → Type 0) (a b c : Bool) (w x y z : NodeState) → P w → P x → P y → P z → P (cond a w (cond b x (cond c y z)))
kept_by P true b c w x y z first second third fourth = first
kept_by P false true c w x y z first second third fourth = second
kept_by P false false true w x y z first second third fourth = third
kept_by P false false false w x y z first second third fourth = fourth

module _ (node : NodeState) (sent : TimedFrame) where
  abbrev opens : Bool
  opens = sent.frame.identifier == opening_identifier node.layout.slots

  abbrev notes : Bool
  notes = nat_lt sent.frame.identifier (opening_identifier node.layout.slots)

  abbrev marks : Bool
  marks = is_own_slot node.entries sent.frame.identifier

  -- a frame changes no number and no layout
  pub number_kept : (after_hearing node sent).number ≡ node.number
  number_kept = kept_by (λ n. n.number ≡ node.number) opens notes marks _ _ _ _ refl refl refl refl

  pub layout_kept : (after_hearing node sent).layout ≡ node.layout
  layout_kept = kept_by (λ n. n.layout ≡ node.layout) opens notes marks _ _ _ _ refl refl refl refl

  kept_behind : (b c : Bool) (x y z : NodeState) → x.next ≡ node.next → y.next ≡ node.next → z.next ≡ node.next → (cond b x (cond c y z)).next ≡ node.next
  kept_behind true c x y z first second third = first
  kept_behind false true x y z first second third = second
  kept_behind false false x y z first second third = third

  next_by : (b : Bool) (x y : NodeState) (next : ℕ) → b ≡ true → x.next ≡ next → (cond b x y).next ≡ next
  next_by true x y next is same = same
  next_by false x y next is same = absurd (cc)

  next_else : (b : Bool) (x y : NodeState) (next : ℕ) → b ≡ false → y.next ≡ next → (cond b x y).next ≡ next
  next_else false x y next is same = same
  next_else true x y next is same = absurd (cc)

  pub next_kept : sent.frame.identifier ≢ opening_identifier node.layout.slots → (after_hearing node sent).next ≡ node.next
  next_kept other =
      next_else opens _ _ node.next (ne_eqb sent.frame.identifier (opening_identifier node.layout.slots) other)
      (kept_behind notes marks _ _ _ refl refl refl)

-- nor do more frames
pub layout_kept_all : (node : NodeState) (frames : List TimedFrame) → (fold after_hearing node frames).layout ≡ node.layout
layout_kept_all node [] = refl
layout_kept_all node (sent ∷ later) = layout_kept_all (after_hearing node sent) later ∙ layout_kept node sent
