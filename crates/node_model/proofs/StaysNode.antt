-- What holds of every node still holds when it learns a list or hears a frame.
use Rattle.std.proofs.Common.{◌≡◌, ℕ, ◌-◌, ◌^◌, ◌<◌, ◌≤◌, Option, IfSome, List, arith, option_map}
use Rattle.std.proofs.lemmas.Grind.{common_steps}
use Rattle.profile.specs.Limits.{first_identifier}
use Rattle.can_frame.specs.declared.data_frame.TimedFrame.{TimedFrame}
use Rattle.requirement_table.specs.declared.entries.Placed.{Placed}
use Rattle.requirement_table.specs.Table.{IsWellPlaced}
use Rattle.trigger_codec.specs.declared.message.Trigger.{Trigger}
use Rattle.trigger_codec.proofs.Shared.{first-noted, last-fits}
use Rattle.async_window.proofs.Shared.{IsMail-without}
use Rattle.trigger_kind.specs.Kind.{opening_identifier}
use Rattle.node_model.specs.Node.{IsNode, NodeState, Opened, after_hearing, counted, learnt, with_heard}
use Rattle.node_model.proofs.OtherFrames.{after_hearing-keeps}
use Rattle.node_model.proofs.OwnEntries.{entries_of-well_placed}

pub node-learning : (placed : List Placed) (node : NodeState) → IsWellPlaced placed → IsNode node → IsNode (learnt placed node)
node-learning placed node well is = record {
  layout = is.layout;
  entries = entries_of-well_placed node.number placed well;
  mail = is.mail;
  opened = is.opened;
  next = is.next;
  frames = is.frames;
  noted = is.noted;
}

-- an open cycle is before the next one, and its window is not longer than the largest one
abbrev IsOpen : ℕ → ℕ → Opened → Type 0
IsOpen window next opened = (opened.width ≤ window) × (opened.cycle < next)

-- the window that a trigger says is not longer than the largest one
abbrev FitsIn : ℕ → Trigger → Type 0
FitsIn window trigger = trigger.l ≤ window

open-slot : (window next slot : ℕ) (opened : Option Opened) → IfSome opened (IsOpen window next) → IfSome (option_map (with_heard slot) opened) (IsOpen window next)
open-slot window next slot opened is = grind arith

counted-small : (n : ℕ) → n < 2 ^ 64 → counted n < 2 ^ 64
counted-small n small = omega arith

pub node-hearing : (node : NodeState) (sent : TimedFrame) → (sent.frame.identifier ≡ opening_identifier node.layout.slots → node.next < 2 ^ 42) → IsNode node
    → IsNode (after_hearing node sent)
node-hearing node sent early is =
    after_hearing-keeps IsNode node sent
    (λ opening. grind (arith, last-fits, counted-small))
    (λ earlier. grind (arith, common_steps, counted-small, first-noted))
    (record {
      layout = is.layout;
      entries = is.entries;
      mail = is.mail;
      opened = open-slot node.layout.window node.next (sent.frame.identifier - first_identifier) node.opened is.opened;
      next = is.next;
      frames = counted-small node.frames is.frames;
      noted = is.noted;
    })
    (record {
      layout = is.layout;
      entries = is.entries;
      mail = IsMail-without sent.frame.identifier node.mail is.mail;
      opened = is.opened;
      next = is.next;
      frames = counted-small node.frames is.frames;
      noted = is.noted;
    })
