-- A node that stands to a bus is one record, made of its number, the bus, and what it heard.
use Rattle.std.proofs.Common.{◌≡◌, ℕ, ◌+◌, Option, Some, List, ap, ◌∙◌}
use Rattle.can_frame.specs.declared.data_frame.TimedFrame.{TimedFrame}
use Rattle.cycle_layout.specs.Layout.{CycleLayout}
use Rattle.requirement_table.specs.declared.entries.Placed.{Placed}
use Rattle.async_window.specs.declared.request.Owner.{Owner}
use Rattle.async_window.specs.declared.request.Request.{Request}
use Rattle.trigger_codec.specs.Heard.{Noted}
use Rattle.async_window.specs.Mailbox.{Mail, mail_after}
use Rattle.requirement_table.specs.Opening.{Opening, width_of}
use Rattle.node_model.specs.Node.{NodeState, Opened, entries_of, identifiers_of}
use Rattle.node_model.specs.Own.{StandsIn}

same_node : (node : NodeState) (layout : CycleLayout) (entries : List Placed) (mail : List Mail) (opened : Option Opened) (next : ℕ)
    → node.layout ≡ layout → node.entries ≡ entries → node.mail ≡ mail → node.opened ≡ opened → node.next ≡ next
    → node ≡ record {
      number = node.number;
      layout = layout;
      entries = entries;
      mail = mail;
      opened = opened;
      next = next;
      frames = node.frames;
      noted = node.noted;
    }
same_node node layout entries mail opened next l e m o n =
    ap (λ x. record node { layout = x }) l
    ∙ ap (λ x. record node { layout = layout; entries = x }) e
    ∙ ap (λ x. record node { layout = layout; entries = entries; mail = x }) m
    ∙ ap (λ x. record node { layout = layout; entries = entries; mail = mail; opened = x }) o
    ∙ ap (λ x. record node { layout = layout; entries = entries; mail = mail; opened = opened; next = x }) n

-- the node of this number, with this cycle open, that heard so many frames and noted this one
abbrev pub standing : CycleLayout → List Owner → List Request → List Placed → List TimedFrame → ℕ → ℕ → Option Opened → ℕ → Noted → NodeState
standing layout owners requests placed past next number opened frames noted = record {
  number = number;
  layout = layout;
  entries = entries_of number placed;
  mail = mail_after (identifiers_of number owners) requests past;
  opened = opened;
  next = next;
  frames = frames;
  noted = noted;
}

-- the cycle as it is open for a node that heard these slots
abbrev pub opened_for : Opening → ℕ → Opened
opened_for opening heard = record { cycle = opening.cycle; width = width_of opening; mask = opening.mask; heard = heard }

same_opened : (o : Opened) (cycle width flags : ℕ) → o.cycle ≡ cycle → o.width ≡ width → o.mask ≡ flags
    → o ≡ record { cycle = cycle; width = width; mask = flags; heard = o.heard }
same_opened o cycle width flags c w f =
    ap (λ x. record o { cycle = x }) c
    ∙ ap (λ x. record o { cycle = cycle; width = x }) w
    ∙ ap (λ x. record o { cycle = cycle; width = width; mask = x }) f

pub standing_in-is : (layout : CycleLayout) (owners : List Owner) (requests : List Request) (opening : Opening) (past : List TimedFrame)
    (node : NodeState) (is : StandsIn layout owners requests opening past node)
    → node ≡ standing layout owners requests opening.placed past (opening.cycle + 1) node.number (Some (opened_for opening is.opened.heard)) node.frames node.noted
standing_in-is layout owners requests opening past node is =
    same_node node layout (entries_of node.number opening.placed) (mail_after (identifiers_of node.number owners) requests past)
    (Some (opened_for opening is.opened.heard)) (opening.cycle + 1)
    is.stands.same_layout is.stands.own_entries is.stands.own_mail
    (is.is_open.is_open ∙ ap (λ o. Some o) (same_opened is.opened opening.cycle (width_of opening) opening.mask is.is_open.cycle is.is_open.width is.is_open.mask))
    is.stands.next_cycle
