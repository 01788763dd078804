-- The node of the bus model that a node in use stands for.
use Rattle.std.specs.Prelude.{◌≡◌, ℕ, ◌+◌, ◌-◌, ◌<◌, ◌≤◌, true, false, All, length, map, option_map}
use Rattle.stuff_bound.specs.Stuffing.{worst}
use Rattle.bit_sets.specs.Sets.{has_bit, most_slots}
use Rattle.node_model.specs.Window.{due_bytes}
use Rattle.live_node.specs.Sending.{is_owed}
use Rattle.can_frame.specs.DataFrame.{DataFrame}
use Rattle.async_window.specs.Mailbox.{Mail}
use Rattle.async_window.specs.declared.request.Request.{Request}
use Rattle.node_model.specs.Node.{NodeState, Opened}
use Rattle.live_node.specs.Live.{LiveView, Waiting}

-- a request of which is forgotten when it arrived
abbrev pub request_of : DataFrame → Request
request_of frame = record { at = 0; frame = frame }

abbrev pub mail_of : Waiting → Mail
mail_of box = record { identifier = box.identifier; unsent = map request_of box.frames }

-- an open cycle in which these slots were heard
abbrev pub heard_in : ℕ → Opened → Opened
heard_in sent opened = record opened { heard = sent }

-- the node of the model: it has the requests that wait, and has heard the slots that were sent
abbrev pub model_of : LiveView → NodeState
model_of view = record view.state {
  mail = map mail_of view.mail;
  opened = option_map (heard_in view.sent) view.state.opened;
}

-- nothing keeps back what the node has to send: no frame is in flight, it leaves no slot silent, it heard no slot but by being
-- told, and each slot that it owes still ends in the cycle
pub record IsPlain (view : LiveView) (opened : Opened) (into : ℕ) : Type 0 where
  pub still : All (λ box. box.loaded ≡ false) view.mail
  pub free : (slot : ℕ) → has_bit view.loaded slot ≡ false
  pub loud : view.silent ≡ false
  pub unheard : (slot : ℕ) → has_bit opened.heard slot ≡ false
  pub in_time : (slot : ℕ) → slot < most_slots → is_owed view slot ≡ true
      → view.state.layout.cycle - opened.width ≤ into
      → into + worst (length (due_bytes view.state slot)) ≤ view.state.layout.cycle
