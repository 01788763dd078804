-- What a node does while it runs besides what it does with frames: it takes requests, and goes on behind cycles whose
-- trigger frames it did not hear.
use Rattle.std.specs.Prelude.{ℕ, List, All, Option, Some, None, is_some, if◌then◌else◌, map, option_map}
use Rattle.async_window.specs.declared.request.Request.{Request}
use Rattle.async_window.specs.declared.request.Owner.{Owner}
use Rattle.can_frame.specs.declared.data_frame.TimedFrame.{TimedFrame}
use Rattle.async_window.specs.Adding.{with_request}
use Rattle.async_window.specs.Online.{HaveArrived, forgotten_mail}
use Rattle.async_window.specs.Mailbox.{mail_after}
use Rattle.node_model.specs.Node.{NodeState, Opened, identifiers_of}
use Rattle.node_model.specs.declared.online.OpenCycle.{OpenCycle}

-- a node that has a request more, behind the unsent ones of its identifier
abbrev pub after_put : Request → NodeState → NodeState
after_put request node = record node { mail = map (with_request request) node.mail }

-- a node whose next cycle is this one, and for which none is open
abbrev pub passed_to : ℕ → NodeState → NodeState
passed_to cycle node = record node { opened = None; next = cycle; noted = None }

-- the cycle in which the node is: the next one, of whose trigger frames it heard the first, or else the open one
abbrev pub cycle_now : NodeState → Option ℕ
cycle_now node = if is_some node.noted then Some node.next else option_map (λ o. o.cycle) node.opened

-- the cycle that is open for the node, where no trigger frame of the next one is noted
abbrev pub open_now : NodeState → Option Opened
open_now node = if is_some node.noted then None else node.opened

-- what the node's driver may know of it
abbrev pub cycle_of : Opened → OpenCycle
cycle_of opened = record { cycle = opened.cycle; width = opened.width; mask = opened.mask }

-- a node that has forgotten when its requests arrived
abbrev pub forgetting : NodeState → NodeState
forgetting node = record node { mail = forgotten_mail node.mail }

-- all unsent requests of the node have arrived at a time
abbrev pub AllArrived : ℕ → NodeState → Type 0
AllArrived at node = All (λ box. HaveArrived at box.unsent) node.mail

-- what a node that takes requests while it runs knows of what this node knows, which was given all requests at the start:
-- it was given these so far, on the whole bus, and has forgotten when they arrived
abbrev pub serving : List Owner → List Request → List TimedFrame → NodeState → NodeState
serving owners requests past node =
    forgetting (record node { mail = mail_after (identifiers_of node.number owners) requests past })
