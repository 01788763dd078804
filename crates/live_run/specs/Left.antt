-- How many requests of a run are not sent.
use Rattle.std.specs.Prelude.{ℕ, List, length, map, sum_by}
use Rattle.can_frame.specs.declared.data_frame.TimedFrame.{TimedFrame}
use Rattle.async_window.specs.declared.request.Owner.{Owner}
use Rattle.async_window.specs.declared.request.Request.{Request}
use Rattle.async_window.specs.Mailbox.{left, mail_after}
use Rattle.async_window.specs.Waiting.{unsent_after}
use Rattle.node_model.specs.Node.{NodeState, identifiers_of}

-- how many requests are not sent once these frames were: of each owner, those of its identifier
abbrev pub left_of : List Owner → List Request → List TimedFrame → ℕ
left_of owners requests trace = sum_by (λ owner. length (unsent_after requests trace owner.id)) owners

-- the numbers of nodes
abbrev pub numbers_of : List NodeState → List ℕ
numbers_of nodes = map (λ node. node.number) nodes

-- the same of the owners whose nodes have these numbers, node by node
abbrev pub left_at : List Owner → List Request → List TimedFrame → List ℕ → ℕ
left_at owners requests trace numbers =
    sum_by (λ number. left (mail_after (identifiers_of number owners) requests trace)) numbers
