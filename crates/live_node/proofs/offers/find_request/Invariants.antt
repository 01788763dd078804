use Rattle.std.proofs.Common.{◌≡◌, ℕ, ◌+◌, ◌-◌, ◌<◌, drop, filter, length, map}
use Rattle.std.specs.Prelude.{IfSome, option_map}
use Rattle.std.specs.List.{cons_option}
use Rattle.async_window.specs.Mailbox.{least_of}
use Rattle.live_node.specs.Sending.{may_start, request_offer}
use Rattle.live_node.proofs.Requests.{HasUntil}
use Rattle.live_node.proofs.offers.find_request.Given as goal

abbrev pub invariant-loop-mailbox : goal.invariant-loop-mailbox
invariant-loop-mailbox l = record {
  offer : least_of (cons_option (option_map (λ offer. offer.id) l.least)
      (map (λ box. box.identifier) (filter (may_start l.layout l.width l.into) (drop l.mailbox-index l.boxes))))
      ≡ request_offer l.layout l.width l.into l.boxes;
  until : IfSome l.least (HasUntil l.layout l.width l.boxes);
}
