-- What a node offers lies in its windows.
use Rattle.std.proofs.Common.{◌≡◌, ℕ, ◌+◌, ◌-◌, ◌<◌, ◌≤◌, ◌&&◌, ◌||◌, Bool, true, false, not, is_some, Option, Some, None, ◌⊎◌, inl, inr, refl, sym, ap, ◌∙◌, arith}
use Rattle.std.specs.Option.{option_map_or}
use Rattle.std.specs.Prelude.{if◌then◌else◌}
use Rattle.std.proofs.lemmas.Bool.{and_parts, false≢true}
use Rattle.bit_sets.specs.Sets.{has_bit}
use Rattle.requirement_table.specs.Table.{instance_in}
use Rattle.node_model.specs.Node.{NodeState, Opened, is_due}
use Rattle.node_model.specs.Online.{open_now}
use Rattle.node_model.specs.Window.{is_due_slot}
use Rattle.live_node.specs.Live.{AreWaiting, LiveView}
use Rattle.live_node.specs.Sending.{has_set, is_owed, is_ready, live_offer}
use Rattle.live_node.specs.Windows.{OffersRequest, OffersSlot, Reaches}
use Rattle.live_node.proofs.Offered.{first-of, offers-in_windows}

pub reaches-little : (view : LiveView) (into id start off : ℕ) → AreWaiting view.mail → live_offer view into ≡ Some id
    → start ≤ into + off → into ≤ start + off → Reaches view id start off
reaches-little view into id start off known offered late early =
    elim (offers-in_windows view known into id offered) [
      | inl request ↦ record {
        opened = request.opened;
        is_open = request.is_open;
        reaches = inl (record {
          frame = request.frame;
          first = first-of view known id request.box request.frame request.here request.first;
          begun = omega (arith, request.begun, early);
          whole = omega (arith, request.whole, late);
        });
      }
      | inr slot ↦ record {
        opened = slot.1.opened;
        is_open = slot.1.is_open;
        reaches = inr (record {
          slot = slot.0;
          identifier = slot.1.identifier;
          ready = slot.1.ready;
          begun = omega (arith, slot.1.begun, early);
          whole = omega (arith, slot.1.whole, late);
        });
      }
    ]

-- a cycle that is open is the opened one
open-is : (noted : Bool) (o : Option Opened) (opened : Opened) → (if noted then None else o) ≡ Some opened → o ≡ Some opened
open-is true o opened none = absurd (grind arith)
open-is false o opened is = is

pub opened-is : (node : NodeState) (opened : Opened) → open_now node ≡ Some opened → node.opened ≡ Some opened
opened-is node opened is = open-is (is_some node.noted) node.opened opened is

not-of : (b : Bool) → not b ≡ true → b ≡ false
not-of true none = absurd (false≢true none)
not-of false is = refl

or-set : (silent set : Bool) → (not silent || set) ≡ true → silent ≡ true → set ≡ true
or-set true set is quiet = is
or-set false set is quiet = absurd (false≢true quiet)

pub ready-flagged : (view : LiveView) (slot : ℕ) (opened : Opened) → is_ready view slot ≡ true → open_now view.state ≡ Some opened
    → (has_bit opened.mask slot ≡ true) × (is_some (instance_in view.state.entries slot opened.cycle) ≡ true)
    × (has_bit view.sent slot ≡ false) × (has_bit view.loaded slot ≡ false) × (view.silent ≡ true → has_set view slot ≡ true)
ready-flagged view slot opened ready is =
    let parts = and_parts (is_owed view slot) (not (has_bit view.loaded slot) && (not view.silent || has_set view slot)) ready in
    let free = and_parts (not (has_bit view.loaded slot)) (not view.silent || has_set view slot) parts.1 in
    let owed = and_parts (is_some (open_now view.state)) (is_due_slot view.state slot && not (has_bit view.sent slot)) parts.0 in
    let due = and_parts (is_due_slot view.state slot) (not (has_bit view.sent slot)) owed.1 in
    let flagged : is_due view.state.entries opened slot ≡ true
    = ap (λ o. option_map_or (λ x. is_due view.state.entries x slot) o false) (sym (opened-is view.state opened is)) ∙ due.0 in
    let flag = and_parts (has_bit opened.mask slot) (is_some (instance_in view.state.entries slot opened.cycle) && not (has_bit opened.heard slot)) flagged in
    let instance = and_parts (is_some (instance_in view.state.entries slot opened.cycle)) (not (has_bit opened.heard slot)) flag.1 in
    (flag.0, instance.0, not-of (has_bit view.sent slot) due.1, not-of (has_bit view.loaded slot) free.0, or-set view.silent (has_set view slot) free.1)
