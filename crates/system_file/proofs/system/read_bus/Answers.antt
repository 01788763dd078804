use Rattle.std.proofs.Common.{◌≡◌, [], List, codes, refl, ap, ◌∙◌}
use Rattle.toml.specs.View.{table_view}
use Rattle.system_file.specs.SystemFile.{Row, bus_of, cycle_row, nodes_row, number_of, range_at, slots_row, turnaround_row, window_row}
use Rattle.system_file.specs.declared.system_fault.SystemFault.{SystemFault}
use Rattle.system_file.proofs.SystemFirst.{first_behind, first_in_front, handed-on}
use Rattle.system_file.proofs.system.read_bus.Goals as goal

pub returns-in_err-slots-clause-fault : goal.returns-in_err-slots-clause-fault
returns-in_err-slots-clause-fault c =
    let place = c.bus_of-bus.ensures.place in
    let members = c.bus_of-bus.ensures.members in
    let range : Row → List SystemFault = range_at (codes "bus.") (bus_of (table_view c.args.document.now)) in
    let cycle : range cycle_row ≡ [] = rw (place, members, c.new.ensures.start, c.new.ensures.end) at c.in_ok-cycle.ensures.ok in
    let turnaround : range turnaround_row ≡ [] = rw (place, members, c.new-2.ensures.start, c.new-2.ensures.end) at c.in_ok-turnaround.ensures.ok in
    let window : range window_row ≡ [] = rw (place, members, c.new-3.ensures.start, c.new-3.ensures.end) at c.in_ok-window.ensures.ok in
    let nodes : range nodes_row ≡ [] = rw (place, members, c.new-4.ensures.start, c.new-4.ensures.end) at c.in_ok-nodes.ensures.ok in
    let fault = c.in_err-slots.field-0.0 in
    let slots = rw (place, members) at c.in_err-slots.ensures.fault in
    handed-on _ c.from_residual-in_err-slots.result fault c.from_residual-in_err-slots.ensures.1
    (first_behind (range cycle_row) _ fault cycle
    (first_behind (range turnaround_row) _ fault turnaround
    (first_behind (range window_row) _ fault window
    (first_behind (range nodes_row) _ fault nodes
    (first_in_front (range slots_row) [] fault slots)))))

pub returns-clause-numbers : goal.returns-clause-numbers
returns-clause-numbers c =
    let members = c.bus_of-bus.ensures.members in
    record {
      cycle = c.in_ok-cycle.ensures.value ∙ ap (number_of cycle_row) members;
      turnaround = c.in_ok-turnaround.ensures.value ∙ ap (number_of turnaround_row) members;
      window = c.in_ok-window.ensures.value ∙ ap (number_of window_row) members;
      nodes = c.in_ok-nodes.ensures.value ∙ ap (number_of nodes_row) members;
      slots = c.in_ok-slots.ensures.slots ∙ ap (number_of slots_row) members;
    }

pub returns-clause-ok : goal.returns-clause-ok
returns-clause-ok c =
    let place = c.bus_of-bus.ensures.place in
    let members = c.bus_of-bus.ensures.members in
    let range : Row → List SystemFault = range_at (codes "bus.") (bus_of (table_view c.args.document.now)) in
    let cycle : range cycle_row ≡ [] = rw (place, members, c.new.ensures.start, c.new.ensures.end) at c.in_ok-cycle.ensures.ok in
    let turnaround : range turnaround_row ≡ [] = rw (place, members, c.new-2.ensures.start, c.new-2.ensures.end) at c.in_ok-turnaround.ensures.ok in
    let window : range window_row ≡ [] = rw (place, members, c.new-3.ensures.start, c.new-3.ensures.end) at c.in_ok-window.ensures.ok in
    let nodes : range nodes_row ≡ [] = rw (place, members, c.new-4.ensures.start, c.new-4.ensures.end) at c.in_ok-nodes.ensures.ok in
    let slots : range slots_row ≡ [] = rw (place, members) at c.in_ok-slots.ensures.ok in
    rw (cycle, turnaround, window, nodes, slots) refl
