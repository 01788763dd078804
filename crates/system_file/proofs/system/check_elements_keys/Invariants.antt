use Rattle.std.proofs.Common.{◌≡◌, map}
use Rattle.toml.specs.View.{view}
use Rattle.system_file.specs.SystemFile.{from_place, unknown_in_element}
use Rattle.system_file.proofs.SystemElements.{left}
use Rattle.system_file.proofs.system.check_elements_keys.Given as goal

abbrev pub invariant-loop-index : goal.invariant-loop-index
invariant-loop-index l = from_place unknown_in_element 0 (map view l.elements) ≡ left unknown_in_element l.elements l.index
