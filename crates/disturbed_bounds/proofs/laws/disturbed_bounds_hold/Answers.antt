use Rattle.std.proofs.Common.{◌+◌, ◌++◌}
use Rattle.std.proofs.lemmas.List.Elements.{Contains-append_left}
use Rattle.async_bound.specs.Bound.{blocking, longest_up_to}
use Rattle.disturbed_bounds.specs.Bounds.{wider}
use Rattle.disturbed_bounds.proofs.Answered.{starts}
use Rattle.disturbed_bounds.proofs.laws.disturbed_bounds_hold.Goals as goal

pub returns : goal.returns
returns c = record {
  starts = λ setting reserve guard late silent asks history outages trace streams faults stream span place request
      is_reserved known whole forgets legal sends are of has fitting little is within.
      starts setting reserve guard late silent asks history outages trace is_reserved whole forgets legal sends (longest_up_to (streams ++ faults) stream.id)
      streams faults stream (blocking (streams ++ faults)) span has
      (c.fitting_is_bound.ensures.bound (wider setting.layout (reserve + guard)) (streams ++ faults) stream span known are (Contains-append_left streams faults stream has) fitting)
      little are of place request is within;
}
