use Rattle.bus_line.proofs.Traces.{Follows-from_trace, trace_from_Follows, only-trace, IsOrdered-from_Follows, within_from_Follows, Follows-behind, Follows-joined}
use Rattle.bus_line.proofs.laws.trace_laws.Goals as goal

pub returns-clause-one_by_one : goal.returns-clause-one_by_one
returns-clause-one_by_one g c = λ setting until trace.
    let offers = g.O.Offering.offers setting in
    (Follows-from_trace offers until trace, trace_from_Follows offers until trace)

pub returns-clause-only_one : goal.returns-clause-only_one
returns-clause-only_one g c = λ setting. only-trace (g.O.Offering.offers setting)

pub returns-clause-ordered : goal.returns-clause-ordered
returns-clause-ordered g c = λ setting past free until. IsOrdered-from_Follows (g.O.Offering.offers setting) until past free

pub returns-clause-within : goal.returns-clause-within
returns-clause-within g c = λ setting past free until. within_from_Follows (g.O.Offering.offers setting) until past free

pub returns-clause-behind : goal.returns-clause-behind
returns-clause-behind g c = λ setting past free until. Follows-behind (g.O.Offering.offers setting) until past free

pub returns-clause-joined : goal.returns-clause-joined
returns-clause-joined g c = λ setting. Follows-joined (g.O.Offering.offers setting)
