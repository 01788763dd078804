-- Traces of a CAN bus, and which of them arbitration decides (CAN 2.0 Part A, arbitration).
-- A trace is a list of timed frames. Times are whole bit times from 0.
use Rattle.std.specs.Prelude.{◌≡◌, ℕ, ◌+◌, ◌<◌, ◌≤◌, List, [], ◌∷◌, ◌++◌, All, AllPairs, Any, filter, fold, nat_lt, ◌↔◌}
use Rattle.can_frame.specs.DataFrame.{DataFrame}
use Rattle.can_frame.specs.Wire.{wire_length}
use Rattle.can_frame.specs.declared.data_frame.TimedFrame.{TimedFrame}

-- the first time at which the bus is free again after the frame
abbrev pub end_of : TimedFrame → ℕ
end_of sent = sent.start + sent.len

-- the first time, at or after `from`, at which the bus is free after these frames
abbrev pub free_after : ℕ → List TimedFrame → ℕ
free_after from frames = fold (λ _ sent. end_of sent) from frames

-- each length is the frame's wire length, and each frame starts at or after the end of the ones before it
pub record IsOrdered (trace : List TimedFrame) : Type 0 where
  pub lengths : All (λ sent. sent.len ≡ wire_length sent.frame) trace
  pub apart : AllPairs (λ earlier later. end_of earlier ≤ later.start) trace

-- what is offered on a bus: `offers past at frame` says that `frame` is offered at the time `at`
-- after the frames `past` were started before it
abbrev pub Offers : Type 1
Offers = List TimedFrame → ℕ → DataFrame → Type 0

-- the frames of the trace that start before the time
abbrev pub started_before : ℕ → List TimedFrame → List TimedFrame
started_before at trace = filter (λ sent. nat_lt sent.start at) trace

-- the frame is an offered one, with the least identifier among those that are offered with it
pub record IsLeastOffered (offers : Offers) (past : List TimedFrame) (at : ℕ) (frame : DataFrame) : Type 0 where
  pub offered : offers past at frame
  pub least : (other : DataFrame) → offers past at other → frame.identifier ≤ other.identifier

-- the CAN trace of the offers below the time `until`: it is ordered, all starts are below `until`, each frame
-- is the offered one with the least identifier at its start, and every time below `until` at which something is
-- offered lies within a frame's interval
pub record IsTrace (offers : Offers) (until : ℕ) (trace : List TimedFrame) : Type 0 where
  pub ordered : IsOrdered trace
  pub within : All (λ sent. sent.start < until) trace
  pub least : All (λ sent. IsLeastOffered offers (started_before sent.start trace) sent.start sent.frame) trace
  pub busy : (at : ℕ) (frame : DataFrame) → at < until → offers (started_before at trace) at frame
      → Any (λ sent. (sent.start ≤ at) × (at < end_of sent)) trace

-- nothing is offered at the times from `low` to below `high`, after the frames `past`
abbrev pub NothingOffered : Offers → List TimedFrame → ℕ → ℕ → Type 0
NothingOffered offers past low high = (at : ℕ) (frame : DataFrame) → low ≤ at → at < high → offers past at frame → ⊥

-- the frame that is sent next below `until` on a bus that is free from the time `free` on, after the frames `past`:
-- the least offered one, sent whole, at the first free time with an offer
pub record IsNext (offers : Offers) (past : List TimedFrame) (free until : ℕ) (sent : TimedFrame) : Type 0 where
  pub when_free : free ≤ sent.start
  pub within : sent.start < until
  pub first : NothingOffered offers past free sent.start
  pub least : IsLeastOffered offers past sent.start sent.frame
  pub whole : sent.len ≡ wire_length sent.frame

-- the frames below `until` on a bus that is free from `free` on, after the frames `past`, one after the other:
-- each is the next one, and behind the last one nothing is offered any more
abbrev pub Follows : Offers → List TimedFrame → ℕ → ℕ → List TimedFrame → Type 0
Follows offers past free until [] = NothingOffered offers past free until
Follows offers past free until (sent ∷ later) =
    IsNext offers past free until sent × Follows offers (past ++ sent ∷ []) (end_of sent) until later

-- frames that are offered at one time, with one identifier, after the same frames, are the same
abbrev pub IsDetermined : Offers → Type 0
IsDetermined offers = (past : List TimedFrame) (at : ℕ) (one other : DataFrame)
    → offers past at one → offers past at other
    → one.identifier ≡ other.identifier → one ≡ other

-- two kinds of offers agree along some frames, behind other pasts: behind each front of the frames, they offer the same
-- from the first free time on
abbrev pub AgreeAlong : Offers → Offers → List TimedFrame → List TimedFrame → ℕ → ℕ → List TimedFrame → Type 0
AgreeAlong offers others past other_past free until frames =
    (front back : List TimedFrame) (at : ℕ) (frame : DataFrame)
    → frames ≡ front ++ back → free_after free front ≤ at → at < until
    → (offers (past ++ front) at frame) ↔ (others (other_past ++ front) at frame)
