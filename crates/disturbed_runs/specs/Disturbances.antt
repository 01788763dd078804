-- Disturbances, and what each of them costs (CAN 2.0 Part A, error frame, overload frame and interframe space). Times and
-- lengths are bit times.
use Rattle.std.specs.Prelude.{◌≡◌, ℕ, ◌+◌, ◌-◌, ◌<◌, ◌≤◌, ◌⊎◌, List, All, Contains, length, map, count_by, nat_lt, ◌&&◌, Bool}
use Rattle.can_frame.specs.DataFrame.{DataFrame}
use Rattle.can_frame.specs.Wire.{wire_length}
use Rattle.stuff_bound.specs.Stuffing.{worst}
use Rattle.can_frame.specs.declared.data_frame.TimedFrame.{TimedFrame}
use Rattle.bus_line.specs.Trace.{Offers, end_of, started_before}
use Rattle.disturbed_runs.specs.Outages.{Outage, end_of_outage}

-- how long an error passive sender waits behind the intermission before it sends again (suspend transmission)
abbrev pub suspend_time : ℕ
suspend_time = 8

-- how long it takes at most from a disturbed bit to the next start of a frame: two error flags one behind the other,
-- the error delimiter, the intermission, and the wait of an error passive sender
abbrev pub longest_recovery : ℕ
longest_recovery = 12 + 8 + 3 + suspend_time

-- the bits of intermission, which are counted with a frame
abbrev pub intermission : ℕ
intermission = 3

-- of an idle bus, the bits from one that is taken for the start of a frame to the stuff error behind it
abbrev pub false_start : ℕ
false_start = 6

-- an attempt to send the frame from `at` on was cut at one of its bits before the intermission, and this is the outage.
-- The bit is the one at which a node sees the error: what only the CRC shows was hit before it
pub record IsCut (at : ℕ) (frame : DataFrame) (outage : Outage) : Type 0 where
  pub bit : ℕ
  pub inside : bit + intermission < wire_length frame
  pub starts : outage.start ≡ at
  pub ends : end_of_outage outage ≤ at + bit + 1 + longest_recovery

-- what a disturbance costs at most where frames have at most so many data bytes: the longest frame but for its
-- intermission, and the recovery
abbrev pub cost_of_cut : ℕ → ℕ
cost_of_cut bytes = worst bytes + (longest_recovery - intermission)

-- a disturbance: the bit at which a node sees it, and the outage that it makes
pub record Disturbance : Type 0 where
  pub seen : ℕ
  pub outage : Outage

-- a frame that might start at `at` was started then, and its sender gave it up at this bit: it sends it again
pub record IsGivenUp (may : Offers) (trace : List TimedFrame) (at : ℕ) (frame : DataFrame) (bit : ℕ) (it : Disturbance) : Type 0 where
  pub allowed : may (started_before at trace) at frame
  pub short : length frame.bytes ≤ 8
  pub its_bit : it.seen ≡ at + bit
  pub starts : it.outage.start ≡ at
  pub ends : end_of_outage it.outage ≤ it.seen + 1 + longest_recovery

-- a frame is seen to be wrong at one of its bits up to the last one but one: no node takes it. So it is too where a hit of
-- the bits right before it made a node take these for its start
pub record CutsFrame (may : Offers) (trace : List TimedFrame) (it : Disturbance) : Type 0 where
  pub at : ℕ
  pub frame : DataFrame
  pub bit : ℕ
  pub inside : bit + 1 + intermission < wire_length frame
  pub given_up : IsGivenUp may trace at frame bit it

-- its sender sees an error at the frame's last bit: receivers have it then, and get it once more
pub record HitsLastBit (may : Offers) (trace : List TimedFrame) (it : Disturbance) : Type 0 where
  pub at : ℕ
  pub frame : DataFrame
  pub bit : ℕ
  pub last : bit + 1 + intermission ≡ wire_length frame
  pub given_up : IsGivenUp may trace at frame bit it

-- a bit of the intermission behind a frame that was sent: an overload frame follows
pub record HitsIntermission (trace : List TimedFrame) (it : Disturbance) : Type 0 where
  pub sent : TimedFrame
  pub among : Contains trace sent
  pub from : end_of sent ≤ it.seen + intermission
  pub before : it.seen < end_of sent
  pub starts : it.outage.start ≡ it.seen
  pub ends : end_of_outage it.outage ≤ it.seen + 1 + longest_recovery

-- a bit of the idle bus is taken for the start of a frame, of which no bit follows
pub record HitsIdleBus (trace : List TimedFrame) (it : Disturbance) : Type 0 where
  pub idle : All (λ sent. (it.seen < sent.start) ⊎ (end_of sent ≤ it.seen)) trace
  pub starts : it.outage.start ≡ it.seen
  pub ends : end_of_outage it.outage ≤ it.seen + false_start + 1 + longest_recovery

-- a bit of an error frame or an overload frame: another one follows
pub record HitsErrorFrame (all : List Disturbance) (it : Disturbance) : Type 0 where
  pub other : Disturbance
  pub among : Contains all other
  pub from : other.seen < it.seen
  pub before : it.seen < end_of_outage other.outage
  pub starts : it.outage.start ≡ it.seen
  pub ends : end_of_outage it.outage ≤ it.seen + 1 + longest_recovery

-- what a disturbance can hit, and what it costs then
abbrev pub IsDisturbance : Offers → List TimedFrame → List Disturbance → Disturbance → Type 0
IsDisturbance may trace all it =
    CutsFrame may trace it
    ⊎ (HitsLastBit may trace it
    ⊎ (HitsIntermission trace it
    ⊎ (HitsIdleBus trace it
    ⊎ HitsErrorFrame all it)))

abbrev pub outages_of : List Disturbance → List Outage
outages_of all = map (λ it. it.outage) all

-- how far behind the bit at which it is seen an outage ends at most: 38 bit times
abbrev pub longest_reach : ℕ
longest_reach = false_start + 1 + longest_recovery

-- how many disturbances may be felt from `low` to below `high`: they are seen from 38 bit times before `low` on, and what
-- they hit began before `high`
abbrev pub felt_in : ℕ → ℕ → List Disturbance → ℕ
felt_in low high all = count_by (λ it. nat_lt low (it.seen + longest_reach) && nat_lt it.outage.start high) all
