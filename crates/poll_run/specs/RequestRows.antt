-- The rows that tell of each request of a streams file whether its instance was sent.
use Rattle.std.specs.Prelude.{◌≡◌, ℕ, ◌+◌, List, [], ◌∷◌, ◌++◌, codes, Option}
use Rattle.std.specs.Fmt.{decimal}
use Rattle.can_frame.specs.declared.data_frame.TimedFrame.{TimedFrame}
use Rattle.master_core.specs.declared.event.Event.{Event}
use Rattle.master_core.specs.Openings.{openings_of}
use Rattle.bus_trace.specs.Log.{log_text}
use Rattle.sporadic_poll.specs.declared.fate.Fate.{Fate}
use Rattle.sporadic_poll.specs.declared.fate.Fate.TheVariants.{Waits, Taken, Sent}
use Rattle.sporadic_poll.specs.declared.stream.Stream.{Stream}
use Rattle.sporadic_poll.specs.Rides.{AreFates}

-- the row of a request whose instance was not sent: `waits,SLOT,NUMBER`, with the number of its row in the file
abbrev pub waits_row : ℕ → ℕ → List ℕ
waits_row slot number = codes "waits," ++ decimal slot ++ codes "," ++ decimal number ++ codes "\n"

-- the row of a request whose instance was sent: `ride,SLOT,NUMBER,RELEASE,CYCLE`, with the cycle in which the instance was
-- released, and the one in which it was sent
abbrev pub ride_row : ℕ → ℕ → ℕ → ℕ → List ℕ
ride_row slot number release cycle =
    codes "ride," ++ decimal slot ++ codes "," ++ decimal number
    ++ codes "," ++ decimal release ++ codes "," ++ decimal cycle ++ codes "\n"

-- the row of a request, by what became of it
abbrev pub request_row : ℕ → Stream → Fate → List ℕ
request_row number stream Waits = waits_row stream.slot number
request_row number stream (Taken release) = waits_row stream.slot number
request_row number stream (Sent release cycle) = ride_row stream.slot number release cycle

-- the rows of all requests, in the order of the file; the first of them has this number. A request of which nothing is
-- noted waits
abbrev pub request_rows : ℕ → List Stream → List Fate → List ℕ
request_rows number [] fates = []
request_rows number (stream ∷ streams) [] = waits_row stream.slot number ++ request_rows (number + 1) streams []
request_rows number (stream ∷ streams) (fate ∷ fates) =
    request_row number stream fate ++ request_rows (number + 1) streams fates

-- *Polled text*: the log of history and trace, and behind it the rows of the requests
pub record IsPolledText (streams : List Stream) (history : List Event) (carried : ℕ → ℕ → Option ℕ)
    (trace : List TimedFrame) (text : List ℕ) : Type 0 where
  pub fates : List Fate
  pub are : AreFates streams (openings_of history) carried fates
  pub text_is : text ≡ log_text history trace ++ request_rows 1 streams fates
