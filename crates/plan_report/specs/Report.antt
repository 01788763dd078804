-- *Report*: what was sent of each entry and of each owner's requests, and how wide the synchronous windows were, as the
-- text of a history and a trace. Each row ends with one line feed; numbers are decimal without leading zeros. Delays
-- are elementary cycles, widths are bit times.
use Rattle.std.specs.Prelude.{ℕ, zero, suc, ◌+◌, ◌-◌, ◌==◌, Bool, if◌then◌else◌, List, [], ◌∷◌, ◌++◌}
use Rattle.std.specs.Prelude.{length, map, min, max, Option, Some, None, codes}
use Rattle.std.specs.List.{flat_map, list_any, reduce, sum}
use Rattle.std.specs.Fmt.{decimal}
use Rattle.profile.specs.Limits.{first_identifier}
use Rattle.can_frame.specs.declared.data_frame.TimedFrame.{TimedFrame}
use Rattle.requirement_table.specs.declared.entries.Placed.{Placed}
use Rattle.requirement_table.specs.Instance.{instance_of, release_of}
use Rattle.requirement_table.specs.Opening.{width_of}
use Rattle.async_window.specs.declared.request.Owner.{Owner}
use Rattle.async_window.specs.declared.request.Request.{Request}
use Rattle.async_window.specs.Waiting.{frames_with, unsent_after}
use Rattle.master_core.specs.declared.event.Event.{Event}
use Rattle.master_core.specs.History.{placed_of}
use Rattle.master_core.specs.Openings.{openings_of}
use Rattle.bus_trace.specs.Log.{hex_digits, trigger_count_with}

-- What was sent of an entry

-- an instance, by its number, and a cycle in which a frame of its slot was sent and it may be sent
pub record Sending : Type 0 where
  pub number : ℕ
  pub cycle : ℕ

-- the sending of an instance in a cycle, where there is an instance
abbrev pub sending_at : ℕ → Option ℕ → List Sending
sending_at cycle None = []
sending_at cycle (Some number) = record { number = number; cycle = cycle } ∷ []

-- what a frame sends of an entry, where so many triggers stand in the trace up to it, itself included: behind the first
-- one it is in the cycle that is one less, and sends the entry's instance that may be sent in this cycle, where it has
-- the identifier of the entry's slot
abbrev pub sent_by : Placed → ℕ → TimedFrame → List Sending
sent_by p zero sent = []
sent_by p (suc cycle) sent =
    if sent.frame.identifier == first_identifier + p.entry.slot then sending_at cycle (instance_of p cycle) else []

-- the sendings of an entry's instances by the frames of a trace, in their order, where `seen` triggers came before
abbrev pub sendings : Placed → ℕ → List TimedFrame → List Sending
sendings p seen [] = []
sendings p seen (sent ∷ later) =
    sent_by p (trigger_count_with seen sent) sent ++ sendings p (trigger_count_with seen sent) later

-- whether the instance with this number is among those of the sendings
abbrev pub is_sent : List Sending → ℕ → Bool
is_sent sendings number = list_any (λ sending. sending.number == number) sendings

-- of sendings the first one of each instance, where `before` came before them
abbrev pub first_sendings : List Sending → List Sending → List Sending
first_sendings before [] = []
first_sendings before (sending ∷ later) =
    (if is_sent before sending.number then [] else sending ∷ []) ++ first_sendings (before ++ sending ∷ []) later

-- the instances of an entry that were sent in a trace, each once, with the cycle in which it was sent
abbrev pub sent_of : List TimedFrame → Placed → List Sending
sent_of trace p = first_sendings [] (sendings p 0 trace)

-- the delay of an instance: the cycle in which it was sent less its release
abbrev pub delay_of : Placed → Sending → ℕ
delay_of p sending = sending.cycle - release_of p sending.number

-- Rows

-- the least and the greatest of some numbers, where there are any
abbrev pub least_of : List ℕ → Option ℕ
least_of numbers = reduce min numbers

abbrev pub greatest_of : List ℕ → Option ℕ
greatest_of numbers = reduce max numbers

-- a number, where there is one; else the field is empty
abbrev pub field_of : Option ℕ → List ℕ
field_of None = []
field_of (Some number) = decimal number

-- the row of an entry with the delays of its instances that were sent: `entry,SLOT,ORIGIN,INSTANCES,LEAST,GREATEST`
abbrev pub delays_row : Placed → List ℕ → List ℕ
delays_row p delays =
    codes "entry," ++ decimal p.entry.slot ++ codes "," ++ decimal p.origin
    ++ codes "," ++ decimal (length delays) ++ codes ","
    ++ field_of (least_of delays) ++ codes "," ++ field_of (greatest_of delays) ++ codes "\n"

-- the row of an entry in a trace
abbrev pub entry_row : List TimedFrame → Placed → List ℕ
entry_row trace p = delays_row p (map (delay_of p) (sent_of trace p))

-- the number of identifiers, which have eleven bits
abbrev pub identifiers : ℕ
identifiers = 2048

-- whether the identifier has an owner
abbrev pub is_owned : List Owner → ℕ → Bool
is_owned owners id = list_any (λ owner. owner.id == id) owners

-- the identifiers below `n` that have an owner, the least one first
unfoldable pub owned_below : List Owner → ℕ → List ℕ
owned_below owners zero = []
owned_below owners (suc n) = owned_below owners n ++ (if is_owned owners n then n ∷ [] else [])

-- the row of an identifier with its frames that were sent and its requests that were not: `async,ID,SENT,LEFT`, with ID
-- as three hexadecimal digits
abbrev pub requests_row : ℕ → ℕ → ℕ → List ℕ
requests_row id sent left =
    codes "async," ++ hex_digits 3 id ++ codes "," ++ decimal sent ++ codes "," ++ decimal left ++ codes "\n"

-- the row of an identifier in a trace, whose end is that of the run
abbrev pub async_row : List TimedFrame → List Request → ℕ → List ℕ
async_row trace requests id = requests_row id (frames_with trace id) (length (unsent_after requests trace id))

-- the row of the widths of synchronous windows: `load,LEAST,GREATEST,SUM`
abbrev pub load_row : List ℕ → List ℕ
load_row widths =
    codes "load," ++ field_of (least_of widths) ++ codes ","
    ++ field_of (greatest_of widths) ++ codes "," ++ decimal (sum widths) ++ codes "\n"

-- *Report*: a row of each placed entry, in the order of placing; a row of each owned identifier, the least one first;
-- and the row of the widths of all opened cycles
abbrev pub report_text : List Event → List TimedFrame → List Owner → List Request → List ℕ
report_text history trace owners requests =
    flat_map (entry_row trace) (placed_of history)
    ++ flat_map (async_row trace requests) (owned_below owners identifiers)
    ++ load_row (map width_of (openings_of history))
