-- *Summary*: the counts of a run, as the text that `gen` writes. Each row ends with one line feed; numbers are decimal
-- without leading zeros.
use Rattle.std.specs.Prelude.{ℕ, ◌+◌, ◌-◌, ◌&&◌, Bool, false, not, List, ◌++◌, codes, count_by, nat_le, nat_lt}
use Rattle.std.specs.List.{sum_by}
use Rattle.std.specs.Fmt.{decimal}
use Rattle.profile.specs.Limits.{first_identifier, least_asynchronous}
use Rattle.can_frame.specs.declared.data_frame.TimedFrame.{TimedFrame}
use Rattle.admission.specs.Verdict.{is_accepted}
use Rattle.master_core.specs.declared.event.Event.{Event}
use Rattle.master_core.specs.declared.event.Event.TheVariants.{Submit, Look, Open}
use Rattle.master_core.specs.History.{accepts, is_open}

-- whether the event refuses a change
abbrev pub refuses : Event → Bool
refuses (Submit caller change from verdict trail) = not (is_accepted verdict)
refuses (Look caller next) = false
refuses (Open cycle mask) = false

-- whether the frame is a synchronous one of a generated system, which has 40 slots: it has an identifier from 0x100 to
-- 0x127
abbrev pub is_synchronous : TimedFrame → Bool
is_synchronous sent =
    nat_le first_identifier sent.frame.identifier && nat_lt sent.frame.identifier (first_identifier + 40)

-- whether the frame is an asynchronous one: it has an identifier from 0x200 on
abbrev pub is_asynchronous : TimedFrame → Bool
is_asynchronous sent = nat_le least_asynchronous sent.frame.identifier

-- a row of a name and a number
abbrev pub row : List ℕ → ℕ → List ℕ
row name number = name ++ codes "," ++ decimal number ++ codes "\n"

-- *Summary*: the number that made the input; the changes that were accepted, those that were refused, and the opened
-- cycles; the synchronous and the asynchronous frames; how many of so many requests were left, where each asynchronous
-- frame sent one; the bit times that the frames took; and the last row
unfoldable pub summary_text : ℕ → List Event → List TimedFrame → ℕ → List ℕ
summary_text number history trace requests =
    row (codes "gen") number ++ row (codes "accepted") (count_by accepts history)
    ++ row (codes "refused") (count_by refuses history) ++ row (codes "cycles") (count_by is_open history)
    ++ row (codes "synchronous") (count_by is_synchronous trace)
    ++ row (codes "asynchronous") (count_by is_asynchronous trace)
    ++ row (codes "left") (requests - count_by is_asynchronous trace)
    ++ row (codes "busy") (sum_by (λ sent. sent.len) trace) ++ codes "end\n"
