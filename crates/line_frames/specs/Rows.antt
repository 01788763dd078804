-- The rows that tell of a line.
use Rattle.std.specs.Prelude.{ℕ, List, ◌++◌, length, codes}
use Rattle.std.specs.Fmt.{decimal}
use Rattle.std.specs.List.{flat_map}
use Rattle.can_frame.specs.declared.data_frame.TimedFrame.{TimedFrame}
use Rattle.can_frame.specs.declared.wire_fault.WireFault.{WireFault}
use Rattle.can_frame.specs.DataFrame.{DataFrame}
use Rattle.can_frame.specs.declared.wire_fault.WireFault.TheVariants.{Stuff, Form, Crc, Short, Tail, Memory}
use Rattle.text_fields.specs.Hexadecimal.{hex_digits}

-- the fields of a frame: three hexadecimal digits of its identifier, the number of its data bytes, and two hexadecimal
-- digits for each of them
abbrev pub frame_fields : DataFrame → List ℕ
frame_fields frame =
    hex_digits 3 frame.identifier ++ codes "," ++ decimal (length frame.bytes) ++ codes ","
    ++ flat_map (hex_digits 2) frame.bytes

-- the row of a frame: `START,ID,BYTES,DATA,LEN`
abbrev pub frame_row : TimedFrame → List ℕ
frame_row sent =
    decimal sent.start ++ codes "," ++ frame_fields sent.frame ++ codes "," ++ decimal sent.len ++ codes "\n"

-- the last row of a line that is whole: the number of its bits
abbrev pub end_row : ℕ → List ℕ
end_row count = codes "end," ++ decimal count ++ codes "\n"

-- what is found where no whole frame begins
abbrev pub why : WireFault → List ℕ
why (Stuff place) = codes "stuff," ++ decimal place
why (Form place) = codes "form," ++ decimal place
why (Crc sent computed) = codes "crc," ++ hex_digits 4 sent ++ codes "," ++ hex_digits 4 computed
why (Short have) = codes "short," ++ decimal have
-- these two are never found in a line
why (Tail place) = codes "tail," ++ decimal place
why Memory = codes "memory"

-- the row of a line that breaks: `no,START,WHY`
abbrev pub no_row : ℕ → WireFault → List ℕ
no_row start fault = codes "no," ++ decimal start ++ codes "," ++ why fault ++ codes "\n"
