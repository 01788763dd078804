-- The text of a fault of a system file, as a user is told it.
use Rattle.std.specs.Prelude.{ℕ, if◌then◌else◌, List, ◌++◌, map, codes}
use Rattle.std.specs.Char.{is_control}
use Rattle.std.specs.Fmt.{decimal}
use Rattle.std.specs.Str.{chars, encode_utf8_all}
use Rattle.system_file.specs.declared.system_fault.SystemFault.{SystemFault}
use Rattle.system_file.specs.declared.system_fault.SystemFault.TheVariants.{Toml, Key, Range, Narrow, Memory}

-- a character as a path shows it: `?`, whose code is 63, in place of a control character (Unicode, general category Cc)
abbrev pub shown_character : ℕ → ℕ
shown_character character = if is_control character then 63 else character

-- a path as it is shown
unfoldable pub shown_path : List ℕ → List ℕ
shown_path path = encode_utf8_all (map shown_character (chars path))

-- what is told of a fault
abbrev pub system_fault_text : SystemFault → List ℕ
system_fault_text Toml = codes "toml"
system_fault_text (Key path) = codes "key " ++ shown_path path
system_fault_text (Range path) = codes "range " ++ shown_path path
system_fault_text (Narrow need have) = codes "narrow " ++ decimal need ++ codes " " ++ decimal have
system_fault_text Memory = codes "out of memory"

-- the line of a fault: what is told, with `system: ` before it where the fault is that of the system file
abbrev pub system_fault_line : SystemFault → List ℕ
system_fault_line Memory = system_fault_text Memory ++ codes "\n"
system_fault_line fault = codes "system: " ++ system_fault_text fault ++ codes "\n"
