-- What a call from C asks for, and what it does: as the program does with the same words and files, where `live` is no
-- command.
use Rattle.std.specs.Prelude.{◌≡◌, ◌==◌, ◌⊎◌, ℕ, List, [], length, codes, if◌then◌else◌, None, Some}
use Rattle.std.specs.List.{slice_split}
use Rattle.std.specs.Str.{bytes_eq, is_utf8}
use Rattle.ftt_io.specs.Files.{NamedFiles}
use Rattle.command_words.specs.Words.{command_of}
use Rattle.asked_files.specs.declared.stopping.Refusal.{Refusal}
use Rattle.fttcan_top.specs.declared.status.Status.{Status}
use Rattle.fttcan_top.specs.Ends.{Did}
use Rattle.fttcan_top.specs.Output.{Says, message_of}

-- *Words*: the parts of the bytes between bytes 0, where all of them are UTF-8. Otherwise there are no words, which is
-- no command
abbrev pub words_of : List ℕ → List (List ℕ)
words_of bytes = if is_utf8 bytes then slice_split (λ byte. byte == 0) bytes else []

-- *Files*: four, named 0, 1, 2 and 3
abbrev pub files_of : List ℕ → List ℕ → List ℕ → List ℕ → NamedFiles
files_of file0 file1 file2 file3 name =
    if bytes_eq name (codes "0") then Some file0
    else if bytes_eq name (codes "1") then Some file1
    else if bytes_eq name (codes "2") then Some file2
    else if bytes_eq name (codes "3") then Some file3
    else None

-- *Call*: these words were carried out over these files, with room for so many bytes of output and of messages. The
-- call ended with this status, and put these bytes to the output and these to the messages
pub record IsCalled (words : List (List ℕ)) (files : NamedFiles) (out_room err_room : ℕ) (status : Status)
    (out err : List ℕ) : Type 0 where
  pub refusal : Refusal
  pub before : ℕ
  pub behind : ℕ
  -- what it did, as the program does. No file fails to be read but where there is none of its name, and the output is
  -- cut short only where its room is full
  pub did : Did (command_of words) (Some files) before behind ⊥ (length out ≡ out_room) (Some []) (Some out) status
      refusal
  pub command : command_of words ≡ None → (status ≡ Status.Words) ⊎ (status ≡ Status.Memory)
  -- the messages: the lines of the status, or their first bytes, which fill the room
  pub message : Says (Some []) (Some err) (length err ≡ err_room) (message_of status refusal)
