use Rattle.std.proofs.Common.{◌≡◌, ◌+◌, ◌-◌, ◌++◌, drop, length}
use Rattle.text_fields.proofs.row_parts.put_word.Given as goal

-- the bytes of the word from this place on stand
abbrev pub invariant-loop-place : goal.invariant-loop-place
invariant-loop-place g l = record {
  bytes : drop l.start l.row ≡ drop l.place l.word ++ drop l.end l.initial.row;
  size : l.start + (length l.word - l.place) ≡ l.end;
}
