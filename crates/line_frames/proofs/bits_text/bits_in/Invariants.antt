-- The bits so far are those of the bytes so far, each of which writes a bit or none.
use Rattle.std.proofs.Common.{◌≡◌, ◌≤◌, All, length, take}
use Rattle.line_frames.specs.BitsText.{IsBitByte, bits_in}
use Rattle.line_frames.proofs.bits_text.bits_in.Given as goal

abbrev pub invariant-loop-place : goal.invariant-loop-place
invariant-loop-place l = record {
  bits : l.bits.items ≡ bits_in (take l.place l.text);
  few : length l.bits.items ≤ l.place;
  written : All IsBitByte (take l.place l.text);
}
