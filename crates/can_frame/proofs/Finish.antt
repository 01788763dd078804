-- What a reader finds behind the stuffed part of a frame.
use Rattle.std.proofs.Common.{◌≡◌, ℕ, suc, ◌+◌, ◌<◌, ◌≤◌, Bool, true, false, not, [], ◌∷◌, ◌++◌, length, get_or, take, drop, Ok, Err, append_assoc, refl, sym, ap, ◌∙◌, inr}
use Rattle.std.specs.Bool.{beq}
use Rattle.std.proofs.Math.Seq.{split_at}
use Rattle.std.proofs.lemmas.List.{append-nil, length-append, take_all}
use Rattle.stuff_bound.specs.Stuffing.{stuffed}
use Rattle.can_frame.specs.declared.wire_fault.WireFault.TheVariants.{Form, Short}
use Rattle.can_frame.specs.DataFrame.{DataFrame, IsFrame}
use Rattle.can_frame.specs.Wire.{plain, trailer, wire_of}
use Rattle.can_frame.specs.Reading.{Reads, ReadsFront}
use Rattle.can_frame.specs.Progress.{Progress, all_bits}
use Rattle.can_frame.proofs.OneAnswer.{length-wire}

-- `count` of the thirteen bits were read behind the stuffed part
pub record Trailed (old at : Progress) (count : ℕ) : Type 0 where
  pub all : all_bits at ≡ all_bits old
  pub read : at.read ≡ old.read ++ take count trailer

-- all bits, from the stuffed part on
given : (old at : Progress) (frame : DataFrame) (count : ℕ) → old.read ≡ stuffed (plain frame) → Trailed old at count → all_bits old ≡ stuffed (plain frame) ++ (take count trailer ++ at.rest)
given old at frame count is h =
    sym h.all ∙ ap (λ read. read ++ at.rest) (h.read ∙ ap (λ read. read ++ take count trailer) is) ∙ append_assoc (stuffed (plain frame)) (take count trailer) at.rest

read_len : (old at : Progress) (frame : DataFrame) (count : ℕ) → old.read ≡ stuffed (plain frame) → Trailed old at count → length at.read ≡ length (stuffed (plain frame)) + length (take count trailer)
read_len old at frame count is h =
    ap length (h.read ∙ ap (λ read. read ++ take count trailer) is) ∙ length-append (stuffed (plain frame)) (take count trailer)

-- the bits end before the last of the thirteen
pub early_found : (old at : Progress) (frame : DataFrame) (count have : ℕ) → IsFrame frame → old.read ≡ stuffed (plain frame) → Trailed old at count → count < 13 → at.rest ≡ [] → have ≡ length (all_bits at)
    → Reads (all_bits old) (Err (Short have))
early_found old at frame count have legal is h below none long = (
  long ∙ ap length h.all,
  inr (record {
    frame = frame;
    before = take count trailer;
    bit = get_or trailer count false;
    due = drop (suc count) trailer;
    legal = legal;
    split = given old at frame count is h ∙ ap (λ rest. stuffed (plain frame) ++ (take count trailer ++ rest)) none ∙ ap (λ v. stuffed (plain frame) ++ v) (append-nil (take count trailer));
    missing = split_at trailer count false below;
  }),
)

-- a bit that is not the due one is its opposite
opposite : (bit due : Bool) → not (beq bit due) ≡ true → due ≡ not bit
opposite true true e = absurd (cc)
opposite true false e = refl
opposite false true e = refl
opposite false false e = absurd (cc)

-- the next bit is not the one that is due
pub wrong_end_found : (old at : Progress) (frame : DataFrame) (count place : ℕ) (bit : Bool) → IsFrame frame → old.read ≡ stuffed (plain frame) → Trailed old at count → count < 13
    → at.rest ≡ bit ∷ drop 1 at.rest → not (beq bit (get_or trailer count false)) ≡ true → place ≡ length at.read → Reads (all_bits old) (Err (Form place))
wrong_end_found old at frame count place bit legal is h below next differ here =
    inr (record {
      frame = frame;
      before = take count trailer;
      bit = bit;
      after = drop 1 at.rest;
      due = drop (suc count) trailer;
      legal = legal;
      split = given old at frame count is h ∙ ap (λ rest. stuffed (plain frame) ++ (take count trailer ++ rest)) next;
      here = here ∙ read_len old at frame count is h;
      wrong = split_at trailer count false below ∙ ap (λ b. take count trailer ++ b ∷ drop (suc count) trailer) (opposite bit _ differ);
    })

-- all of them were read
pub front_found : (old at : Progress) (frame : DataFrame) (count place : ℕ) → IsFrame frame → old.read ≡ stuffed (plain frame) → Trailed old at count → 13 ≤ count → place ≡ length at.read
    → ReadsFront (all_bits old) (Ok (record { frame = frame; end = place }))
unfolding wire_of
front_found old at frame count place legal is h all here =
    let whole = take_all count trailer all in
    record {
      legal = legal;
      rest = at.rest;
      split =
          given old at frame count is h ∙ ap (λ v. stuffed (plain frame) ++ (v ++ at.rest)) whole ∙ sym (append_assoc (stuffed (plain frame)) trailer at.rest);
      here = here ∙ read_len old at frame count is h ∙ ap (λ v. length (stuffed (plain frame)) + length v) whole ∙ sym (length-wire frame);
    }
