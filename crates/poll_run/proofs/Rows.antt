-- The rows of requests, one after the other.
use Rattle.std.proofs.Common.{◌≡◌, ℕ, suc, ◌+◌, ◌<◌, List, ◌∷◌, ◌++◌, drop, get_or, length, sym, ap, ◌∙◌, arith, append_assoc}
use Rattle.std.proofs.Math.Seq.{drop-cons}
use Rattle.sporadic_poll.specs.declared.fate.Fate.{Fate}
use Rattle.sporadic_poll.specs.declared.stream.Stream.{Stream}
use Rattle.poll_run.specs.RequestRows.{request_row, request_rows}

-- what is left from a place on begins with the row of the request there
pub rows-at : (number : ℕ) (streams : List Stream) (fates : List Fate) (i : ℕ) (stream : Stream) (fate e : Fate) → i < length streams → length fates ≡ length streams
    → get_or streams i stream ≡ stream → get_or fates i e ≡ fate
    → request_rows number (drop i streams) (drop i fates) ≡ request_row number stream fate ++ request_rows (number + 1) (drop (i + 1) streams) (drop (i + 1) fates)
rows-at number streams fates i stream fate e within each is became = grind (arith, drop-cons)

-- the parts of a row, one behind the other
pub in-a_row : (w a c b d e n : List ℕ) → w ++ (a ++ (c ++ (b ++ (c ++ (d ++ (c ++ (e ++ n))))))) ≡ w ++ a ++ c ++ b ++ c ++ d ++ c ++ e ++ n
in-a_row w a c b d e n = grind (arith, append_assoc)
