use Rattle.std.proofs.Common.{◌≡◌, ◌-◌, List, ◌++◌, Option, Result, Ok, Err, length, take, drop, ℕ, sym, arith, subst}
use Rattle.std.specs.Prelude.{OnErr}
use Rattle.std.proofs.lemmas.Grind.{common_steps}
use Rattle.ftt_io.specs.Puts.{Puts, PutsPrefix}
use Rattle.ftt_io.proofs.Shared.{PutsPrefix-append}
use Rattle.ftt_io.proofs.put.write_all.Goals as goal

-- behind a first piece that was put
rest-behind : {T E : Type 0} (result : Result T E) (old between new : Option (List ℕ)) (bytes piece rest : List ℕ) → bytes ≡ piece ++ rest → Puts old between piece
    → OnErr result (PutsPrefix between new rest) → OnErr result (PutsPrefix old new bytes)
rest-behind (Ok x) old between new bytes piece rest all p q = tt
rest-behind (Err e) old between new bytes piece rest all p q = subst (PutsPrefix old new) (sym all) (PutsPrefix-append old between new piece p q)

pub returns-clause-prefix : goal.returns-clause-prefix
returns-clause-prefix g c =
    let bytes = c.args.bytes.now in
    let taken = c.in_ok-taken.taken in
    let all : bytes ≡ take taken bytes ++ take (length bytes - taken) (drop taken bytes) = grind (arith, common_steps) in
    rest-behind c.write_rest.result _ _ _ bytes _ _ all c.in_ok-taken.ensures.puts c.write_rest.ensures.prefix
