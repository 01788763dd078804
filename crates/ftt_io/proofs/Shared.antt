-- For proofs of the crates above: how what one call put and what the next one put join.
use Rattle.std.proofs.Common.{◌≡◌, ℕ, List, [], ◌++◌, Option, Some, None, refl, ap, sym, ◌∙◌, append_assoc, subst}
use Rattle.std.proofs.lemmas.List.{append-nil}
use Rattle.ftt_io.specs.Puts.{Stays, Puts, PutsPrefix}

-- a sink that is as before took nothing
pub Puts-nothing : (old new : Option (List ℕ)) → Stays old new → Puts old new []
Puts-nothing None new same = tt
Puts-nothing (Some taken) None same = same
Puts-nothing (Some taken) (Some now) same = same ∙ sym (append-nil taken)

Stays-itself : (told : Option (List ℕ)) → Stays told told
Stays-itself None = tt
Stays-itself (Some taken) = refl

-- what a sink tells stays where it is the same
pub Stays-same : (old new : Option (List ℕ)) → new ≡ old → Stays old new
Stays-same old new same = subst (λ now. Stays old now) (sym same) (Stays-itself old)

-- bytes after bytes
pub Puts-append : (old between new : Option (List ℕ)) (first second : List ℕ) → Puts old between first → Puts between new second → Puts old new (first ++ second)
Puts-append None between new first second p q = tt
Puts-append (Some taken) None new first second p q = absurd p
Puts-append (Some taken) (Some more) None first second p q = absurd q
Puts-append (Some taken) (Some more) (Some now) first second p q = q ∙ ap (λ bytes. bytes ++ second) p ∙ append_assoc taken first second

-- a sink that is as before took a prefix of any bytes
pub PutsPrefix-nothing : (old new : Option (List ℕ)) (bytes : List ℕ) → Stays old new → PutsPrefix old new bytes
PutsPrefix-nothing old new bytes same = record { front = []; rest = bytes; split = refl; puts = Puts-nothing old new same }

-- all of the bytes are a prefix of them
pub PutsPrefix-all : (old new : Option (List ℕ)) (bytes : List ℕ) → Puts old new bytes → PutsPrefix old new bytes
PutsPrefix-all old new bytes p = record { front = bytes; rest = []; split = sym (append-nil bytes); puts = p }

-- a prefix after bytes
pub PutsPrefix-append : (old between new : Option (List ℕ)) (first : List ℕ) {second : List ℕ} → Puts old between first → PutsPrefix between new second → PutsPrefix old new (first ++ second)
PutsPrefix-append old between new first p q = record {
  front = first ++ q.front;
  rest = q.rest;
  split = ap (λ bytes. first ++ bytes) q.split ∙ sym (append_assoc first q.front q.rest);
  puts = Puts-append old between new first q.front p q.puts;
}

-- a prefix of the first bytes is one of those with more behind them
pub PutsPrefix-longer : {old new : Option (List ℕ)} {first : List ℕ} (second : List ℕ) → PutsPrefix old new first → PutsPrefix old new (first ++ second)
PutsPrefix-longer second p = record {
  front = p.front;
  rest = p.rest ++ second;
  split = ap (λ bytes. bytes ++ second) p.split ∙ append_assoc p.front p.rest second;
  puts = p.puts;
}

-- The sink took the bytes before `rest`: what a loop keeps that puts piece after piece.
pub record PutsUpTo (old new : Option (List ℕ)) (bytes rest : List ℕ) : Type 0 where
  pub front : List ℕ
  pub split : bytes ≡ front ++ rest
  pub puts : Puts old new front

-- before the first piece all bytes are to come
pub PutsUpTo-start : {old new : Option (List ℕ)} (bytes : List ℕ) → new ≡ old → PutsUpTo old new bytes bytes
PutsUpTo-start {old = old} {new = new} bytes same = record { front = []; split = refl; puts = Puts-nothing old new (Stays-same old new same) }

-- after the next piece, which the sink took whole
pub PutsUpTo-next : {old between new : Option (List ℕ)} {bytes rest : List ℕ} (piece left : List ℕ) → PutsUpTo old between bytes rest → rest ≡ piece ++ left → Puts between new piece → PutsUpTo old new bytes left
PutsUpTo-next {old = old} {between = between} {new = new} piece left p next q = record {
  front = p.front ++ piece;
  split = p.split ∙ ap (λ rest. p.front ++ rest) next ∙ sym (append_assoc p.front piece left);
  puts = Puts-append old between new p.front piece p.puts q;
}

-- after the next piece, of which the sink took a prefix
pub PutsUpTo-stops : {old between new : Option (List ℕ)} {bytes rest : List ℕ} (piece left : List ℕ) → PutsUpTo old between bytes rest → rest ≡ piece ++ left → PutsPrefix between new piece → PutsPrefix old new bytes
PutsUpTo-stops {old = old} {between = between} {new = new} piece left p next q = record {
  front = p.front ++ q.front;
  rest = q.rest ++ left;
  split = p.split ∙ ap (λ rest. p.front ++ rest) (next ∙ ap (λ taken. taken ++ left) q.split ∙ append_assoc q.front q.rest left) ∙ sym (append_assoc p.front q.front (q.rest ++ left));
  puts = Puts-append old between new p.front q.front p.puts q.puts;
}

-- with nothing to come the sink took all bytes
pub PutsUpTo-end : {old new : Option (List ℕ)} {bytes rest : List ℕ} → PutsUpTo old new bytes rest → rest ≡ [] → Puts old new bytes
PutsUpTo-end {old = old} {new = new} {bytes = bytes} p none =
    let all : bytes ≡ p.front = p.split ∙ ap (λ rest. p.front ++ rest) none ∙ append-nil p.front in
    subst (λ taken. Puts old new taken) (sym all) p.puts
