-- One bit more was read, and the run follows it.
use Rattle.std.proofs.Common.{◌≡◌, ℕ, Bool, List, ◌∷◌, drop, take, reverse, sym, ap, ap₂, subst, ◌∙◌, arith}
use Rattle.stuff_bound.specs.Stuffing.{Tracks}
use Rattle.can_frame.specs.Progress.{Progress}
use Rattle.can_frame.proofs.Carried.{reverse_more}
use Rattle.can_frame.proofs.Steps.{Next, next_bit}
use Rattle.can_frame.proofs.reader.Reader.advance.Goals as goal

-- the bit that the caller names is the next one
step_of : (at : Progress) (bits : List Bool) (place : ℕ) (bit : Bool) → record { read = take place bits; rest = drop place bits } ≡ at → at.rest ≡ bit ∷ drop 1 at.rest → Next bits place bit
step_of at bits place bit is next =
    let P : Progress → Type 0 = λ p. p.rest ≡ bit ∷ drop 1 p.rest in next_bit bits place bit (subst P (sym is) next)

pub invariant_of-self : goal.invariant_of-self
invariant_of-self c =
    let step = step_of _ _ _ c.args.bit c.self.view_is c.requires.next in
    let P : List Bool → Type 0 = λ sent. Tracks c.then-self-inside.result sent in
    (omega (arith, step.within), subst P (sym (ap reverse step.read ∙ reverse_more (take c.self.inside.place c.self.inside.bits.now) c.args.bit)) (c.then-self-inside.ensures.tracks _ c.self.invariant.1))

pub returns : goal.returns
returns c = grind (arith, step_of, ap₂)
