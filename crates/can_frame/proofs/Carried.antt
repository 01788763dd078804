-- What wire bits carry, as more bits come behind them.
use Rattle.std.proofs.Common.{◌≡◌, ◌<◌, Bool, true, false, cond, List, [], ◌∷◌, ◌++◌, reverse, append_assoc, refl, sym, ap, subst, ◌∙◌}
use Rattle.std.proofs.lemmas.List.{reverse-append, reverse-reverse}
use Rattle.stuff_bound.specs.Stuffing.{run, HasNoSix, at_stuff_place, without_stuff, Stuffs}
use Rattle.stuff_bound.proofs.Shared.{without_stuff-below}
use Rattle.can_frame.specs.Reading.{carried}

-- one more bit, newest first
pub reverse_more : (sent : List Bool) (bit : Bool) → reverse (sent ++ bit ∷ []) ≡ bit ∷ reverse sent
reverse_more sent bit = reverse-append sent (bit ∷ [])

-- what stood before has no six equal neighbours, if all has none
HasNoSix-back : (new old : List Bool) → HasNoSix (new ++ old) → HasNoSix old
HasNoSix-back [] old h = h
HasNoSix-back (bit ∷ new) old h = HasNoSix-back new old h.1

-- the bits up to one of them have no six equal neighbours, if all have none
pub HasNoSix-begun : (before after : List Bool) (bit : Bool) → HasNoSix (reverse (before ++ bit ∷ after)) → HasNoSix (bit ∷ reverse before)
HasNoSix-begun before after bit h =
    let parts : reverse (before ++ bit ∷ after) ≡ reverse after ++ (bit ∷ reverse before) =
    ap reverse (sym (append_assoc before (bit ∷ []) after)) ∙ reverse-append (before ++ bit ∷ []) after ∙ ap (λ sent. reverse after ++ sent) (reverse_more before bit) in
    HasNoSix-back (reverse after) (bit ∷ reverse before) (subst HasNoSix parts h)

without_stuff-one : (full : Bool) (bit : Bool) (left front old : List Bool) → left ≡ front ++ old → (more : List Bool) × (cond full left (bit ∷ left) ≡ more ++ old)
without_stuff-one true bit left front old e = (front, e)
without_stuff-one false bit left front old e = (bit ∷ front, ap (λ bits. bit ∷ bits) e)

-- more bits leave more bits
without_stuff-append : (new old : List Bool) → (front : List Bool) × (without_stuff (new ++ old) ≡ front ++ without_stuff old)
without_stuff-append [] old = ([], refl)
without_stuff-append (bit ∷ new) old =
    let before = without_stuff-append new old in
    without_stuff-one (at_stuff_place (new ++ old)) bit (without_stuff (new ++ old)) before.0 (without_stuff old) before.1

-- more wire bits carry more bits behind those that were carried
pub carried-append : (before after : List Bool) → (more : List Bool) × (carried (before ++ after) ≡ carried before ++ more)
carried-append before after =
    let left = without_stuff-append (reverse after) (reverse before) in
    (reverse left.0, ap (λ sent. reverse (without_stuff sent)) (reverse-append before after) ∙ ap reverse left.1 ∙ reverse-append left.0 (without_stuff (reverse before)))

-- a bit at no stuff place is carried
pub carried-plain : (before : List Bool) (bit : Bool) → run (reverse before) < 5 → carried (before ++ bit ∷ []) ≡ carried before ++ bit ∷ []
carried-plain before bit below =
    ap (λ sent. reverse (without_stuff sent)) (reverse_more before bit) ∙ ap reverse (without_stuff-below bit (reverse before) below)
    ∙ reverse-append (bit ∷ []) (without_stuff (reverse before))

-- stuffed bits carry what they stuff
pub carried-Stuffs : (wire plain : List Bool) → Stuffs wire plain → carried wire ≡ plain
carried-Stuffs wire plain h = ap reverse h.left ∙ reverse-reverse plain
