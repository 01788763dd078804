-- The mail of some identifiers of the joint node, as a frame takes a request away.
use Rattle.std.proofs.Common.{◌≡◌, ℕ, ◌<◌, ◌≤◌, ◌==◌, Bool, cond, List, [], ◌∷◌, drop, All, Contains, refl, sym, ap, ◌∙◌, arith}
use Rattle.std.proofs.lemmas.Bool.{cond-false, eqb-true, ne_eqb}
use Rattle.std.proofs.lemmas.List.Elements.{All-head, All-tail}
use Rattle.can_frame.specs.declared.data_frame.TimedFrame.{TimedFrame}
use Rattle.async_window.specs.declared.request.Request.{Request}
use Rattle.async_window.specs.Mailbox.{Mail, mail_after, unsent_of, without_first}
use Rattle.async_window.specs.Sorted.{mail_of}
use Rattle.async_window.specs.Waiting.{unsent_after}
use Rattle.cycle_engine.proofs.Lists.{Contains-here, Contains-later, Contains-nil}

abbrev one_box : ℕ → List Request → Mail
one_box id unsent = record { identifier = id; unsent = unsent }

one-taken : (b : Bool) (other id : ℕ) (mail : List Mail) → (other == id) ≡ b
    → one_box other (cond b (drop 1 (unsent_of mail id)) (unsent_of mail other))
    ≡ cond b (one_box other (drop 1 (unsent_of mail other))) (one_box other (unsent_of mail other))
one-taken b other id mail same = grind (arith, eqb-true)

-- the first request of an identifier is taken away from the mail of some of the identifiers
pub taken-of : (taken : (id : ℕ) (mail : List Mail) (other : ℕ)
    → unsent_of (without_first id mail) other ≡ cond (other == id) (drop 1 (unsent_of mail id)) (unsent_of mail other))
    → (ids : List ℕ) (id : ℕ) (mail : List Mail) → mail_of ids (without_first id mail) ≡ without_first id (mail_of ids mail)
taken-of taken [] id mail = refl
taken-of taken (other ∷ ids) id mail =
    ap (λ unsent. one_box other unsent ∷ mail_of ids (without_first id mail)) (taken id mail other)
    ∙ ap (λ box. box ∷ mail_of ids (without_first id mail)) (one-taken (other == id) other id mail refl)
    ∙ ap (λ rest. cond (other == id) (one_box other (drop 1 (unsent_of mail other))) (one_box other (unsent_of mail other)) ∷ rest) (taken-of taken ids id mail)

-- no mailbox has the identifier of a slot
pub taken-none : (ids : List ℕ) (id : ℕ) (mail : List Mail) → id < 0x200 → All (λ n. 0x200 ≤ n) ids
    → mail_of ids mail ≡ without_first id (mail_of ids mail)
taken-none [] id mail low above = refl
taken-none (other ∷ ids) id mail low above =
    let high : 0x200 ≤ other = All-head (λ n. 0x200 ≤ n) other ids above in
    ap (λ rest. one_box other (unsent_of mail other) ∷ rest) (taken-none ids id mail low (All-tail (λ n. 0x200 ≤ n) other ids above))
    ∙ ap (λ box. box ∷ without_first id (mail_of ids mail))
    (sym (cond-false (other == id) (one_box other (drop 1 (unsent_of mail other))) (one_box other (unsent_of mail other)) (ne_eqb other id (λ same. omega (arith, same, low, high)))))

-- mail by what is unsent of each identifier
pub mail-by : (ids : List ℕ) (mail : List Mail) (requests : List Request) (past : List TimedFrame)
    → ((id : ℕ) → Contains ids id → unsent_of mail id ≡ unsent_after requests past id) → mail_of ids mail ≡ mail_after ids requests past
mail-by [] mail requests past same = refl
mail-by (id ∷ ids) mail requests past same =
    ap (λ unsent. one_box id unsent ∷ mail_of ids mail) (same id (Contains-here id ids))
    ∙ ap (λ rest. one_box id (unsent_after requests past id) ∷ rest) (mail-by ids mail requests past (λ n has. same n (Contains-later id ids n has)))

abbrev head_box : Mail → List Mail → Mail
head_box d [] = d
head_box d (box ∷ boxes) = box

abbrev tail_boxes : List Mail → List Mail
tail_boxes [] = []
tail_boxes (box ∷ boxes) = boxes

-- and what is unsent by the mail
pub unsent-by : (ids others : List ℕ) (mail : List Mail) (requests : List Request) (past : List TimedFrame)
    → mail_of ids mail ≡ mail_after others requests past
    → (ids ≡ others) × ((id : ℕ) → Contains ids id → unsent_of mail id ≡ unsent_after requests past id)
unsent-by [] [] mail requests past same = (refl, λ id has. absurd (Contains-nil id has))
unsent-by [] (other ∷ others) mail requests past same = absurd (cc)
unsent-by (one ∷ ids) [] mail requests past same = absurd (cc)
unsent-by (one ∷ ids) (other ∷ others) mail requests past same =
    let rest = unsent-by ids others mail requests past (ap tail_boxes same) in
    grind arith
