-- The lines of a plan text.
use Rattle.std.proofs.Common.{◌≡◌, ℕ, List, [], ◌∷◌, ◌++◌, true, false, codes, nat_eq, drop, length, map, take, refl, sym, ap, ◌∙◌, append_assoc}
use Rattle.std.specs.Cmp.Lexicographic.{other_text, pointwise, same_text}
use Rattle.std.proofs.lemmas.List.{take-append-drop}
use Rattle.plan_check.specs.Certificate.{CertificateView}
use Rattle.plan_check.specs.declared.plan_runs.Version.TheVariants.{Two}
use Rattle.plan_check.specs.PlanText.{head_lines, lines_of_runs, plan_text, run_line, runs_of, text_of}

pub text_of-append : (xs ys : List (List ℕ)) → text_of (xs ++ ys) ≡ text_of xs ++ text_of ys
text_of-append [] ys = refl
text_of-append (x ∷ xs) ys =
    ap (λ t. (x ++ 10 ∷ []) ++ t) (text_of-append xs ys) ∙ sym (append_assoc (x ++ 10 ∷ []) (text_of xs) (text_of ys))

-- the parts of a plan text
pub whole_text : (certificate : CertificateView) (empty head runs whole : List ℕ) → empty ≡ [] → head ≡ empty ++ text_of (head_lines Two certificate)
    → runs ≡ head ++ text_of (map (run_line Two) (runs_of certificate.masks)) → whole ≡ runs ++ codes "end\n" → whole ≡ plan_text certificate
whole_text certificate empty head runs whole none first second third =
    let lines = map (run_line Two) (runs_of certificate.masks) in
    third
    ∙ ap (λ t. t ++ codes "end\n") (second ∙ ap (λ t. t ++ text_of lines) (first ∙ ap (λ t. t ++ text_of (head_lines Two certificate)) none))
    ∙ append_assoc (text_of (head_lines Two certificate)) (text_of lines) (codes "end\n")
    ∙ ap (λ t. text_of (head_lines Two certificate) ++ t) (sym (text_of-append lines (codes "end" ∷ [])))
    ∙ sym (text_of-append (head_lines Two certificate) (lines_of_runs Two (runs_of certificate.masks)))

-- A word at the front of a line

pub stripped-none : (line word x : List ℕ) → pointwise nat_eq (take (length word) line) word ≡ false → line ≡ word ++ x → ⊥
stripped-none line word x none is =
    other_text (take (length word) line) word (sym none) (ap (take (length word)) is ∙ take-front word x)
  where
    take-front : (xs ys : List ℕ) → take (length xs) (xs ++ ys) ≡ xs
    take-front [] ys = refl
    take-front (z ∷ xs) ys = ap (λ t. z ∷ t) (take-front xs ys)

pub stripped-some : (line word rest : List ℕ) → pointwise nat_eq (take (length word) line) word ≡ true → rest ≡ drop (length word) line → line ≡ word ++ rest
stripped-some line word rest some is =
    let front = same_text (take (length word) line) word (sym some) in
    sym (take-append-drop (length word) line) ∙ ap (λ t. t ++ drop (length word) line) front ∙ ap (λ t. word ++ t) (sym is)
