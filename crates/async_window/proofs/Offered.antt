-- Which identifiers mail offers: the least of those whose first unsent request may start.
use Rattle.std.proofs.Common.{◌≡◌, ◌≢◌, ◌↔◌, ℕ, suc, ◌/◌, ◌<◌, Bool, cond, leb, Option, Some, List, [], ◌∷◌, ◌++◌, length, map, filter, min, AllPairs, Contains, IsTrue, ◌⊎◌, inl, inr, refl, sym, ap, ◌∙◌, subst, arith}
use Rattle.std.proofs.lemmas.Grind.{common_steps}
use Rattle.std.specs.List.{fold}
use Rattle.std.specs.Option.{option_map_or, option_to_list, IsSome}
use Rattle.std.proofs.lemmas.Bool.{leb-true, le-leb, leb-false, and_from, both_ways, cases_Bool, false≢true}
use Rattle.std.proofs.lemmas.List.{get_or-map, length-map}
use Rattle.std.proofs.lemmas.Bool.Decides.{eqb_tells}
use Rattle.cycle_layout.specs.Layout.{CycleLayout}
use Rattle.async_window.specs.declared.request.Request.{Request}
use Rattle.async_window.specs.Waiting.{MayStart}
use Rattle.async_window.specs.Mailbox.{Mail, IsMail, OffersIdentifier, IsLeastWith, unsent_of, may_start, least_of, mail_offer}
use Rattle.async_window.proofs.Unsent.{unsent_of-here, unsent_of-later}

pub test_from_MayStart : (layout : CycleLayout) (c l : ℕ) (unsent : List Request) (at : ℕ) (request : Request)
    → MayStart layout c l unsent at request → IsTrue (may_start layout c l at unsent)
test_from_MayStart layout c l unsent at request may = grind (arith, leb, and_from, le-leb)

-- the least of numbers, by the first of them
fold_min : (a b : ℕ) (xs : List ℕ) → fold min (min a b) xs ≡ min a (fold min b xs)
fold_min a b [] = refl
fold_min a b (x ∷ xs) =
    let assoc : min (min a b) x ≡ min a (min b x) = omega arith in
    ap (λ n. fold min n xs) assoc ∙ fold_min a (min b x) xs

least_of-cons : (x : ℕ) (xs : List ℕ) → least_of (x ∷ xs) ≡ Some (option_map_or (min x) (least_of xs) x)
least_of-cons x xs = grind (arith, fold_min)

-- the same property in other words
pub IsLeastWith-same : (Has Had : ℕ → Type 0) (least : Option ℕ) → ((n : ℕ) → Had n → Has n) → ((n : ℕ) → Has n → Had n)
    → IsLeastWith Had least → IsLeastWith Has least
IsLeastWith-same Has Had least to from none = grind arith

module _ (layout : CycleLayout) (l at : ℕ) where
  abbrev passes : List Request → Bool
  passes unsent = may_start layout (at / layout.cycle) l at unsent

  -- the identifier has a first unsent request that passes
  abbrev Passes : List Mail → ℕ → Type 0
  Passes mail id = IsTrue (passes (unsent_of mail id))

  Passes-later : (box : Mail) (mail : List Mail) (id : ℕ) → box.identifier ≢ id → Passes mail id → Passes (box ∷ mail) id
  Passes-later box mail id apart test = subst (λ unsent. IsTrue (passes unsent)) (sym (unsent_of-later box mail id apart)) test

  at_here : (box : Mail) (mail : List Mail) (id : ℕ) → box.identifier ≡ id → Passes (box ∷ mail) id → IsTrue (passes box.unsent)
  at_here box mail id same test = subst (λ unsent. IsTrue (passes unsent)) (unsent_of-here box mail id same) test

  at_later : (box : Mail) (mail : List Mail) (id : ℕ) → box.identifier ≢ id → Passes (box ∷ mail) id → Passes mail id
  at_later box mail id apart test = subst (λ unsent. IsTrue (passes unsent)) (unsent_of-later box mail id apart) test

  Passes-among : (mail : List Mail) (id : ℕ) → Passes mail id → Contains (map (λ box. box.identifier) mail) id
  Passes-among [] id test = absurd (false≢true test)
  Passes-among (box ∷ mail) id test =
      elim (eqb_tells box.identifier id) [
        | inl here ↦ (0, omega arith, here.1)
        | inr later ↦ let among = Passes-among mail id (at_later box mail id later.1 test) in (suc among.0, omega arith, among.2)
      ]

  offer-least : (mail : List Mail) → AllPairs (λ one other. one.identifier ≢ other.identifier) mail
      → IsLeastWith (Passes mail) (mail_offer layout l mail at)
  offer-least [] distinct = λ n test. false≢true test
  offer-least (box ∷ mail) distinct =
      let passing : List Mail = filter (λ x. passes x.unsent) mail in
      let rest : IsLeastWith (Passes mail) (mail_offer layout l mail at)
      = offer-least mail (λ i j d before within. distinct (suc i) (suc j) d (omega arith) (omega arith)) in
      elim (cases_Bool (passes box.unsent)) [
        | inl passed ↦
            let value : mail_offer layout l (box ∷ mail) at ≡ Some (option_map_or (min box.identifier) (mail_offer layout l mail at) box.identifier)
            = ap (λ b. least_of (map (λ x. x.identifier) (cond b (box ∷ passing) passing))) passed
            ∙ least_of-cons box.identifier (map (λ x. x.identifier) passing) in
            subst (λ least. IsLeastWith (Passes (box ∷ mail)) least) (sym value)
            (grind (arith, eqb_tells, Passes-later, at_later))
        | inr failed ↦
            let value : mail_offer layout l (box ∷ mail) at ≡ mail_offer layout l mail at
            = ap (λ b. least_of (map (λ x. x.identifier) (cond b (box ∷ passing) passing))) failed in
            subst (λ least. IsLeastWith (Passes (box ∷ mail)) least) (sym value)
            (IsLeastWith-same (Passes (box ∷ mail)) (Passes mail) (mail_offer layout l mail at)
            (λ n had. elim (eqb_tells box.identifier n) [
              | inl here ↦
                  let among = Passes-among mail n had in
                  let inside : among.0 < length mail = omega (arith, among.1, length-map mail (λ x. x.identifier)) in
                  absurd (distinct 0 (suc among.0) box (omega arith) (omega arith)
                  (here.1 ∙ sym among.2 ∙ get_or-map (λ x. x.identifier) mail among.0 box n inside))
              | inr later ↦ Passes-later box mail n later.1 had
            ])
            (λ n has. grind (arith, common_steps, eqb_tells, both_ways, at_here, at_later))
            rest)
      ]

  pub Offers-least : (mail : List Mail) → IsMail mail → IsLeastWith (OffersIdentifier layout l mail at) (mail_offer layout l mail at)
  Offers-least mail known = grind (arith, IsLeastWith-same, test_from_MayStart, offer-least)

  pub Offers-among : (mail : List Mail) (id : ℕ) → OffersIdentifier layout l mail at id → Contains (map (λ box. box.identifier) mail) id
  Offers-among mail id may = Passes-among mail id (test_from_MayStart layout (at / layout.cycle) l (unsent_of mail id) at may.0 may.1)

pub IsLeastWith-some : (Has : ℕ → Type 0) (least : Option ℕ) → IsLeastWith Has least → IsSome least ↔ ((n : ℕ) × Has n)
IsLeastWith-some Has least none = grind (arith, false≢true)

-- there is one such answer at most
pub IsLeastWith-one : (Has : ℕ → Type 0) (one other : Option ℕ) → IsLeastWith Has one → IsLeastWith Has other → one ≡ other
IsLeastWith-one Has one other is is_other = grind arith

-- the least number with one property or another
pub IsLeastWith-either : (One Other Has : ℕ → Type 0) (one other : Option ℕ) → ((n : ℕ) → One n → Has n) → ((n : ℕ) → Other n → Has n)
    → ((n : ℕ) → Has n → One n ⊎ Other n) → IsLeastWith One one → IsLeastWith Other other
    → IsLeastWith Has (least_of (option_to_list one ++ option_to_list other))
IsLeastWith-either One Other Has one other first second cases is is_other = grind (arith, leb, leb-true, leb-false)
