-- Requests whose arrivals never fall, one after the other.
use Rattle.std.proofs.Common.{◌≡◌, ◌∙◌, ℕ, ◌+◌, ◌<◌, ◌≤◌, List, ◌∷◌, ◌++◌, [], length, get_or, take, All, AllPairs, ap, subst, sym, arith}
use Rattle.std.proofs.lemmas.List.{take_more}
use Rattle.std.proofs.lemmas.List.Elements.{All-push}
use Rattle.std.proofs.lemmas.List.Quantifiers.{all_pairs_push}
use Rattle.async_window.specs.declared.request.Request.{Request}

-- none of them arrives later than `last`
pub record AreInOrder (requests : List Request) (last : ℕ) : Type 0 where
  pub in_order : AllPairs (λ one other. one.at ≤ other.at) requests
  pub early : All (λ request. request.at < 10000) requests
  pub before : All (λ request. request.at ≤ last) requests

pub none_in_order : AreInOrder [] 0
none_in_order = record {
  in_order = λ i j d before within. absurd (omega (arith, within));
  early = λ k d within. absurd (omega (arith, within));
  before = λ k d within. absurd (omega (arith, within));
}

pub more_in_order : (requests : List Request) (place last : ℕ) (request : Request) → place < length requests
    → request ≡ get_or requests place request → last ≤ request.at → request.at < 10000
    → AreInOrder (take place requests) last → AreInOrder (take (place + 1) requests) request.at
more_in_order requests place last request within is rises small so_far =
    let earlier : All (λ other. other.at ≤ request.at) (take place requests)
    = λ k d inside. omega (arith, so_far.before k d inside, rises) in
    subst (λ (list : List Request). AreInOrder list request.at)
    (ap (λ x. take place requests ++ x ∷ []) is ∙ sym (take_more requests place request within))
    (record {
      in_order = all_pairs_push (λ one other. one.at ≤ other.at) (take place requests) request so_far.in_order earlier;
      early = All-push (λ other. other.at < 10000) (take place requests) request so_far.early small;
      before = All-push (λ other. other.at ≤ request.at) (take place requests) request earlier (omega arith);
    })
