use Rattle.std.proofs.Common.{◌≡◌, ◌∷◌, [], ◌++◌, List, Vec, Global, ℕ, map, refl, sym, ap, ◌∙◌}
use Rattle.std.specs.List.{concat, flat_map}
use Rattle.std.proofs.lemmas.List.Concat.{flat_map-append}
use Rattle.bus_trace.specs.Recent.{bytes_of}
use Rattle.bus_trace.proofs.recent.Recent.text.Goals as goal

joined : {X : Type 0} (f : X → List ℕ) (xs : List X) → flat_map f xs ≡ concat (map f xs)
joined f [] = refl
joined f (x ∷ xs) = ap (λ l. f x ++ l) (joined f xs)

pub returns : goal.returns
returns c =
    let bytes : Vec ℕ Global → List ℕ = bytes_of in
    let older = c.as_slices.result.0.now in
    let newer = c.as_slices.result.1.now in
    record {
      text = c.in_ok-push_all-2.ensures.rows
          ∙ ap (λ l. l ++ flat_map bytes newer) (c.in_ok-push_all.ensures.rows ∙ ap (λ l. l ++ flat_map bytes older) c.new-text.ensures.items)
          ∙ sym (flat_map-append bytes older newer)
          ∙ ap (flat_map bytes) c.as_slices.ensures
          ∙ joined bytes c.self.inside.ring.items
          ∙ ap (λ view. concat view.rows) c.self.view_is;
    }
