use Rattle.std.proofs.Common.{◌≡◌, ℕ, ◌-◌, ◌∷◌, [], ◌++◌, List, Global, map, length, drop, sym, ap, ◌∙◌}
use Rattle.std.proofs.lemmas.List.{drop-map, length-map, map-append}
use Rattle.circular_buffer.specs.Buffer.{keep_last}
use Rattle.bus_trace.specs.Recent.{bytes_of}
use Rattle.bus_trace.proofs.recent.Recent.push.Goals as goal

map-keep_last : {X Y : Type 0} (f : X → Y) (n : ℕ) (xs : List X) → map f (keep_last n xs) ≡ keep_last n (map f xs)
map-keep_last f n xs = sym (drop-map f (length xs - n) xs) ∙ ap (λ k. drop (k - n) (map f xs)) (sym (length-map xs f))

pub returns-clause-rows : goal.returns-clause-rows
returns-clause-rows c =
    let ring = c.self.inside.ring in
    let all = c.push_back.ensures.items in
    ap (λ b. map (bytes_of {A = Global}) b.items) all
    ∙ map-keep_last (bytes_of {A = Global}) ring.capacity (ring.items ++ c.args.row ∷ [])
    ∙ ap (λ l. keep_last ring.capacity l) (map-append (bytes_of {A = Global}) ring.items (c.args.row ∷ []))
    ∙ ap (λ view. keep_last view.most (view.rows ++ c.args.row.items ∷ [])) c.self.view_is
