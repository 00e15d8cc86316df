use Rattle.std.proofs.Common.{◌∙◌, ◌++◌, ◌∷◌, [], ap, map, take, Some}
use Rattle.std.specs.List.{slice_get}
use Rattle.std.proofs.lemmas.List.{map-append}
use Rattle.fx_store.specs.Ranks.{places_of}
use Rattle.fx_store.specs.declared.ranks.Ranked.{Ranked}
use Rattle.fx_store.proofs.PlaceLemmas.{one_more}
use Rattle.fx_store.proofs.ranks.ranked_triples.Goals as goal

pub loop-place-preserved : goal.loop-place-preserved
loop-place-preserved c =
    let graph = c.args.triples.now in
    let place = c.loop-place.place in
    let done = c.loop-place.ranked.items in
    let one = c.rank.result in
    ap (λ v. map (slice_get graph) (places_of v)) c.in_ok-push.ensures.items
    ∙ ap (map (slice_get graph)) (map-append (λ (r : Ranked). r.place) done (one ∷ []))
    ∙ map-append (slice_get graph) (places_of done) (one.place ∷ [])
    ∙ ap (λ v. v ++ slice_get graph one.place ∷ []) c.loop-place.invariant
    ∙ ap (λ k. map Some (take place graph) ++ slice_get graph k ∷ []) c.rank.ensures
    ∙ one_more graph place c.loop-place-test.true
