use Rattle.std.proofs.Common.{◌∙◌, ◌++◌, ◌∷◌, [], ◌-◌, sym, ap, map, Some, arith, take, drop}
use Rattle.std.specs.List.{slice_get}
use Rattle.std.proofs.lemmas.List.{map-append}
use Rattle.fx_store.specs.Orders.{in_order}
use Rattle.fx_store.proofs.RunLemmas.{as_many}
use Rattle.fx_store.proofs.SearchLemmas.{stands}
use Rattle.fx_store.proofs.WalkLemmas.{places_more}
use Rattle.fx_store.proofs.orders.Orders.places_of.Goals as goal

pub loop-place-preserved : goal.loop-place-preserved
loop-place-preserved c =
    let graph = c.args.self.now in
    let run = c.args.run in
    let place = c.loop-place.place in
    let xs = in_order run.order graph in
    let here = stands xs place (omega (arith, as_many run.order graph, c.requires.ends, c.loop-place-test.true)) in
    ap (map (slice_get graph)) c.in_ok-push.ensures.items
    ∙ map-append (slice_get graph) c.loop-place.places.items (c.place_in.result ∷ [])
    ∙ ap (λ v. v ++ slice_get graph c.place_in.result ∷ []) c.loop-place.invariant
    ∙ ap (λ o. map Some (take (place - run.start) (drop run.start xs)) ++ o ∷ []) (sym c.place_in.ensures.triple ∙ here.1)
    ∙ places_more xs run.start place here.0 (omega arith) here.1
