use Rattle.std.proofs.Common.{◌≡◌, ◌∙◌, ◌↔◌, ◌-◌, ap, sym, subst, arith, length, filter, List, Contains, true, ltb}
use Rattle.std.proofs.lemmas.Bool.{lt-ltb, ltb-true}
use Rattle.fx_terms.specs.declared.triples.Triple.{Triple}
use Rattle.fx_store.specs.Orders.{in_order}
use Rattle.fx_store.specs.Lookups.{has_parts, known_all}
use Rattle.fx_store.proofs.RunLemmas.{as_many, as_many_with}
use Rattle.fx_store.proofs.StoreLemmas.{found_or_not}
use Rattle.fx_store.proofs.WalkLemmas.{run_length}
use Rattle.fx_store.proofs.stores.Store.has_from.Goals as goal

pub returns : goal.returns
returns g c =
    let graph = c.self.inside.orders in
    let t = c.args.triple.now in
    let run = c.run-found.result in
    let many : run.end - run.start ≡ length (filter (has_parts (known_all t)) graph) =
    sym (run_length (in_order run.order graph) run.start run.end c.run-found.ensures.within.rises (omega (arith, as_many run.order graph, c.run-found.ensures.within.ends)))
    ∙ ap length c.run-found.ensures.run
    ∙ as_many_with (has_parts c.triple.result) run.order graph
    ∙ ap (λ k. length (filter (has_parts k) graph)) c.triple.ensures in
    let found = found_or_not graph t run.start run.end c.run-found.ensures.within.rises many in
    subst (λ (v : List Triple). (ltb run.start run.end ≡ true) ↔ Contains v t) c.self.view_is (λ e. found.0 (ltb-true run.start run.end e), λ h. lt-ltb run.start run.end (found.1 h))
