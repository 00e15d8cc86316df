-- How many triples have the parts that are known.
use Rattle.std.proofs.Common.{◌≡◌, ◌∙◌, ◌-◌, ap, sym, refl, arith, Bool, false, cond, List, [], ◌∷◌, length, filter}
use Rattle.fx_terms.specs.declared.triples.Triple.{Triple}
use Rattle.fx_store.specs.Orders.{in_order, triples_of, IsWithin}
use Rattle.fx_store.specs.Lookups.{Known, has_parts}
use Rattle.fx_store.specs.declared.orders.Run.{Run}
use Rattle.fx_store.proofs.RunLemmas.{as_many, as_many_with}
use Rattle.fx_store.proofs.WalkLemmas.{run_length}

-- a run has as many triples as the graph has with the known parts
pub run_count : (run : Run) (graph : List Triple) (k : Known) → IsWithin run graph → triples_of run graph ≡ filter (has_parts k) (in_order run.order graph) → run.end - run.start ≡ length (filter (has_parts k) graph)
run_count run graph k w h =
    sym (run_length (in_order run.order graph) run.start run.end w.rises (omega (arith, as_many run.order graph, w.ends)))
    ∙ ap length h
    ∙ as_many_with (has_parts k) run.order graph

-- a test that no triple passes
pub none_pass : (test : Triple → Bool) → ((t : Triple) → test t ≡ false) → (graph : List Triple) → length (filter test graph) ≡ 0
none_pass test h [] = refl
none_pass test h (t ∷ ts) = ap (λ b. length (cond b (t ∷ filter test ts) (filter test ts))) (h t) ∙ none_pass test h ts
