use Rattle.std.proofs.Common.{All, refl, subst}
use Rattle.std.proofs.lemmas.Cmp.{eq_by_cmp_equiv}
use Rattle.std.proofs.lemmas.Map.Views.{tells_apart}
use Rattle.std.proofs.lemmas.List.Filters.{dedup_is, All-dedup}
use Rattle.std.proofs.lemmas.List.Kept.{Contains-dedup, Contains-from_dedup, IsStrictlySortedBy-dedup}
use Rattle.std.proofs.lemmas.List.Sorted.{All-permutation, Contains-permutation, IsPermutation-sym}
use Rattle.fx_terms.specs.Triples.{triple_cmp, triples_total, IsTriple}
use Rattle.fx_terms.proofs.OrderLemmas.{exact_triples}
use Rattle.fx_terms.proofs.SetLemmas.{set_is}
use Rattle.fx_terms.proofs.graphs.Graph.of.Goals as goal

pub invariant_of-result : goal.invariant_of-result
invariant_of-result c =
    let is = dedup_is _ _ _ c.dedup.ensures.filtered in
    record {
      rises = rw is (IsStrictlySortedBy-dedup triples_total (λ x y. refl) _ c.in_ok-sort.ensures.sorted);
      terms = rw is (All-dedup _ IsTriple _ (All-permutation IsTriple _ _ c.in_ok-sort.ensures.permutation (subst (All IsTriple) c.as_slice.ensures.value c.known.ensures)));
    }

pub returns-clause-graph : goal.returns-clause-graph
returns-clause-graph c =
    let is = dedup_is _ _ _ c.dedup.ensures.filtered in
    let moved = c.in_ok-sort.ensures.permutation in
    record {
      rises = (invariant_of-result c).rises;
      same = λ t. (
        λ h. Contains-permutation _ _ t (IsPermutation-sym _ _ moved) (Contains-from_dedup _ _ t (rw is at h)),
        λ h. rw is (Contains-dedup (eq_by_cmp_equiv triples_total) (tells_apart exact_triples) _ t (Contains-permutation _ _ t moved h)),
      );
    }

pub returns-clause-exact : goal.returns-clause-exact
returns-clause-exact c =
    let graph = returns-clause-graph c in
    set_is triple_cmp triples_total exact_triples c.args.triples.items c.dedup.new.self.items graph.rises graph.same
