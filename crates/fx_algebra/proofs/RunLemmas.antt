-- The patterns of a run in another order: the same rows.
use Rattle.std.proofs.Common.{◌≡◌, ◌∙◌, ap, sym, subst, refl, Bool, true, false, ◌||◌, T, List, [], ◌∷◌, IsTrue, IsPermutation, Contains, ℕ}
use Rattle.std.specs.Prelude.{All}
use Rattle.std.specs.List.{AllByRecursion, flat_map, list_any}
use Rattle.std.specs.List.Sorted.{IsStrictlySortedBy}
use Rattle.std.specs.Ordering.{is_eq}
use Rattle.std.proofs.lemmas.List.Elements.{recursion_from_All}
use Rattle.std.proofs.lemmas.List.Folds.{list_any-append}
use Rattle.std.proofs.lemmas.List.Sorted.{All-permutation, IsPermutation-refl, IsPermutation-sym, IsPermutation-trans, list_any-IsPermutation}
use Rattle.fx_terms.specs.Graphs.{set_of}
use Rattle.fx_terms.specs.Texts.{text_cmp}
use Rattle.fx_terms.specs.Triples.{triple_cmp, triples_total}
use Rattle.fx_terms.specs.declared.patterns.Pattern.{Pattern}
use Rattle.fx_terms.specs.declared.triples.Triple.{Triple}
use Rattle.fx_terms.proofs.SetLemmas.{Among, among_from, contains_from}
use Rattle.fx_algebra.specs.BasicGraphPatterns.{bgp, IsSolutionOf, TurnsInto}
use Rattle.fx_algebra.specs.Evaluation.{rows_from}
use Rattle.fx_algebra.specs.Operators.{join}
use Rattle.fx_algebra.specs.Scopes.{is_among, pattern_names}
use Rattle.fx_algebra.specs.Solutions.{Bindings, rises, solution_cmp, solutions_total}
use Rattle.fx_algebra.proofs.BgpLemmas.{once_rows, row_from, solution_of}
use Rattle.fx_algebra.proofs.JoinLemmas.{exact_solutions, join_run, same_join}
use Rattle.fx_algebra.proofs.MemberLemmas.{once_rising}
use Rattle.fx_algebra.proofs.UnionLemmas.{once_is_set}

-- ---- the solutions of the same patterns in another order

pub among_flat : {X : Type 0} (f : X → List (List ℕ)) (name : List ℕ) (xs : List X) → is_among (flat_map f xs) name ≡ list_any (λ x. is_among (f x) name) xs
among_flat f name [] = refl
among_flat f name (x ∷ xs) = list_any-append (λ n. is_eq (text_cmp n name)) (f x) (flat_map f xs) ∙ ap (λ (b : Bool). is_among (f x) name || b) (among_flat f name xs)

solution_moves : (graph : List Triple) (ps qs : List Pattern) → IsPermutation ps qs → (s : Bindings) → IsSolutionOf graph ps s → IsSolutionOf graph qs s
solution_moves graph ps qs moved s h = record {
  rises = h.rises;
  binds = λ name.
      h.binds name
      ∙ among_flat pattern_names name ps
      ∙ list_any-IsPermutation (λ p. is_among (pattern_names p) name) ps qs moved
      ∙ sym (among_flat pattern_names name qs);
  turns = All-permutation (λ p. (t : Triple) × Contains graph t × TurnsInto s p t) ps qs moved h.turns;
}

row_moves : (graph : List Triple) (ps qs : List Pattern) → IsPermutation ps qs → (s : Bindings) → Among s (bgp graph ps) → Among s (bgp graph qs)
row_moves graph ps qs moved s m =
    among_from (bgp graph qs) s (row_from graph qs s (solution_moves graph ps qs moved s (solution_of graph ps s (contains_from (bgp graph ps) s m))))

pub bgp_moves : (graph : List Triple) (ps qs : List Pattern) → IsStrictlySortedBy triple_cmp graph → IsPermutation ps qs → IsPermutation (bgp graph ps) (bgp graph qs)
bgp_moves graph ps qs sorted moved =
    let once = once_rising triple_cmp triples_total graph sorted in
    let back = IsPermutation-sym ps qs moved in
    let set = set_of solution_cmp (bgp graph qs) in
    IsPermutation-trans (bgp graph ps) set (bgp graph qs)
    (once_is_set solution_cmp solutions_total exact_solutions (bgp graph ps) (bgp graph qs) (once_rows graph ps once) (row_moves graph ps qs moved) (row_moves graph qs ps back))
    (IsPermutation-sym (bgp graph qs) set
    (once_is_set solution_cmp solutions_total exact_solutions (bgp graph qs) (bgp graph qs) (once_rows graph qs once) (λ s m. m) (λ s m. m)))

-- ---- so from any rows

pub to_T : (b : Bool) → IsTrue b → T b
to_T true h = tt
to_T false h = cc

pub all_T : (rows : List Bindings) → AllByRecursion (λ s. IsTrue (rises s)) rows → AllByRecursion (λ s. T (rises s)) rows
all_T [] h = tt
all_T (s ∷ rows) h = (to_T (rises s) h.0, all_T rows h.1)

pub runs_move : (graph : List Triple) (rows : List Bindings) (ps qs : List Pattern) → IsStrictlySortedBy triple_cmp graph → All (λ s. IsTrue (rises s)) rows → IsPermutation ps qs
    → IsPermutation (rows_from graph rows ps) (rows_from graph rows qs)
runs_move graph rows ps qs sorted up moved =
    let rising = all_T rows (recursion_from_All (λ s. IsTrue (rises s)) rows up) in
    let joined : IsPermutation (join rows (bgp graph ps)) (join rows (bgp graph qs)) = same_join rows rows (bgp graph ps) (bgp graph qs) (IsPermutation-refl rows) (bgp_moves graph ps qs sorted moved) in
    subst (λ (v : List Bindings). IsPermutation v (rows_from graph rows qs)) (join_run graph ps rows rising)
    (subst (λ (v : List Bindings). IsPermutation (join rows (bgp graph ps)) v) (join_run graph qs rows rising) joined)
