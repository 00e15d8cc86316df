-- The rows behind a run, and behind an OPTIONAL whose group is one run, from what came of its units.
use Rattle.std.proofs.Common.{◌≡◌, ◌∙◌, ap, sym, subst, refl, ℕ, suc, Bool, true, false, List, [], ◌∷◌, ◌++◌, map, filter, length, IsPermutation, IsTrue, All}
use Rattle.std.specs.List.{list_any}
use Rattle.std.proofs.lemmas.List.Elements.{All-from_recursion}
use Rattle.std.proofs.lemmas.List.Sorted.{IsPermutation-map, IsPermutation-refl, IsPermutation-trans}
use Rattle.std.proofs.lemmas.List.{length-map}
use Rattle.fx_terms.specs.declared.triples.Triple.{Triple}
use Rattle.fx_terms.specs.declared.patterns.Pattern.{Pattern}
use Rattle.fx_algebra.specs.Answers.{is_empty_list}
use Rattle.fx_algebra.specs.BasicGraphPatterns.{bgp}
use Rattle.fx_algebra.specs.Graphs.{union}
use Rattle.fx_algebra.specs.Groups.{one_empty}
use Rattle.fx_algebra.specs.Operators.{filtered, join, left_join}
use Rattle.fx_algebra.specs.Solutions.{Bindings, rises}
use Rattle.fx_algebra.specs.Units.{sources}
use Rattle.fx_algebra.specs.declared.expressions.Expr.{Expr}
use Rattle.fx_algebra.specs.declared.units.Row.{Row}
use Rattle.fx_algebra.proofs.JoinLemmas.{join_first}
use Rattle.fx_algebra.proofs.OperatorLemmas.{filtered_by_none}
use Rattle.fx_algebra.proofs.UnionLemmas.{union_rises}
use Rattle.fx_plan.specs.Plans.{plan}
use Rattle.fx_steps.specs.Fewer.{AreFewer}
use Rattle.fx_steps.specs.Groups.{IsPushed, IsRunOut}
use Rattle.fx_steps.specs.Optionals.{optional_rows}
use Rattle.fx_steps.specs.Steps.{numbered, solutions_of, stepped}
use Rattle.fx_steps.proofs.FewerLemmas.{fewer_laws}
use Rattle.fx_steps.proofs.GroupLemmas.{plan_comes_out}
use Rattle.fx_steps.proofs.OptionalLemmas.{optional_laws}
use Rattle.fx_walks.specs.GroupsAsked.{ComesOf, IsRunFound, run_joined}
use Rattle.fx_walks.proofs.SourceLemmas.{none_of_all, nothing_of}

-- a run in which a pattern has no source has no rows
no_rows : (graphs : List (List Triple)) (ps : List Pattern) → list_any is_empty_list (map (sources graphs) ps) ≡ true → bgp (union graphs) ps ≡ []
no_rows graphs ps lacks = nothing_of (bgp (union graphs) ps) (none_of_all graphs ps (map (sources graphs) ps) lacks refl)

join_none : (rows : List Bindings) → join rows [] ≡ []
join_none [] = refl
join_none (r ∷ rows) = join_none rows

module _ (graphs : List (List Triple)) (ps : List Pattern) (filters : List Expr) (known : List (List ℕ)) (before : List Bindings) (up : All (λ s. IsTrue (rises s)) before) (found : List Row) where
  as_many : length ps ≡ length (map (sources graphs) ps)
  as_many = sym (length-map ps (sources graphs))

  abbrev graph : List Triple
  graph = union graphs

  comes_out : (b : Bool) → list_any is_empty_list (map (sources graphs) ps) ≡ b → ComesOf b graph (plan ps (map (sources graphs) ps) filters known) before found → IsRunOut filters graph before ps (solutions_of found)
  comes_out true lacks h = record {
    filters = [];
    pushed = All-from_recursion (IsPushed filters ps) [] tt;
    rows_are =
        let nothing : [] ≡ filtered [] (join before (bgp graph ps)) = sym (join_none before) ∙ ap (join before) (sym (no_rows graphs ps lacks)) ∙ sym (filtered_by_none (join before (bgp graph ps))) in
        subst (λ (v : List Row). IsPermutation (solutions_of v) (filtered [] (join before (bgp graph ps)))) (sym h) (subst (IsPermutation []) nothing (IsPermutation-refl []));
  }
  comes_out false lacks h =
      let us = plan ps (map (sources graphs) ps) filters known in
      let out = plan_comes_out graph ps (map (sources graphs) ps) filters known before (union_rises graphs) up as_many in
      record {
        filters = out.filters;
        pushed = out.pushed;
        rows_are =
            IsPermutation-trans (solutions_of found) (solutions_of (stepped graph us (numbered 0 before))) (filtered out.filters (join before (bgp graph ps)))
            (IsPermutation-map (λ (r : Row). r.solution) found (stepped graph us (numbered 0 before)) h) out.rows_are;
      }

  -- the rows behind the run are some of those that are there by definition
  pub joined_so : (defined : List Bindings) → IsRunFound graphs ps filters known before found → AreFewer filters before defined → AreFewer filters (solutions_of found) (join defined (bgp graph ps))
  joined_so defined h fewer = fewer_laws.run filters graph ps before defined (solutions_of found) fewer (comes_out (list_any is_empty_list (map (sources graphs) ps)) refl h)

  -- ---- OPTIONAL

  none_behind : (conditions : List Expr) (n : ℕ) (left : List Bindings) → optional_rows conditions n left [] ≡ left
  none_behind conditions n [] = refl
  none_behind conditions n (s ∷ left) = ap (λ (v : List Bindings). s ∷ v) (none_behind conditions (suc n) left)

  all_stay : (rows : List Bindings) → filter (λ (a : Bindings). true) rows ≡ rows
  all_stay [] = refl
  all_stay (r ∷ rows) = ap (λ (v : List Bindings). r ∷ v) (all_stay rows)

  left_alone : (conditions : List Expr) (left : List Bindings) → left_join left [] conditions ≡ left
  left_alone conditions left = ap (λ (v : List Bindings). filtered conditions v ++ filter (λ (a : Bindings). true) left) (join_none left) ∙ all_stay left

  optional_by : (b : Bool) → list_any is_empty_list (map (sources graphs) ps) ≡ b → ComesOf b graph (plan ps (map (sources graphs) ps) filters known) before found → IsPermutation (optional_rows filters 0 before found) (left_join before (bgp graph ps) filters)
  optional_by true lacks h =
      let same : before ≡ left_join before (bgp graph ps) filters = sym (left_alone filters before) ∙ ap (λ (v : List Bindings). left_join before v filters) (sym (no_rows graphs ps lacks)) in
      subst (λ (v : List Row). IsPermutation (optional_rows filters 0 before v) (left_join before (bgp graph ps) filters)) (sym h)
      (subst (λ (v : List Bindings). IsPermutation v (left_join before (bgp graph ps) filters)) (sym (none_behind filters 0 before)) (subst (IsPermutation before) same (IsPermutation-refl before)))
  optional_by false lacks h = optional_laws.of_a_plan graph ps (map (sources graphs) ps) filters known before found (union_rises graphs) up as_many h

  -- the rows behind an OPTIONAL of it
  pub optional_so : IsRunFound graphs ps filters known before found → IsPermutation (optional_rows filters 0 before found) (left_join before (bgp graph ps) filters)
  optional_so h = optional_by (list_any is_empty_list (map (sources graphs) ps)) refl h

-- a run with a pattern joined to the one empty solution is the run
pub run_itself : (graph : List Triple) (p : Pattern) (ps : List Pattern) → run_joined graph one_empty (p ∷ ps) ≡ bgp graph (p ∷ ps)
run_itself graph p ps = join_first graph (p ∷ ps)
