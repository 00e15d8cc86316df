-- An OPTIONAL whose group holds triple patterns and filters alone is gone through row by row.
use Rattle.std.proofs.Common.{◌≡◌, ◌∙◌, ap, sym, subst, refl, ℕ, ◌+◌, ◌<◌, ◌≤◌, List, [], ◌∷◌, ◌++◌, length, take, drop, get_or, IsTrue, IsPermutation, T, append-nil}
use Rattle.std.proofs.lemmas.List.Elements.{recursion_from_All}
use Rattle.std.specs.Prelude.{All}
use Rattle.std.specs.List.{flat_map}
use Rattle.fx_terms.specs.declared.triples.Triple.{Triple}
use Rattle.fx_terms.specs.declared.patterns.Pattern.{Pattern}
use Rattle.fx_algebra.specs.BasicGraphPatterns.{bgp}
use Rattle.fx_algebra.specs.Evaluation.{extended, rows_from}
use Rattle.fx_algebra.specs.Groups.{one_empty}
use Rattle.fx_algebra.specs.Operators.{filtered, left_join, matches, merges, or_itself}
use Rattle.fx_algebra.specs.Solutions.{Bindings, rises}
use Rattle.fx_algebra.specs.declared.expressions.Expr.{Expr}
use Rattle.fx_algebra.specs.declared.queries.Element.{Element}
use Rattle.fx_algebra.specs.declared.queries.Element.TheVariants.{Triple as Triple-E, Filter, Optional}
use Rattle.fx_algebra.specs.declared.queries.Group.{Group}
use Rattle.fx_algebra.proofs.BgpLemmas.{rows_from-bgp}
use Rattle.fx_algebra.proofs.JoinLemmas.{join_run}
use Rattle.fx_solutions.proofs.LeftJoinLemmas.{rows_of_left_join}
use Rattle.fx_evaluation.specs.GroupRows.{AreAfter, AreFilters}
use Rattle.fx_evaluation.specs.Optionals.{IsRunOf, matches_or_itself}
use Rattle.fx_evaluation.proofs.GroupLemmas.{AllRise, IsSoFar, after_filter, after_optional, after_triple, all_rise, rising_extended, so_far_at, so_far_end}

-- ---- one pattern more

pub rows_from_more : (graph : List Triple) (rows : List Bindings) (ps : List Pattern) (p : Pattern) → rows_from graph rows (ps ++ p ∷ []) ≡ extended graph p (rows_from graph rows ps)
rows_from_more graph rows [] p = refl
rows_from_more graph rows (q ∷ ps) p = rows_from_more graph (extended graph q rows) ps p

pub rising_rows_from : (graph : List Triple) (ps : List Pattern) (rows : List Bindings) → AllRise rows → AllRise (rows_from graph rows ps)
rising_rows_from graph [] rows up = up
rising_rows_from graph (p ∷ ps) rows up = rising_rows_from graph ps (extended graph p rows) (rising_extended graph p rows up)

-- ---- the patterns of a group, element by element

-- over each graph the patterns so far give the rows after the elements so far
pub record IsRunSoFar (all done left : List Element) (patterns : List Pattern) : Type 0 where
  pub same : (graph : List Triple) → IsSoFar all done left graph (rows_from graph one_empty patterns)

module _ (all : List Element) (i : ℕ) (e : Element) (patterns : List Pattern) (b : i < length all) (is : e ≡ get_or all i e) where
  step : (more : List Pattern) → ((graph : List Triple) → AreAfter e graph (rows_from graph one_empty patterns) (rows_from graph one_empty more)) → IsRunSoFar all (take i all) (drop i all) patterns
      → IsRunSoFar all (take (i + 1) all) (drop (i + 1) all) more
  step more next h = record {
    same = λ graph.
        so_far_at all i e graph (rows_from graph one_empty patterns) (rows_from graph one_empty more) b is (h.same graph) (rising_rows_from graph patterns one_empty (tt, tt)) (next graph);
  }

  pub run_with_triple : (p q : Pattern) (more : List Pattern) → e ≡ Triple-E p → q ≡ p → more ≡ patterns ++ q ∷ [] → IsRunSoFar all (take i all) (drop i all) patterns → IsRunSoFar all (take (i + 1) all) (drop (i + 1) all) more
  run_with_triple p q more named same added =
      step more (λ graph. let before = rows_from graph one_empty patterns in
      let rows = rows_from graph one_empty more in
      let pushed : more ≡ patterns ++ p ∷ [] = added ∙ ap (λ (x : Pattern). patterns ++ x ∷ []) same in
      subst (λ (x : Element). AreAfter x graph before rows) (sym named) (after_triple graph before rows p (ap (rows_from graph one_empty) pushed ∙ rows_from_more graph one_empty patterns p)))

  pub run_with_filter : (x : Expr) → e ≡ Filter x → IsRunSoFar all (take i all) (drop i all) patterns → IsRunSoFar all (take (i + 1) all) (drop (i + 1) all) patterns
  run_with_filter x named =
      step patterns (λ graph. let rows = rows_from graph one_empty patterns in
      subst (λ (y : Element). AreAfter y graph rows rows) (sym named) (after_filter graph rows rows x refl))

pub run_all : (g : Group) (all : List Element) (i : ℕ) (patterns : List Pattern) → all ≡ g.elements → length all ≤ i → IsRunSoFar all (take i all) (drop i all) patterns → IsRunOf g patterns
run_all g all i patterns e b h = record { same = λ graph. so_far_end g all i graph (rows_from graph one_empty patterns) e b (h.same graph) }

-- ---- its left join

module _ (graph : List Triple) (ps : List Pattern) (conditions : List Expr) where
  abbrev found : List Bindings
  found = rows_from graph one_empty ps

  of_row : (a : Bindings) → T (rises a) → or_itself a (matches conditions found a) ≡ matches_or_itself graph ps conditions a
  of_row a up =
      let merged : merges found a ≡ rows_from graph (a ∷ []) ps =
      ap (λ rows. merges rows a) (rows_from-bgp graph ps) ∙ sym (append-nil (merges (bgp graph ps) a)) ∙ join_run graph ps (a ∷ []) (up, tt) in
      ap (λ rows. or_itself a (filtered conditions rows)) merged

  of_rows : (rows : List Bindings) → AllRise rows → flat_map (λ a. or_itself a (matches conditions found a)) rows ≡ flat_map (matches_or_itself graph ps conditions) rows
  of_rows [] up = refl
  of_rows (a ∷ rows) up = λ i. of_row a up.0 i ++ of_rows rows up.1 i

  pub left_join_of_run : (before : List Bindings) → AllRise before → IsPermutation (left_join before found conditions) (flat_map (matches_or_itself graph ps conditions) before)
  left_join_of_run before up = subst (λ (rows : List Bindings). IsPermutation (left_join before found conditions) rows) (of_rows before up) (rows_of_left_join conditions found before)

-- so are the rows after the OPTIONAL
pub after_run : (g : Group) (graph : List Triple) (before rows : List Bindings) (ps : List Pattern) (filters : List Expr) → IsRunOf g ps → AreFilters g filters → All (λ s. IsTrue (rises s)) before
    → rows ≡ flat_map (matches_or_itself graph ps filters) before → AreAfter (Optional g) graph before rows
after_run g graph before rows ps filters run own up e =
    after_optional graph before rows g (rows_from graph one_empty ps) filters (run.same graph) own
    (subst (λ (v : List Bindings). IsPermutation (left_join before (rows_from graph one_empty ps) filters) v) (sym e)
    (left_join_of_run graph ps filters before (all_rise before (recursion_from_All (λ s. IsTrue (rises s)) before up))))
