-- What only joins may be taken in any order.
use Rattle.std.specs.Prelude.{◌≡◌, true, All, IsPermutation, List}
use Rattle.std.specs.List.Sorted.{IsStrictlySortedBy}
use Rattle.fx_terms.specs.Triples.{triple_cmp}
use Rattle.fx_terms.specs.declared.patterns.Pattern.{Pattern}
use Rattle.fx_terms.specs.declared.triples.Triple.{Triple}
use Rattle.fx_algebra.specs.Evaluation.{rows_from}
use Rattle.fx_algebra.specs.Operators.{join}
use Rattle.fx_algebra.specs.Solutions.{Bindings, rises}

-- over a graph whose triples rise, the rows of a run don't hang on the order of its patterns
abbrev pub RunsInAnyOrder : Type 0
RunsInAnyOrder =
    (graph : List Triple) (rows : List Bindings) (ps qs : List Pattern) → IsStrictlySortedBy triple_cmp graph → All (λ s. rises s ≡ true) rows → IsPermutation ps qs
    → IsPermutation (rows_from graph rows ps) (rows_from graph rows qs)

-- rows that are joined with one list and then with another
abbrev pub JoinsInAnyOrder : Type 0
JoinsInAnyOrder = (rows xs ys : List Bindings) → All (λ s. rises s ≡ true) rows → IsPermutation (join (join rows xs) ys) (join (join rows ys) xs)
