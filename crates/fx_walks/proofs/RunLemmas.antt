-- A run that hasn't ended, in front of the steps behind it: its station, the rows that enter it, and those behind it.
use Rattle.std.proofs.Common.{◌≡◌, ap, sym, refl, ℕ, ◌+◌, true, List, [], ◌∷◌, ◌++◌, append-nil}
use Rattle.fx_terms.specs.declared.triples.Triple.{Triple}
use Rattle.fx_terms.specs.declared.patterns.Pattern.{Pattern}
use Rattle.fx_algebra.specs.BasicGraphPatterns.{variables}
use Rattle.fx_algebra.specs.Groups.{Operator, Step, run, apply, with_pattern, stations_of, seeds_of, after}
use Rattle.fx_algebra.specs.Solutions.{Bindings}
use Rattle.fx_algebra.specs.declared.expressions.Expr.{Expr}
use Rattle.fx_walks.specs.GroupsAsked.{is_run, run_joined, run_seeds, run_stations, with_run}

pub run_more : (ps : List Pattern) (p : Pattern) (steps : List Step) → with_run ps (with_pattern p steps) ≡ with_run (ps ++ p ∷ []) steps
run_more [] p steps = refl
run_more (q ∷ ps) p steps = ap (with_pattern q) (run_more ps p steps)

pub run_alone : (p : Pattern) (ps : List Pattern) → with_run (p ∷ ps) [] ≡ run (p ∷ ps) ∷ []
run_alone p [] = refl
run_alone p (q ∷ ps) = ap (with_pattern p) (run_alone q ps)

pub run_first : (p : Pattern) (ps : List Pattern) (o : Operator) (steps : List Step) → with_run (p ∷ ps) (apply o ∷ steps) ≡ run (p ∷ ps) ∷ apply o ∷ steps
run_first p [] o steps = refl
run_first p (q ∷ ps) o steps = ap (with_pattern p) (run_first q ps o steps)

pub is_run_more : (ps : List Pattern) (p : Pattern) → is_run (ps ++ p ∷ []) ≡ true
is_run_more [] p = refl
is_run_more (q ∷ ps) p = refl

-- ---- where the steps are over

module _ (number : ℕ) where
  pub stations_alone : (filters : List Expr) (known : List (List ℕ)) (ps : List Pattern) → stations_of filters number known (with_run ps []) ≡ run_stations filters known ps
  stations_alone filters known [] = refl
  stations_alone filters known (p ∷ ps) = ap (stations_of filters number known) (run_alone p ps)

  pub seeds_alone : (graph : List Triple) (rows : List Bindings) (ps : List Pattern) → seeds_of graph number rows (with_run ps []) ≡ run_seeds rows ps
  seeds_alone graph rows [] = refl
  seeds_alone graph rows (p ∷ ps) = ap (seeds_of graph number rows) (run_alone p ps)

  pub after_alone : (graph : List Triple) (rows : List Bindings) (ps : List Pattern) → after graph number rows (with_run ps []) ≡ run_joined graph rows ps
  after_alone graph rows [] = refl
  after_alone graph rows (p ∷ ps) = ap (after graph number rows) (run_alone p ps)

-- ---- before an operator

-- the names behind a run
abbrev pub names_behind : List (List ℕ) → List Pattern → List (List ℕ)
names_behind known ps = known ++ variables ps

module _ (o : Operator) (steps : List Step) (number : ℕ) where
  pub stations_before : (filters : List Expr) (known : List (List ℕ)) (ps : List Pattern)
      → stations_of filters number known (with_run ps (apply o ∷ steps))
      ≡ run_stations filters known ps ++ (o.cut.stations number (names_behind known ps) ++ stations_of filters (number + o.services) (names_behind known ps ++ o.cut.names) steps)
  stations_before filters known [] = ap (λ (v : List (List ℕ)). o.cut.stations number v ++ stations_of filters (number + o.services) (v ++ o.cut.names) steps) (sym (append-nil known))
  stations_before filters known (p ∷ ps) = ap (stations_of filters number known) (run_first p ps o steps)

  pub seeds_before : (graph : List Triple) (rows : List Bindings) (ps : List Pattern)
      → seeds_of graph number rows (with_run ps (apply o ∷ steps))
      ≡ run_seeds rows ps ++ (o.cut.seeds graph number (run_joined graph rows ps) ++ seeds_of graph (number + o.services) (o.rows graph number (run_joined graph rows ps)) steps)
  seeds_before graph rows [] = refl
  seeds_before graph rows (p ∷ ps) = ap (seeds_of graph number rows) (run_first p ps o steps)

  pub after_before : (graph : List Triple) (rows : List Bindings) (ps : List Pattern)
      → after graph number rows (with_run ps (apply o ∷ steps)) ≡ after graph (number + o.services) (o.rows graph number (run_joined graph rows ps)) steps
  after_before graph rows [] = refl
  after_before graph rows (p ∷ ps) = ap (after graph number rows) (run_first p ps o steps)
