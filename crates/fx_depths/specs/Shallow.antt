-- How many brackets are open at once in what is printed of an accepted query. In its text at most 64 of `{` and `(` are. What is printed
-- has brackets only where the grammar needs them, so the text had each of these, but for a block of VALUES: `VALUES ?x { 1 }` is printed
-- as `VALUES ( ?x ) { ( 1 ) }`, in which one more is open.
use Rattle.std.specs.Prelude.{ℕ, List, All, ◌≤◌}
use Rattle.fx_algebra.specs.Cuts.{stations}
use Rattle.fx_algebra.specs.Stations.{Station}
use Rattle.fx_algebra.specs.Stations as station
use Rattle.fx_algebra.specs.declared.queries.Query.{Query}
use Rattle.fx_grammar.specs.Accepted.{Accepted}
use Rattle.fx_spelling.specs.Printable.{held, brackets}

-- the law: at most 65 brackets are open at once in what is printed of an accepted query
abbrev pub QueriesAreShallow : Type 0
QueriesAreShallow = (text : List ℕ) (q : Query) → Accepted text q → brackets q ≤ 65

-- the law: the same of its group
abbrev pub GroupsAreShallow : Type 0
GroupsAreShallow = (text : List ℕ) (q : Query) → Accepted text q → (held q.group).nest ≤ 65

-- at most 64 are open at once in what is printed of the group of a SERVICE
abbrev pub IsShallow : Station → Type 0
IsShallow (station.run ps filters before) = Unit {0}
IsShallow (station.service number silent iri g) = (held g).nest ≤ 64

-- the law: this holds of each SERVICE of an accepted query, since the query opens a bracket round it
abbrev pub ServicesAreShallow : Type 0
ServicesAreShallow = (text : List ℕ) (q : Query) → Accepted text q → All IsShallow (stations q)
