-- What the members of a unit have beside a row, united.
use Rattle.std.specs.Prelude.{List, IsTrue, IsPermutation}
use Rattle.std.specs.List.{flat_map}
use Rattle.fx_terms.specs.Graphs.{set_of}
use Rattle.fx_terms.specs.declared.triples.Triple.{Triple}
use Rattle.fx_algebra.specs.BasicGraphPatterns.{bgp}
use Rattle.fx_algebra.specs.Graphs.{union}
use Rattle.fx_algebra.specs.Operators.{filtered, merges}
use Rattle.fx_algebra.specs.Solutions.{Bindings, rises, solution_cmp}
use Rattle.fx_algebra.specs.Units.{graph_of}
use Rattle.fx_algebra.specs.declared.units.Unit as unit
use Rattle.fx_spelling.specs.Units.{IsSound}

-- what a row merges to with the solutions of a unit over a graph, under the unit's filters
abbrev pub beside : List Triple → unit.Unit → Bindings → List Bindings
beside graph u row = filtered u.filters (merges (bgp graph u.patterns) row)

-- that of each member, one after the other
abbrev pub of_members : List (List Triple) → unit.Unit → Bindings → List Bindings
of_members graphs u row = flat_map (λ at. beside (graph_of graphs at) u row) u.members

-- ---- laws

-- Where a unit is sound over graphs, what its members have beside a row, each once, is what the union of the graphs has: a solution that
-- several members have counts once, and none is left out.
abbrev pub MembersHaveTheUnion : Type 0
MembersHaveTheUnion = (graphs : List (List Triple)) (u : unit.Unit) (row : Bindings) → IsTrue (rises row) → IsSound graphs u
    → IsPermutation (beside (union graphs) u row) (set_of solution_cmp (of_members graphs u row))
