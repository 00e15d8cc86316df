-- What members told of the branches of a batch, united into the rows behind its unit.
use Rattle.std.specs.Prelude.{ℕ, Bool, not, ◌==◌, List, [], ◌∷◌, map, filter, slice_get, Option, Some, None, All, IsTrue, IsPermutation}
use Rattle.std.specs.List.{flat_map}
use Rattle.std.proofs.Common.{suc}
use Rattle.fx_terms.specs.Graphs.{set_of}
use Rattle.fx_terms.specs.declared.triples.Triple.{Triple}
use Rattle.fx_algebra.specs.Graphs.{union}
use Rattle.fx_algebra.specs.Solutions.{Bindings, rises, solution_cmp}
use Rattle.fx_algebra.specs.Units.{graph_of, row_of, step}
use Rattle.fx_algebra.specs.declared.units.Row.{Row}
use Rattle.fx_algebra.specs.declared.units.Unit as unit
use Rattle.fx_spelling.specs.Units.{IsSound}
use Rattle.fx_renaming.specs.Branches.{bound_pattern, is_hopeless}
use Rattle.fx_founds.specs.Unions.{beside}
use Rattle.fx_founds.specs.declared.founds.Found.{Found}

-- ---- the branches of rows

-- a row beside its number among the rows that were handed in
pub record Place : Type 0 where
  pub number : ℕ
  pub row : Row

abbrev pub places_from : ℕ → List Row → List Place
places_from n [] = []
places_from n (r ∷ rows) = record { number = n; row = r } ∷ places_from (suc n) rows

-- no literal comes to stand as a subject or a predicate
abbrev pub is_worth_asking : unit.Unit → Place → Bool
is_worth_asking u b = not (is_hopeless (map (bound_pattern (λ name. name) b.row.solution) u.patterns))

-- the rows that a text asks for; each keeps its number where one is left out
abbrev pub branches : unit.Unit → List Row → List Place
branches u rows = filter (is_worth_asking u) (places_from 0 rows)

-- their numbers
abbrev pub numbers_of : unit.Unit → List Row → List ℕ
numbers_of u rows = map (λ b. b.number) (branches u rows)

-- ---- what was found

-- what a member with this graph has for a branch
abbrev pub tells : List Triple → unit.Unit → Place → List Found
tells graph u b = map (λ s. record { branch = b.number; solution = s }) (beside graph u b.row.solution)

-- what was found for a branch
abbrev pub found_for : ℕ → List Found → List Bindings
found_for number founds = map (λ f. f.solution) (filter (λ f. f.branch == number) founds)

-- all that was found, branch by branch, each solution of a branch once, under the number that its row came with
abbrev pub united : List Place → List (List Found) → List Row
united bs lists = flat_map (λ b. map (row_of b.row.origin) (set_of solution_cmp (found_for b.number (flat_map (λ list. list) lists)))) bs

-- the number that the row at a place came with
abbrev pub origin_by : Option Row → ℕ
origin_by None = 0
origin_by (Some row) = row.origin

abbrev pub origin_at : List Row → ℕ → ℕ
origin_at rows place = origin_by (slice_get rows place)

-- what was found, as a row between two units
abbrev pub row_by : List Row → Found → Row
row_by rows f = row_of (origin_at rows f.branch) f.solution

-- ---- the law

-- the lists are what each of the members has for the branches, in any order
abbrev pub AreToldBy : List (List Triple) → unit.Unit → List Place → List ℕ → List (List Found) → Type 0
AreToldBy graphs u bs [] lists = Unit {0}
AreToldBy graphs u bs (at ∷ members) [] = ⊥
AreToldBy graphs u bs (at ∷ members) (list ∷ lists) = IsPermutation list (flat_map (tells (graph_of graphs at) u) bs) × AreToldBy graphs u bs members lists

-- no list is left behind those of the members
abbrev pub AreAll : List ℕ → List (List Found) → Type 0
AreAll [] [] = Unit {0}
AreAll [] (list ∷ lists) = ⊥
AreAll (at ∷ members) [] = ⊥
AreAll (at ∷ members) (list ∷ lists) = AreAll members lists

-- Where a unit is sound over graphs, what its members have for the branches of rows unites to what the unit makes of the rows over the
-- union of the graphs.
abbrev pub UnitedIsTheStep : Type 0
UnitedIsTheStep = (graphs : List (List Triple)) (u : unit.Unit) (rows : List Row) (lists : List (List Found))
    → IsSound graphs u
    → All (λ r. IsTrue (rises r.solution)) rows
    → AreToldBy graphs u (branches u rows) u.members lists
    → AreAll u.members lists
    → IsPermutation (united (branches u rows) lists) (step (union graphs) u rows)
