-- The units of the plan of a run: each can be asked for, their members are those of the run's patterns, and with true sources no member that
-- has anything for a unit is left out.
use Rattle.std.specs.Prelude.{◌≡◌, ◌<◌, ℕ, false, List, length, map, All, AllPairs, Contains}
use Rattle.std.specs.List.{list_any}
use Rattle.fx_terms.specs.declared.triples.Triple.{Triple}
use Rattle.fx_terms.specs.declared.patterns.Pattern.{Pattern}
use Rattle.fx_algebra.specs.Answers.{is_empty_list}
use Rattle.fx_algebra.specs.Cuts.{stations}
use Rattle.fx_algebra.specs.Stations as station
use Rattle.fx_algebra.specs.Units.{sources}
use Rattle.fx_algebra.specs.declared.expressions.Expr.{Expr}
use Rattle.fx_algebra.specs.declared.queries.Query.{Query}
use Rattle.fx_grammar.specs.Accepted.{Accepted}
use Rattle.fx_spelling.specs.Runs.{IsRun}
use Rattle.fx_spelling.specs.Units.{IsFit, IsSound}
use Rattle.fx_plan.specs.Plans.{plan}
use Rattle.fx_traffic.specs.Batches.{joined}

-- no list of members is empty, and the members of each rise by number
pub record AreMembers (lists : List (List ℕ)) : Type 0 where
  pub some : list_any is_empty_list lists ≡ false
  pub rising : All (AllPairs ◌<◌) lists

-- ---- laws

-- each unit of the plan of a run of the grammar is fit, whatever members its patterns have
abbrev pub PlansAreFit : Type 0
PlansAreFit = (ps : List Pattern) (lists : List (List ℕ)) (filters : List Expr) (before : List (List ℕ)) → IsRun ps filters → AreMembers lists → All IsFit (plan ps lists filters before)

-- where some text is accepted as a query, it is so of each of its runs
abbrev pub RunsHaveFitPlans : Type 0
RunsHaveFitPlans = (text : List ℕ) (q : Query) (ps : List Pattern) (lists : List (List ℕ)) (filters : List Expr) (before : List (List ℕ))
    → Accepted text q
    → Contains (stations q) (station.run ps filters before)
    → AreMembers lists
    → All IsFit (plan ps lists filters before)

-- and each unit is sound where the patterns have the sources that they have in graphs
abbrev pub RunsHaveSoundPlans : Type 0
RunsHaveSoundPlans = (text : List ℕ) (q : Query) (graphs : List (List Triple)) (ps : List Pattern) (filters : List Expr) (before : List (List ℕ))
    → Accepted text q
    → Contains (stations q) (station.run ps filters before)
    → list_any is_empty_list (map (sources graphs) ps) ≡ false
    → All (IsSound graphs) (plan ps (map (sources graphs) ps) filters before)

-- the sources of a pattern rise by number
abbrev pub SourcesRise : Type 0
SourcesRise = (graphs : List (List Triple)) (p : Pattern) → AllPairs ◌<◌ (sources graphs p)

-- each is the number of a graph
abbrev pub SourcesAreWithin : Type 0
SourcesAreWithin = (graphs : List (List Triple)) (p : Pattern) → All (λ at. at < length graphs) (sources graphs p)

-- each member of a unit stands in one of the lists
abbrev pub MembersAreOfTheRun : Type 0
MembersAreOfTheRun = (ps : List Pattern) (lists : List (List ℕ)) (filters : List Expr) (before : List (List ℕ)) → All (λ u. All (Contains (joined lists)) u.members) (plan ps lists filters before)

-- so each is below a number that all in the lists are below
abbrev pub MembersAreWithin : Type 0
MembersAreWithin = (members : ℕ) (ps : List Pattern) (lists : List (List ℕ)) (filters : List Expr) (before : List (List ℕ))
    → All (λ list. All (λ at. at < members) list) lists
    → All (λ u. All (λ at. at < members) u.members) (plan ps lists filters before)

-- the plan of a run that has a pattern has a unit
abbrev pub PlansHaveAUnit : Type 0
PlansHaveAUnit = (ps : List Pattern) (lists : List (List ℕ)) (filters : List Expr) (before : List (List ℕ)) → 0 < length ps → length lists ≡ length ps → 0 < length (plan ps lists filters before)

pub record PlannedLaws : Type 0 where
  pub fit : PlansAreFit
  pub of_queries : RunsHaveFitPlans
  pub sound : RunsHaveSoundPlans
  pub rising : SourcesRise
  pub sources_within : SourcesAreWithin
  pub members : MembersAreOfTheRun
  pub within : MembersAreWithin
  pub some : PlansHaveAUnit
