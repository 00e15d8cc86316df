-- What may be sent where some rows enter a run may be sent where more do: it hangs on the rows' solutions, and not on their numbers.
use Rattle.std.specs.Prelude.{ℕ, List, ◌++◌, IsPermutation}
use Rattle.fx_terms.specs.declared.triples.Triple.{Triple}
use Rattle.fx_terms.specs.declared.patterns.Pattern.{Pattern}
use Rattle.fx_outside.specs.Endpoints.{EndpointParts}
use Rattle.fx_algebra.specs.Solutions.{Bindings}
use Rattle.fx_algebra.specs.Stations as station
use Rattle.fx_algebra.specs.declared.expressions.Expr.{Expr}
use Rattle.fx_algebra.specs.declared.units.Row.{Row}
use Rattle.fx_algebra.specs.declared.units.Unit as unit
use Rattle.fx_steps.specs.Steps.{numbered, solutions_of}
use Rattle.fx_traffic.specs.Batches.{IsRunSent}
use Rattle.fx_traffic.specs.Sent.{Sent}
use Rattle.fx_traffic.specs.Traffic.{IsPlanSent, IsStationSent}

-- ---- laws

-- the numbers of the rows that enter a run are free, as their order is
abbrev pub NumbersAreFree : Type 0
NumbersAreFree = (endpoints : List EndpointParts) (graph : List Triple) (block most : ℕ) (us : List unit.Unit) (rows others : List Row) (wanted : List Sent)
    → IsPermutation (solutions_of rows) (solutions_of others)
    → IsRunSent endpoints graph block most us rows wanted
    → IsRunSent endpoints graph block most us others wanted

-- what may be sent of fewer rows may be sent of all
abbrev pub RunOfMore : Type 0
RunOfMore = (endpoints : List EndpointParts) (graph : List Triple) (block : ℕ) (us : List unit.Unit) (found gone rows : List Bindings) (wanted : List Sent)
    → IsPermutation (found ++ gone) rows
    → IsRunSent endpoints graph block 1 us (numbered 0 found) wanted
    → IsRunSent endpoints graph block 1 us (numbered 0 rows) wanted

-- so it is of a run under its plan
abbrev pub PlanOfMore : Type 0
PlanOfMore = (endpoints : List EndpointParts) (graph : List Triple) (block : ℕ) (run : List Pattern) (members : List (List ℕ)) (filters : List Expr) (before : List (List ℕ)) (found gone rows : List Bindings) (wanted : List Sent)
    → IsPermutation (found ++ gone) rows
    → IsPlanSent endpoints graph block run members filters before found wanted
    → IsPlanSent endpoints graph block run members filters before rows wanted

-- and of a station
abbrev pub StationOfMore : Type 0
StationOfMore = (endpoints : List EndpointParts) (graphs : List (List Triple)) (block : ℕ) (s : station.Station) (found gone rows : List Bindings) (wanted : List Sent)
    → IsPermutation (found ++ gone) rows
    → IsStationSent endpoints graphs block s found wanted
    → IsStationSent endpoints graphs block s rows wanted

pub record FewerLaws : Type 0 where
  pub numbers : NumbersAreFree
  pub run : RunOfMore
  pub plan : PlanOfMore
  pub station : StationOfMore
