-- What the members gave in a run, and who of them was left out.
use Rattle.std.specs.Prelude.{◌++◌, ℕ, Bool, List, map, Ok}
use Rattle.fx_terms.specs.declared.triples.Triple.{Triple}
use Rattle.fx_outside.specs.Endpoints.{EndpointParts}
use Rattle.fx_algebra.specs.Answers.{answer}
use Rattle.fx_algebra.specs.Graphs.{union}
use Rattle.fx_algebra.specs.Units.{of_kept, sources}
use Rattle.fx_algebra.specs.declared.queries.Query.{Query}
use Rattle.fx_results.specs.Documents.{document}
use Rattle.fx_plan.specs.Explained.{explained}
use Rattle.fx_traffic.specs.Gains.{WiresSeen}
use Rattle.fx_walks.specs.Sections.{parts_with}
use Rattle.fx_outcomes.specs.declared.rounds.OutcomeInRounds.{OutcomeInRounds}
use Rattle.fx_outcomes.specs.declared.rounds.PlanInRounds.{PlanInRounds}
use Rattle.fx_rounds.specs.Answered.{AreLicensed, IsPlanLicensed}
use Rattle.fx_commands.specs.Asking.{WasAsked, WasPlanned}
use Rattle.fx_lines.specs.MemberLines.{down_lines, left_lines}

-- The members were asked for the query in rounds, and gave an answer, of which this is so: its document is that over the union of the graphs of those that weren't left out in these very rounds, where the SERVICEs
-- are down that were in the last, each by its own cause; each of both has its line; no member is left out that may not be; and what was exchanged is the traffic of the query in these rounds.
abbrev pub Gives : WiresSeen → List EndpointParts → Query → ℕ → List (List Triple) → (List ℕ → List Triple) → (List ℕ → List ℕ → Type 0) → Type 0
Gives w endpoints asked block graphs graph_at Is =
    (all : OutcomeInRounds) × (kept : List Bool) × WasAsked w endpoints asked block (Ok all) × AreLicensed w endpoints asked block kept all.abandoned all.outcome.down
    × Is (document (answer asked (union (of_kept kept graphs)) graph_at (map (λ d. d.place) all.outcome.down))) (left_lines endpoints all.abandoned ++ down_lines all.outcome.down)

-- so it was for its plan
abbrev pub Plans : WiresSeen → List EndpointParts → Query → List (List Triple) → (List ℕ → List ℕ → Type 0) → Type 0
Plans w endpoints asked graphs Is =
    (p : PlanInRounds) × (kept : List Bool) × WasPlanned w endpoints asked (Ok p) × IsPlanLicensed w endpoints asked kept p.abandoned
    × Is (explained (parts_with (sources (of_kept kept graphs)) asked) endpoints) (left_lines endpoints p.abandoned)
