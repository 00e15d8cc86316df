-- Lines on standard error of what members and SERVICEs didn't give.
use Rattle.std.specs.Prelude.{ℕ, List, [], ◌++◌, Option, None, Some, codes, slice_get}
use Rattle.std.specs.List.{flat_map}
use Rattle.std.specs.Fmt.{decimal}
use Rattle.fx_outside.specs.Endpoints.{EndpointParts}
use Rattle.fx_pool.specs.declared.faults.ReplyFault.{ReplyFault}
use Rattle.fx_outcomes.specs.FaultTexts.{fault_text}
use Rattle.fx_outcomes.specs.declared.rounds.Left.{Left}
use Rattle.fx_outcomes.specs.declared.rounds.LeftCause.{LeftCause}
use Rattle.fx_outcomes.specs.declared.rounds.LeftCause.TheVariants as left_cause
use Rattle.fx_outcomes.specs.declared.rounds.OutcomeInRounds.{OutcomeInRounds}
use Rattle.fx_outcomes.specs.declared.rounds.PlanInRounds.{PlanInRounds}
use Rattle.fx_outcomes.specs.declared.rounds.Round.{Round}
use Rattle.fx_services.specs.declared.noted.Down.{Down}
use Rattle.fx_services.specs.declared.noted.DownCause.{DownCause}
use Rattle.fx_services.specs.declared.noted.DownCause.TheVariants as cause
use Rattle.fx_local.specs.Lines.{line}

-- ---- of members that are left out

-- why a member is left out
abbrev pub left_words : LeftCause → List ℕ
left_words left_cause.Failed = codes "wire failed"
left_words (left_cause.Bad bad) = codes "bad reply"
left_words (left_cause.TooLong size) = codes "request too long"

-- the name of an endpoint, where there is one
abbrev pub name_of : Option EndpointParts → List ℕ
name_of None = []
name_of (Some e) = e.name

-- one that is left out
abbrev pub left_line : List EndpointParts → Left → List ℕ
left_line endpoints l = codes "left out " ++ (name_of (slice_get endpoints l.at) ++ line (codes ": " ++ left_words l.why))

-- a line for each, round by round
abbrev pub left_lines : List EndpointParts → List Round → List ℕ
left_lines endpoints rounds = flat_map (λ (r : Round). flat_map (left_line endpoints) r.left) rounds

-- ---- of SERVICE SILENT

-- why an occurrence of SERVICE SILENT is down
abbrev pub cause_words : DownCause → List ℕ
cause_words cause.Failed = codes "wire failed"
cause_words (cause.Bad bad) = codes "bad reply"
cause_words (cause.TooLong size) = codes "request too long"
cause_words cause.Unknown = codes "unknown endpoint"

-- one that is down; where its IRI is unknown, this is the line of `silent_unknown` in `Lines`
abbrev pub down_line : Down → List ℕ
down_line d = codes "silent " ++ (d.iri ++ line (codes ": " ++ cause_words d.why))

-- a line for each
abbrev pub down_lines : List Down → List ℕ
down_lines noted = flat_map down_line noted

-- of both: the members that these rounds leave out, and then what is down
abbrev pub noted_lines : List EndpointParts → List Round → List Down → List ℕ
noted_lines endpoints rounds down = left_lines endpoints rounds ++ down_lines down

-- the lines behind an answer
abbrev pub answer_lines : List EndpointParts → OutcomeInRounds → List ℕ
answer_lines endpoints all = noted_lines endpoints all.abandoned all.outcome.down

-- the lines behind a plan
abbrev pub plan_lines : List EndpointParts → PlanInRounds → List ℕ
plan_lines endpoints p = left_lines endpoints p.abandoned

-- ---- of a refusal

abbrev pub member_failed : List ℕ → List ℕ
member_failed name = codes "member " ++ (name ++ line (codes " failed"))

-- a SERVICE without SILENT whose exchange failed
abbrev pub service_failed : List ℕ → List ℕ
service_failed iri = codes "service " ++ (iri ++ line (codes " failed"))

-- why a reply isn't read
abbrev pub bad_reply : List ℕ → ReplyFault → List ℕ
bad_reply name why = codes "bad reply from " ++ (name ++ (codes ": " ++ line (fault_text why)))

abbrev pub request_too_long : List ℕ → ℕ → List ℕ
request_too_long name size = codes "request for " ++ (name ++ (codes " has " ++ (decimal size ++ line (codes " bytes"))))
