-- What a query sends: ASKs of its triple patterns' keys, batches of the runs of its groups, and the texts of its SERVICEs.
use Rattle.std.specs.Prelude.{◌≡◌, ◌⊎◌, ℕ, Bool, true, false, List, [], ◌∷◌, ◌++◌, map, length, None, Some, Contains, IsPermutation, slice_get}
use Rattle.std.specs.List.{list_any}
use Rattle.fx_terms.specs.declared.triples.Triple.{Triple}
use Rattle.fx_terms.specs.declared.patterns.Pattern.{Pattern}
use Rattle.fx_outside.specs.Endpoints.{EndpointParts}
use Rattle.fx_algebra.specs.Answers.{is_empty_list}
use Rattle.fx_algebra.specs.Cuts.{seeds, stations}
use Rattle.fx_algebra.specs.Graphs.{union}
use Rattle.fx_algebra.specs.Printed.{printed_query}
use Rattle.fx_algebra.specs.Scopes.{scope}
use Rattle.fx_algebra.specs.Solutions.{Bindings}
use Rattle.fx_algebra.specs.Stations as station
use Rattle.fx_algebra.specs.Units.{sources}
use Rattle.fx_algebra.specs.declared.expressions.Expr.{Expr}
use Rattle.fx_algebra.specs.declared.queries.Form.TheVariants as form
use Rattle.fx_algebra.specs.declared.queries.Group.{Group}
use Rattle.fx_algebra.specs.declared.queries.Query.{Query}
use Rattle.fx_http.specs.Requests.{request_of}
use Rattle.fx_keys.specs.declared.probes.Probe.{Probe}
use Rattle.fx_sources.specs.Probes.{Entry, missing}
use Rattle.fx_sources.specs.Sources.{ask_text}
use Rattle.fx_plan.specs.Plans.{plan}
use Rattle.fx_steps.specs.Steps.{numbered}
use Rattle.fx_wire.specs.Exchanges.{Exchange}
use Rattle.fx_traffic.specs.Batches.{IsRunSent}
use Rattle.fx_traffic.specs.Sent.{Sent, Sends}

-- ---- ASKs

-- whether a key fits is asked of its member
pub record IsAskSent (endpoints : List EndpointParts) (p : Probe) (s : Sent) : Type 0 where
  pub member : slice_get endpoints p.at ≡ Some s.at
  pub posted : s.request ≡ request_of s.at (ask_text p.key.pattern)

abbrev pub AreAsksSent : List EndpointParts → List Probe → List Sent → Type 0
AreAsksSent endpoints [] wanted = wanted ≡ []
AreAsksSent endpoints (p ∷ ps) [] = ⊥
AreAsksSent endpoints (p ∷ ps) (s ∷ wanted) = IsAskSent endpoints p s × AreAsksSent endpoints ps wanted

-- some of what the entries lack is asked for, each once
pub record AreAsked (endpoints : List EndpointParts) (q : Query) (entries : List Entry) (wanted : List Sent) : Type 0 where
  pub probes : List Probe
  pub unasked : List Probe
  pub lacked : IsPermutation (probes ++ unasked) (missing q (length endpoints) entries)
  pub texts : AreAsksSent endpoints probes wanted

-- ---- runs and SERVICEs

-- what steps send, or nothing where a pattern of their run has no source
abbrev pub SentUnless : Bool → List Sent → Type 0 → Type 0
SentUnless true wanted steps = wanted ≡ []
SentUnless false wanted steps = steps

-- what a run sends where each of its patterns has these members as its sources
abbrev pub IsPlanSent : List EndpointParts → List Triple → ℕ → List Pattern → List (List ℕ) → List Expr → List (List ℕ) → List Bindings → List Sent → Type 0
IsPlanSent endpoints graph block run members filters before rows wanted =
    SentUnless (list_any is_empty_list members) wanted (IsRunSent endpoints graph block 1 (plan run members filters before) (numbered 0 rows) wanted)

-- the query of a SERVICE: its group, with the group's scope as columns
abbrev pub service_query : Group → Query
service_query g = record { form = form.Select false (scope g); group = g; order = []; offset = 0; limit = None; inline = None }

-- its text goes to the endpoint at its address
pub record IsServiceSent (endpoints : List EndpointParts) (iri : List ℕ) (g : Group) (wanted : List Sent) : Type 0 where
  pub member : EndpointParts
  pub known : Contains endpoints member
  pub at : member.iri ≡ iri
  pub text : wanted ≡ record { at = member; request = request_of member (printed_query (service_query g)) } ∷ []

-- what a station sends where these rows enter it; a SERVICE sends its text at most once
abbrev pub IsStationSent : List EndpointParts → List (List Triple) → ℕ → station.Station → List Bindings → List Sent → Type 0
IsStationSent endpoints graphs block (station.run ps filters before) rows wanted = IsPlanSent endpoints (union graphs) block ps (map (sources graphs) ps) filters before rows wanted
IsStationSent endpoints graphs block (station.service number silent iri g) rows wanted = (wanted ≡ []) ⊎ IsServiceSent endpoints iri g wanted

abbrev pub AreStationsSent : List EndpointParts → List (List Triple) → ℕ → List station.Station → List (List Bindings) → List Sent → Type 0
AreStationsSent endpoints graphs block [] [] wanted = wanted ≡ []
AreStationsSent endpoints graphs block [] (rows ∷ entering) wanted = ⊥
AreStationsSent endpoints graphs block (s ∷ all) [] wanted = ⊥
AreStationsSent endpoints graphs block (s ∷ all) (rows ∷ entering) wanted =
    (own : List Sent) × (rest : List Sent) × (wanted ≡ own ++ rest) × IsStationSent endpoints graphs block s rows own × AreStationsSent endpoints graphs block all entering rest

-- ---- a query

-- What a query sends in batches of so many rows at most, over the graphs of the endpoints, where these entries are known before, each IRI
-- has a graph, and the occurrences of SERVICE of these numbers are down. What is left of it wasn't sent.
pub record IsTraffic (endpoints : List EndpointParts) (graphs : List (List Triple)) (block : ℕ) (services : List ℕ → List Triple) (down : List ℕ) (q : Query) (entries : List Entry) (left : List Sent) (exchanges : List Exchange) : Type 0 where
  pub asks : List Sent
  pub asked : AreAsked endpoints q entries asks
  pub texts : List Sent
  pub of_stations : AreStationsSent endpoints graphs block (stations q) (seeds q (union graphs) services down) texts
  pub sent : Sends (asks ++ texts) left exchanges
