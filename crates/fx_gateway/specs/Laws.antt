-- What a federation replies where the wires tell the graphs of its members.
use Rattle.std.specs.Prelude.{◌≡◌, ◌⊎◌, ◌++◌, Bool, List, ℕ, [], All, IsTrue, None, Some, Result, Ok, Err}
use Rattle.fx_terms.specs.declared.triples.Triple.{Triple}
use Rattle.fx_outside.specs.Endpoints.{EndpointParts}
use Rattle.fx_outside.specs.Streams.{AppendsPart}
use Rattle.fx_algebra.specs.Answers.{answer}
use Rattle.fx_algebra.specs.Graphs.{union}
use Rattle.fx_algebra.specs.Units.{of_kept}
use Rattle.fx_algebra.specs.declared.queries.Query.{Query}
use Rattle.fx_results.specs.Documents.{document}
use Rattle.fx_wire.specs.Exchanges.{Exchange}
use Rattle.fx_wire.specs.Honest.{IsHonest}
use Rattle.fx_member.specs.Served.{IsServedBy, Told, told}
use Rattle.fx_services.specs.Noted.{places}
use Rattle.fx_services.specs.declared.noted.Down.{Down}
use Rattle.fx_sources.specs.Registries.{IsRegistry}
use Rattle.fx_sources.specs.Sources as source
use Rattle.fx_traffic.specs.Gains.{AreAfter, HaveGained}
use Rattle.fx_walks.specs.Unknown.{unknown_of}
use Rattle.fx_outcomes.specs.Mediation.{AreKnown, KnowsServices, Serve}
use Rattle.fx_outcomes.specs.Outcomes.{AllTell}
use Rattle.fx_outcomes.specs.Rounds.{everybody, without_all}
use Rattle.fx_outcomes.specs.declared.federated.FedError.{FedError}
use Rattle.fx_outcomes.specs.declared.rounds.OutcomeInRounds.{OutcomeInRounds}
use Rattle.fx_outcomes.specs.declared.rounds.Round.{Round}
use Rattle.fx_rounds.specs.LeftOut.{AreLeftOut, left_in}
use Rattle.fx_rounds.specs.Licences.{Licence}
use Rattle.fx_gateway.specs.Connected.{Connected, Federation, Gains, LinkSeen}
use Rattle.fx_gateway.specs.Replies.{fault_told}
use Rattle.fx_gateway.specs.declared.connections.GateError.{GateError}
use Rattle.fx_gateway.specs.declared.connections.GateError.TheVariants as error
use Rattle.fx_gateway.specs.declared.connections.Gated.{Gated}

-- ---- what is told

-- the members that are kept where these rounds were abandoned
abbrev pub kept_after : List EndpointParts → List Round → List Bool
kept_after endpoints rounds = without_all (left_in rounds) (everybody endpoints)

-- the union of their graphs
abbrev pub union_after : List EndpointParts → List (List Triple) → List Round → List Triple
union_after endpoints graphs rounds = union (of_kept (kept_after endpoints rounds) graphs)

-- What is told of a query, where the members have these graphs and each IRI has a graph for SERVICE: with 200 the document of its answer over the union of the graphs of the members that are kept, where the
-- occurrences of SERVICE are down that are known to be; or the fault that is known. Each SERVICE without SILENT names an endpoint, unless the first that doesn't is the fault.
pub data TellsOver (endpoints : List EndpointParts) (graphs : List (List Triple)) (services : List ℕ → List Triple) (gated : Gated) (q : Query) (t : Told) : Type 0 where
  answered : gated.fault ≡ None → unknown_of endpoints q ≡ None → t ≡ told 200 (document (answer q (union_after endpoints graphs gated.abandoned) services (places gated.down))) → TellsOver endpoints graphs services gated q t
  failed : (e : FedError) → gated.fault ≡ Some e → KnowsServices {X = OutcomeInRounds} endpoints q (Err e) → fault_told e ≡ Some t → TellsOver endpoints graphs services gated q t

-- ---- connections

-- a link gained such a reply, whole or in part, or nothing
abbrev pub GainsReply : LinkSeen → LinkSeen → (Gated → List ℕ → Type 0) → Result Gated GateError → Type 0
GainsReply before after P (Ok gated) = (reply : List ℕ) × P gated reply × Gains before after (λ old new. new ≡ old ++ reply)
GainsReply before after P (Err (error.WriteFault gated)) = (reply : List ℕ) × P gated reply × Gains before after (λ old new. AppendsPart old new reply)
GainsReply before after P (Err error.ReadFault) = Gains before after (λ old new. new ≡ old)
GainsReply before after P (Err error.Memory) = Gains before after (λ old new. new ≡ old)

-- Where the wires tell the graphs and what the cache held is true of them, a link that tells what it has left gains the reply that is told of that, for each input.
abbrev pub ConnectionsAreTold : Type 0
ConnectionsAreTold = (before after : LinkSeen) (f : Federation) (result : Result Gated GateError) → Connected before after f result → IsTrue before.tells_left
    → (graphs : List (List Triple)) → AreKnown f.wires.before f.endpoints f.old graphs → (services : List ℕ → List Triple) → Serve services f.endpoints graphs
    → GainsReply before after (λ gated reply. IsServedBy (TellsOver f.endpoints graphs services gated) before.left gated.status reply) result

-- where besides no member was left out, and there is no fault, the reply is honest over the union of all graphs
abbrev pub ConnectionsAreHonest : Type 0
ConnectionsAreHonest = (before after : LinkSeen) (f : Federation) (result : Result Gated GateError) → Connected before after f result → IsTrue before.tells_left
    → IsRegistry f.endpoints → (graphs : List (List Triple)) → AreKnown f.wires.before f.endpoints f.old graphs
    → GainsReply before after (λ gated reply. gated.fault ≡ None → gated.abandoned ≡ [] → IsHonest (union graphs) before.left reply) result

-- so it is of what is known beside a reply, where there is one
abbrev pub IfGated : (Gated → Type 0) → Result Gated GateError → Type 0
IfGated P (Ok gated) = P gated
IfGated P (Err (error.WriteFault gated)) = P gated
IfGated P (Err error.ReadFault) = Unit {0}
IfGated P (Err error.Memory) = Unit {0}

-- Of a query that was asked: no member is left out twice, each of these may be, and the others are kept. At each address as many faults at least were counted in this call as members were left out and
-- occurrences of SERVICE down since an exchange there failed. Each bad reply for which one is has an exchange of its own in this call, that asks for something of the query for which the reply is bad. So it is
-- together with those that were down in rounds that were abandoned.
pub record IsLicensed (f : Federation) (q : Query) (gated : Gated) : Type 0 where
  pub left_out : AreLeftOut f.endpoints (left_in gated.abandoned) (kept_after f.endpoints gated.abandoned)
  pub exchanges : List Exchange
  pub gained : IsTrue f.wires.tells → HaveGained f.wires.before f.wires.after exchanges
  pub earlier : List Down
  pub licence : Licence f.endpoints q f.wires.before f.wires.after exchanges (left_in gated.abandoned) (earlier ++ gated.down)

-- nobody is left out and nothing is down, or there is a licence for each
abbrev pub ConnectionsAreLicensed : Type 0
ConnectionsAreLicensed = (before after : LinkSeen) (f : Federation) (result : Result Gated GateError) → Connected before after f result → AllTell f.wires.tells f.wires.before → IsRegistry f.endpoints
    → IfGated (λ gated. ((gated.abandoned ≡ []) × (gated.down ≡ [])) ⊎ ((q : Query) × IsLicensed f q gated)) result

-- what the cache holds behind is true of the graphs again
abbrev pub CachesStayTrue : Type 0
CachesStayTrue = (before after : LinkSeen) (f : Federation) (result : Result Gated GateError) → Connected before after f result
    → (graphs : List (List Triple)) → AreKnown f.wires.before f.endpoints f.old graphs → All (source.Tells graphs) f.new

-- exchanges alone came to the wires: no log lost anything, no graph changed, and no count fell
abbrev pub WiresAreAfter : Type 0
WiresAreAfter = (before after : LinkSeen) (f : Federation) (result : Result Gated GateError) → Connected before after f result → AllTell f.wires.tells f.wires.before → AreAfter f.wires.before f.wires.after
